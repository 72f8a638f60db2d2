-- The plan between two openings is accepted, if nothing prevents a plan.
use Rattle.cli_scripts.proofs.Words.{[], ◌%◌, ◌++◌, ◌+◌, ◌-◌, ◌==◌, ◌∙◌, ◌∷◌, ◌≡◌, ◌≢◌, ◌≤◌, Act, AreFine, Block, Bool}
use Rattle.cli_scripts.proofs.Words.{Configuration, FitFrames, Flow, IsAccepted, IsConfiguration, IsJudged, IsPlain}
use Rattle.cli_scripts.proofs.Words.{IsPlanFault, IsScript, IsSoundOpening, IsWithinBudget, List, Opening, PlacedInstr}
use Rattle.cli_scripts.proofs.Words.{Plan, Tabled, Tree, Wait, acts_from, all_places, ap, append_assoc, arith}
use Rattle.cli_scripts.proofs.Words.{beginning, block_of, body_of, false, if◌then◌else◌, instrs_of, length}
use Rattle.cli_scripts.proofs.Words.{length-append, lines_of_placed, nested, nothing, opening_of, pages_alone}
use Rattle.cli_scripts.proofs.Words.{placed_instrs, refl, subst, sym, table_of, true, unpriced_labels, with_items, ℕ}
use Rattle.mux_config.specs.Edits.{changed}
use Rattle.mux_config.specs.Sound.{IsSound}
use Rattle.mux_config.specs.declared.edit.Edit.{Edit}
use Rattle.script_config.specs.Differences.{edits_between}
use Rattle.script_config.specs.Making.{edits_that_make}
use Rattle.script_config.specs.Sequences.{Transform, HaveNoFault, after}
use Rattle.plan_code.specs.declared.label.Swap.TheVariants.{Idle}
use Rattle.script_compiler.specs.declared.fault.CompileFault.{CompileFault}
use Rattle.script_compiler.specs.declared.fault.CompileFault.TheVariants.{Memory}
use Rattle.script_front.specs.Alike.{added_by}
use Rattle.script_front.specs.declared.tree.Item.{Item}
use Rattle.script_front.specs.declared.tree.Statement.{Statement}
use Rattle.script_config.specs.Plan.{pause_after, paced, committed, plan_acts}
use Rattle.script_config.specs.Refusals.{FitsPeriod, CanBePlanned}
use Rattle.script_config.proofs.FewEdits.{few_between}
use Rattle.script_config.proofs.MorePages.{alone_within}
use Rattle.script_config.proofs.Pacing.{few_paced}
use Rattle.cli_scripts.specs.declared.diff.PlanFault.TheVariants.{Refused}
use Rattle.mux_config.specs.Configuration.{nothing as no_configuration}
use Rattle.cli_scripts.proofs.PlainCodes.{FineActs, acts_judged, none_nested, ending, EndsAfter, within_budget}
use Rattle.cli_scripts.proofs.PlainCodes.{plain_code}

-- ---- items

fine_items : (items : List Item) (c : Configuration) → HaveNoFault (added_by items) c → AreFine items c
fine_items [] c h = tt
fine_items (i ∷ items) c h = (h.0, fine_items items (changed i.edit c) h.1)

with_all : (items : List Item) (c : Configuration) → with_items items c ≡ after (added_by items) c
with_all [] c = refl
with_all (i ∷ items) c = with_all items (changed i.edit c)

-- ---- acts

-- nothing pending
abbrev idle : Configuration → Configuration → Flow
idle current next = record { current = current; next = next; pending = Idle }

fine_pause : (b : Bool) (plan : Plan) (acts : List Act) (c d : Configuration) → FineActs plan acts (idle c d)
    → FineActs plan ((if b then Wait 1 ∷ [] else []) ++ acts) (idle c d)
fine_pause true plan acts c d h = (tt, h)
fine_pause false plan acts c d h = h

fine_edits : (plan : Plan) (full n : ℕ) (es : List Edit) (c d : Configuration) (rest : List Act) → HaveNoFault es d
    → FineActs plan rest (idle c (after es d))
    → FineActs plan (paced full n es ++ rest) (idle c d)
fine_edits plan full n [] c d rest fine h = h
fine_edits plan full n (e ∷ es) c d rest fine h =
    let more = fine_edits plan full (n + 1) es c (changed e d) rest fine.1 h in (
      (refl, fine.0),
      subst (λ (acts : List Act). FineActs plan acts (idle c (changed e d)))
          (sym (append_assoc (pause_after full n) (paced full (n + 1) es) rest))
          (fine_pause (n % full == 0) plan (paced full (n + 1) es ++ rest) c (changed e d) more),
    )

fine_commit : (from to : Opening) → IsSoundOpening to → FitsPeriod to → CanBePlanned from to
    → FineActs to.header (committed to.header) (idle from.config to.config)
fine_commit from to o fits can = (
  (
    record {
      idle = refl;
      sound = o.sound;
      changes = λ e. can.changes (sym e);
      room = record { within_period = can.room.within_period; three_times = can.room.three_times; alone = fits };
    },
    omega arith,
  ),
  (tt, tt),
)

-- the last act of a plan ends its frame
abbrev LastEnds : List Act → Type 0
LastEnds [] = ⊥
LastEnds (a ∷ acts) = EndsAfter a acts

ends_more : (a : Act) (acts : List Act) → LastEnds acts → LastEnds (a ∷ acts)
ends_more a [] h = absurd h
ends_more a (b ∷ acts) h = h

ends_after : (acts rest : List Act) → LastEnds rest → LastEnds (acts ++ rest)
ends_after [] rest h = h
ends_after (a ∷ acts) rest h = ends_more a (acts ++ rest) (ends_after acts rest h)

plan_ends : (header : Plan) (from to : Configuration) → LastEnds (plan_acts header from to)
plan_ends header from to = ends_after (paced (header.budget - 1) 1 (edits_between from to)) (committed header) refl

plan_within : (budget : ℕ) (acts : List Act) → LastEnds acts → FitFrames budget budget acts
    → IsWithinBudget budget (ending acts)
plan_within budget [] h fit = absurd h
plan_within budget (a ∷ acts) h fit = within_budget budget a acts h fit

-- ---- the plan

-- a script without blocks, with this opening and these acts
pub record IsActing (tree : Tree) (plan : Plan) (c : Configuration) (line : ℕ) (acts : List Act) : Type 0 where
  pub heads : tree.header ≡ plan
  pub opens : opening_of tree ≡ c
  pub body : body_of tree ≡ acts_from line acts nothing

placed_as : (tree : Tree) (plan : Plan) (c : Configuration) (line : ℕ) (acts : List Act)
    → IsActing tree plan c line acts
    → placed_instrs tree ≡ all_places plan tree.last_line (acts_from line acts nothing) (beginning c)
placed_as tree plan c line acts is =
    ap (λ (h : Plan). all_places h tree.last_line (body_of tree) (beginning (opening_of tree))) is.heads
    ∙ ap (λ (b : Block). all_places plan tree.last_line b (beginning (opening_of tree))) is.body
    ∙ ap (λ (o : Configuration). all_places plan tree.last_line (acts_from line acts nothing) (beginning o)) is.opens

accepted_acts : (tree : Tree) (plan : Plan) (c : Configuration) (line : ℕ) (acts : List Act)
    → IsActing tree plan c line acts → AreFine tree.items no_configuration → IsSound c
    → pages_alone plan c ≤ plan.period → FineActs plan acts (idle c c) → length acts ≤ 4095 → LastEnds acts
    → FitFrames plan.budget plan.budget acts → IsAccepted tree
accepted_acts tree plan c line acts is made sound alone fine few ends frames =
    let code = plain_code plan tree.last_line line acts (idle c c) in
    let placed = placed_as tree plan c line acts is in
    let judged : IsJudged plan (acts_from line acts nothing) (beginning c) =
    acts_judged plan line acts (beginning c) fine in
    let count : length (placed_instrs tree) ≡ length acts + 1 = ap length placed ∙ code.count in
    let label : length (unpriced_labels 0 (placed_instrs tree)) ≡ 1 =
    ap (λ (ps : List PlacedInstr). length (unpriced_labels 0 ps)) placed ∙ code.labels in
    let flat : nested (body_of tree) ≡ 0 = ap nested is.body ∙ none_nested line acts in
    let instrs : instrs_of (lines_of_placed (placed_instrs tree)) ≡ ending acts =
    ap (λ (ps : List PlacedInstr). instrs_of (lines_of_placed ps)) placed ∙ code.instrs in
    record {
      made = made;
      sound = subst IsSound (sym is.opens) sound;
      within_period = subst (λ (h : Plan). pages_alone h (opening_of tree) ≤ h.period) (sym is.heads)
          (subst (λ (o : Configuration). pages_alone plan o ≤ plan.period) (sym is.opens) alone);
      judged = subst (λ (h : Plan). IsJudged h (body_of tree) (beginning (opening_of tree))) (sym is.heads)
          (subst (λ (b : Block). IsJudged plan b (beginning (opening_of tree))) (sym is.body)
          (subst (λ (o : Configuration). IsJudged plan (acts_from line acts nothing) (beginning o)) (sym is.opens)
          judged));
      instructions = omega (arith, count, few);
      labels = omega (arith, label);
      configurations = λ table h.
          let two = code.tables table
          (subst (λ (ps : List PlacedInstr). Tabled [] (unpriced_labels 0 ps) table) placed h) in
          omega (arith, two);
      repeats = omega (arith, flat);
      within = subst (λ (h : Plan). IsWithinBudget h.budget (instrs_of (lines_of_placed (placed_instrs tree))))
          (sym is.heads)
          (subst (IsWithinBudget plan.budget) (sym instrs) (plan_within plan.budget acts ends frames));
    }

plan_short : (header : Plan) (from to : Configuration) → IsConfiguration from → IsConfiguration to
    → length (plan_acts header from to) ≤ 4095
plan_short header from to is_from is_to =
    let few = few_between from to is_from is_to in
    let waits = few_paced (header.budget - 1) 1 (edits_between from to) in
    let size = length-append (paced (header.budget - 1) 1 (edits_between from to)) (committed header) in
    omega (arith, few, waits, size)

pub accepted_plan : (from to : Opening) (tree : Tree) → IsConfiguration from.config → IsConfiguration to.config
    → IsSoundOpening from → IsSoundOpening to
    → FitsPeriod to → CanBePlanned from to → Transform (edits_between from.config to.config) from.config to.config
    → FitFrames to.header.budget to.header.budget (plan_acts to.header from.config to.config)
    → Transform (added_by tree.items) no_configuration from.config
    → IsPlain to.header (edits_that_make from.config) (plan_acts to.header from.config to.config) tree → IsAccepted tree
accepted_plan from to tree is_from is_to first second fits can leads frames makes plain =
    let plan = to.header in
    let acts = plan_acts plan from.config to.config in
    let is : IsActing tree plan from.config (4 + length (edits_that_make from.config)) acts = record {
      heads = plain.heads;
      opens = with_all tree.items no_configuration ∙ makes.arrive;
      body = ap (λ (bs : List (List Statement)). block_of (table_of [] bs) tree.statements) plain.blocks
          ∙ plain.statements;
    } in
    let more = alone_within plan.layout from.config to.config in
    let room = can.room.within_period in
    let commit : FineActs plan (committed plan)
    (idle from.config (after (edits_between from.config to.config) from.config)) =
    subst (λ (d : Configuration). FineActs plan (committed plan) (idle from.config d)) (sym leads.arrive)
    (fine_commit from to second fits can) in
    accepted_acts tree plan from.config (4 + length (edits_that_make from.config)) acts is
    (fine_items tree.items no_configuration makes.fine) first.sound
    (omega (arith, more, room))
    (fine_edits plan (plan.budget - 1) 1 (edits_between from.config to.config) from.config from.config
    (committed plan) leads.fine commit)
    (plan_short plan from.config to.config is_from is_to) (plan_ends plan from.config to.config) frames

-- so the compiler refuses it only if the first configuration is not sound, or the second one does not fit its own
-- period
not_refused : (from to : Opening) (tree : Tree) (fault : CompileFault) → IsConfiguration from.config
    → IsConfiguration to.config → IsSoundOpening to → CanBePlanned from to
    → Transform (edits_between from.config to.config) from.config to.config
    → FitFrames to.header.budget to.header.budget (plan_acts to.header from.config to.config)
    → Transform (added_by tree.items) no_configuration from.config
    → IsPlain to.header (edits_that_make from.config) (plan_acts to.header from.config to.config) tree
    → (fault ≢ Memory → IsAccepted tree → ⊥) → fault ≢ Memory
    → IsSoundOpening from → FitsPeriod to → ⊥
not_refused from to tree fault is_from is_to second can leads frames makes plain refused reason first fits =
    refused reason (accepted_plan from to tree is_from is_to first second fits can leads frames makes plain)

pub refused_fault : (from to : Opening) (tree : Tree) (fault : CompileFault) → IsConfiguration from.config
    → IsConfiguration to.config → IsScript tree → IsSoundOpening to → CanBePlanned from to
    → Transform (edits_between from.config to.config) from.config to.config
    → FitFrames to.header.budget to.header.budget (plan_acts to.header from.config to.config)
    → Transform (added_by tree.items) no_configuration from.config
    → IsPlain to.header (edits_that_make from.config) (plan_acts to.header from.config to.config) tree
    → (fault ≢ Memory → IsAccepted tree → ⊥) → fault ≢ Memory
    → IsPlanFault from to (Refused fault)
refused_fault from to tree fault is_from is_to script second can leads frames makes plain refused reason = (
  can,
  record { tree = tree; script = script; plain = plain; refused = refused },
  not_refused from to tree fault is_from is_to second can leads frames makes plain refused reason,
)
