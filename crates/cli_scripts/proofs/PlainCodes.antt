-- The code of a script without blocks: its instructions one after another, then `end`; one label; and how many of them
-- can run in one frame.
use Rattle.cli_scripts.proofs.Words.{[], ◌++◌, ◌+◌, ◌-◌, ◌∙◌, ◌∷◌, ◌≡◌, ◌≤◌, ◌⊎◌, Act, Added, Bool, CommitAt, CommitIn}
use Rattle.cli_scripts.proofs.Words.{Configuration, End, FitFrames, Flow, HasPath, IsFine, IsJudged, IsSome}
use Rattle.cli_scripts.proofs.Words.{IsWithinBudget, Join, List, None, PlacedInstr, Plan, Settle, Some, Tabled, Until}
use Rattle.cli_scripts.proofs.Words.{Wait, WaitAny, WaitContact, acts_from, after_instr, all_places, alone, ap, arith}
use Rattle.cli_scripts.proofs.Words.{at_label, continues, drop, ends_frame, false, false≢true, if◌then◌else◌, inl, inr}
use Rattle.cli_scripts.proofs.Words.{instr_of_act, instrs_of, known_at, length, length-append, lines_of_placed, nested}
use Rattle.cli_scripts.proofs.Words.{nothing, onward, placed_instr, places, point_after, refl, subst, suc, suspends}
use Rattle.cli_scripts.proofs.Words.{target_of, true, unpriced_label, unpriced_labels, without_label, zero, ℕ}
use Rattle.std.specs.Prelude.{slice_get}
use Rattle.std.specs.List.{AllByRecursion}
use Rattle.plan_code.specs.declared.instr.Instr.{Instr}
use Rattle.script_front.specs.declared.tree.Act.TheVariants.{Edit}
use Rattle.script_compiler.specs.declared.flow.ProgramPoint.{ProgramPoint}
use Rattle.script_compiler.specs.declared.flow.UnpricedLabel.{UnpricedLabel}

-- ---- valid acts

-- each act is valid for what is known before it
abbrev pub FineActs : Plan → List Act → Flow → Type 0
FineActs plan [] t = Unit {0}
FineActs plan (a ∷ acts) t = IsFine plan (instr_of_act a) (known_at t)
    × FineActs plan acts (after_instr plan (instr_of_act a) t)

pub acts_judged : (plan : Plan) (line : ℕ) (acts : List Act) (s : ProgramPoint) → FineActs plan acts s.flow
    → IsJudged plan (acts_from line acts nothing) s
acts_judged plan line [] s h = tt
acts_judged plan line (a ∷ acts) s h =
    (h.0, acts_judged plan (line + 1) acts (without_label (after_instr plan (instr_of_act a) s.flow)) h.1)

pub none_nested : (line : ℕ) (acts : List Act) → nested (acts_from line acts nothing) ≡ 0
none_nested line [] = refl
none_nested line (a ∷ acts) = none_nested (line + 1) acts

-- ---- instructions

-- those of acts, and the last one
abbrev pub ending : List Act → List Instr
ending [] = End ∷ []
ending (a ∷ acts) = instr_of_act a ∷ ending acts

abbrev places_from : Plan → (last line : ℕ) → List Act → ProgramPoint → List PlacedInstr
places_from plan last line [] s = placed_instr last End 0 s ∷ []
places_from plan last line (a ∷ acts) s =
    placed_instr line (instr_of_act a) 0 s ∷ places_from plan last (line + 1) acts
    (without_label (after_instr plan (instr_of_act a) s.flow))

places_are : (plan : Plan) (last pc line : ℕ) (acts : List Act) (s : ProgramPoint)
    → places plan 0 pc (acts_from line acts nothing) s
    ++ onward (point_after plan (acts_from line acts nothing) s) [] (alone last End 0)
    ≡ places_from plan last line acts s
places_are plan last pc line [] s = refl
places_are plan last pc line (a ∷ acts) s =
    ap (λ (ps : List PlacedInstr). placed_instr line (instr_of_act a) 0 s ∷ ps)
    (places_are plan last (pc + 1) (line + 1) acts (without_label (after_instr plan (instr_of_act a) s.flow)))

instrs_from : (plan : Plan) (last line : ℕ) (acts : List Act) (s : ProgramPoint)
    → instrs_of (lines_of_placed (places_from plan last line acts s)) ≡ ending acts
instrs_from plan last line [] s = refl
instrs_from plan last line (a ∷ acts) s =
    ap (λ (is : List Instr). instr_of_act a ∷ is)
    (instrs_from plan last (line + 1) acts (without_label (after_instr plan (instr_of_act a) s.flow)))

count_from : (plan : Plan) (last line : ℕ) (acts : List Act) (s : ProgramPoint)
    → length (places_from plan last line acts s) ≡ length acts + 1
count_from plan last line [] s = refl
count_from plan last line (a ∷ acts) s =
    let rest = count_from plan last (line + 1) acts (without_label (after_instr plan (instr_of_act a) s.flow)) in
    omega (arith, rest)

-- ---- labels

unlabelled : (plan : Plan) (last line pc : ℕ) (acts : List Act) (t : Flow)
    → unpriced_labels pc (places_from plan last line acts (without_label t)) ≡ []
unlabelled plan last line pc [] t = refl
unlabelled plan last line pc (a ∷ acts) t =
    unlabelled plan last (line + 1) (pc + 1) acts (after_instr plan (instr_of_act a) t)

first_labelled : (plan : Plan) (last line : ℕ) (acts : List Act) (t : Flow)
    → (m : UnpricedLabel) × (unpriced_labels 0 (places_from plan last line acts (at_label t)) ≡ m ∷ [])
first_labelled plan last line [] t = (unpriced_label 0 (placed_instr last End 0 (at_label t)), refl)
first_labelled plan last line (a ∷ acts) t =
    let m = unpriced_label 0 (placed_instr line (instr_of_act a) 0 (at_label t)) in (
      m,
      ap (λ (ms : List UnpricedLabel). m ∷ ms)
          (unlabelled plan last (line + 1) 1 acts (after_instr plan (instr_of_act a) t)),
    )

added_few : (c : Configuration) (table new : List Configuration) → Added c table new → length new ≤ length table + 1
added_few c table new h = elim h [
  | inl there ↦ (let same = ap length there.1 in omega (arith, same))
  | inr more ↦ (let same = ap length more.1 in let long = length-append table (c ∷ []) in omega (arith, same, long))
]

two_tabled : (m : UnpricedLabel) (table : List Configuration) → Tabled [] (m ∷ []) table → length table ≤ 2
two_tabled m table (one, both, first, second, rest) =
    let a = added_few m.flow.current [] one first in
    let b = added_few m.flow.next one both second in
    let same : length table ≡ length both = ap length rest in
    omega (arith, a, b, same)

-- ---- how many instructions run in one frame

-- from the front up to the first that suspends
abbrev run_of : List Instr → ℕ
run_of [] = 0
run_of (i ∷ is) = if suspends i then 1 else 1 + run_of is

abbrev NoTargets : List Instr → Type 0
NoTargets is = AllByRecursion (λ i. target_of i ≡ None) is

no_target : (a : Act) → target_of (instr_of_act a) ≡ None
no_target (Edit edit) = refl
no_target (Wait frames) = refl
no_target (WaitContact contact closed) = refl
no_target (WaitAny alternatives) = refl
no_target (Until second) = refl
no_target (CommitIn delay) = refl
no_target (CommitAt count) = refl
no_target Join = refl
no_target Settle = refl

none_in : (acts : List Act) → NoTargets (ending acts)
none_in [] = (refl, tt)
none_in (a ∷ acts) = (no_target a, none_in acts)

cut_at : (code : List Instr) (pc : ℕ) (i : Instr) → slice_get code pc ≡ Some i → drop pc code ≡ i ∷ drop (suc pc) code
cut_at [] zero i e = absurd (cc)
cut_at [] (suc k) i e = absurd (cc)
cut_at (x ∷ xs) zero i e = let same : x ≡ i = cc in ap (λ (y : Instr). y ∷ xs) same
cut_at (x ∷ xs) (suc k) i e = cut_at xs k i e

target_at : (code : List Instr) (pc : ℕ) (i : Instr) → NoTargets code → slice_get code pc ≡ Some i → target_of i ≡ None
target_at [] zero i none e = absurd (cc)
target_at [] (suc k) i none e = absurd (cc)
target_at (x ∷ xs) zero i none e = let same : x ≡ i = cc in subst (λ (y : Instr). target_of y ≡ None) same none.0
target_at (x ∷ xs) (suc k) i none e = target_at xs k i none.1 e

one_or_more : (b : Bool) (n : ℕ) → 1 ≤ (if b then 1 else 1 + n)
one_or_more true n = omega arith
one_or_more false n = omega arith

one_runs : (code : List Instr) (pc : ℕ) → IsSome (slice_get code pc) → 1 ≤ run_of (drop pc code)
one_runs [] zero h = absurd (false≢true h)
one_runs [] (suc k) h = absurd (false≢true h)
one_runs (x ∷ xs) zero h = one_or_more (suspends x) (run_of xs)
one_runs (x ∷ xs) (suc k) h = one_runs xs k h

next_pc : (code : List Instr) (pc to : ℕ) (i : Instr) → NoTargets code → slice_get code pc ≡ Some i
    → ((continues i ≡ true) × (to ≡ pc + 1)) ⊎ (target_of i ≡ Some to) → to ≡ suc pc
next_pc code pc to i none got steps = elim steps [
  | inl on ↦ (let e = on.1 in omega (arith, e))
  | inr away ↦ (let no = target_at code pc i none got in absurd (cc))
]

path_few : (code : List Instr) → NoTargets code → (n pc : ℕ) → HasPath code pc n → n ≤ run_of (drop pc code)
path_few code none zero pc h = omega arith
path_few code none (suc zero) pc h = one_runs code pc h
path_few code none (suc (suc n)) pc (i, to, got, steps, rest) =
    let next = next_pc code pc to i none got steps.1 in
    let more = path_few code none (suc n) (suc pc) (subst (λ (p : ℕ). HasPath code p (suc n)) next rest) in
    let is : run_of (drop pc code) ≡ 1 + run_of (drop (suc pc) code) =
    ap run_of (cut_at code pc i got) ∙ ap (λ (b : Bool). if b then 1 else 1 + run_of (drop (suc pc) code)) steps.0 in
    omega (arith, is, more)

-- ---- acts that fit their frames

suspends_as : (a : Act) → suspends (instr_of_act a) ≡ ends_frame a
suspends_as (Edit edit) = refl
suspends_as (Wait frames) = refl
suspends_as (WaitContact contact closed) = refl
suspends_as (WaitAny alternatives) = refl
suspends_as (Until second) = refl
suspends_as (CommitIn delay) = refl
suspends_as (CommitAt count) = refl
suspends_as Join = refl
suspends_as Settle = refl

-- the last of these acts ends its frame
abbrev pub EndsAfter : Act → List Act → Type 0
EndsAfter a [] = ends_frame a ≡ true
EndsAfter a (b ∷ acts) = EndsAfter b acts

run_step : (left : ℕ) (i : Instr) (rest : List Instr) (b : Bool) → suspends i ≡ b → 1 ≤ left
    → (b ≡ false → run_of rest ≤ left - 1) → run_of (i ∷ rest) ≤ left
run_step left i rest true s one few =
    let is : run_of (i ∷ rest) ≡ 1 = ap (λ (c : Bool). if c then 1 else 1 + run_of rest) s in
    omega (arith, is, one)
run_step left i rest false s one few =
    let is : run_of (i ∷ rest) ≡ 1 + run_of rest = ap (λ (c : Bool). if c then 1 else 1 + run_of rest) s in
    let less = few refl in
    omega (arith, is, less, one)

run_fits : (most left : ℕ) (a : Act) (acts : List Act) → EndsAfter a acts → FitFrames most left (a ∷ acts)
    → run_of (ending (a ∷ acts)) ≤ left
run_fits most left a [] e h =
    run_step left (instr_of_act a) (ending []) true (suspends_as a ∙ e) h.0 (λ no. absurd (cc))
run_fits most left a (b ∷ acts) e h =
    run_step left (instr_of_act a) (ending (b ∷ acts)) (ends_frame a) (suspends_as a) h.0
    (λ no. run_fits most (left - 1) b acts e
    (subst (λ (c : Bool). FitFrames most (if c then most else left - 1) (b ∷ acts)) no h.1))

no_run : (k : ℕ) → run_of (drop k []) ≡ 0
no_run zero = refl
no_run (suc k) = refl

within_most : (b : Bool) (most left : ℕ) → left ≤ most → (if b then most else left - 1) ≤ most
within_most true most left le = omega arith
within_most false most left le = omega (arith, le)

runs_fit : (most left : ℕ) (a : Act) (acts : List Act) (pc : ℕ) → EndsAfter a acts → FitFrames most left (a ∷ acts)
    → left ≤ most → run_of (drop pc (ending (a ∷ acts))) ≤ most
runs_fit most left a acts zero e h le =
    let few = run_fits most left a acts e h in
    omega (arith, few, le)
runs_fit most left a [] (suc zero) e h le = (let one = h.0 in omega (arith, one, le))
runs_fit most left a [] (suc (suc k)) e h le = (let none = no_run k in omega (arith, none))
runs_fit most left a (b ∷ acts) (suc k) e h le =
    runs_fit most (if ends_frame a then most else left - 1) b acts k e h.1 (within_most (ends_frame a) most left le)

pub within_budget : (budget : ℕ) (a : Act) (acts : List Act) → EndsAfter a acts → FitFrames budget budget (a ∷ acts)
    → IsWithinBudget budget (ending (a ∷ acts))
within_budget budget a acts e h pc n path =
    let few = path_few (ending (a ∷ acts)) (none_in (a ∷ acts)) n pc path in
    let most = runs_fit budget budget a acts pc e h (omega arith) in
    omega (arith, few, most)

-- ---- the code of acts

pub record IsPlainCode (plan : Plan) (last line : ℕ) (acts : List Act) (t : Flow) : Type 0 where
  pub instrs : instrs_of (lines_of_placed (all_places plan last (acts_from line acts nothing) (at_label t)))
      ≡ ending acts
  pub count : length (all_places plan last (acts_from line acts nothing) (at_label t)) ≡ length acts + 1
  pub labels : length (unpriced_labels 0 (all_places plan last (acts_from line acts nothing) (at_label t))) ≡ 1
  pub tables :
      (table : List Configuration)
      → Tabled [] (unpriced_labels 0 (all_places plan last (acts_from line acts nothing) (at_label t))) table
      → length table ≤ 2

pub plain_code : (plan : Plan) (last line : ℕ) (acts : List Act) (t : Flow) → IsPlainCode plan last line acts t
plain_code plan last line acts t =
    let same = places_are plan last 0 line acts (at_label t) in
    let label = first_labelled plan last line acts t in
    let labels = ap (unpriced_labels 0) same ∙ label.1 in
    record {
      instrs = ap (λ (ps : List PlacedInstr). instrs_of (lines_of_placed ps)) same
          ∙ instrs_from plan last line acts (at_label t);
      count = ap length same ∙ count_from plan last line acts (at_label t);
      labels = ap length labels;
      tables = λ table h. two_tabled label.0 table (subst (λ (ms : List UnpricedLabel). Tabled [] ms table) labels h);
    }
