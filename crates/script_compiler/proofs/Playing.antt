-- The code of a script plays as the script reads, over every list of events.
use Rattle.script_compiler.proofs.Words.{[], ◌++◌, ◌+◌, ◌==◌, ◌∙◌, ◌∷◌, ◌≡◌, ◌⊎◌, AreLabelsOf, Block, Bool}
use Rattle.script_compiler.proofs.Words.{Configuration, Contact, End, Executes, Flow, Frame, FrameIsAllowed, IsCodeOf}
use Rattle.script_compiler.proofs.Words.{IsInstr, IsProgram, Jump, Label, Line, List, None, Option, Performs}
use Rattle.script_compiler.proofs.Words.{PerformsAll, PerformsEvent, PerformsFrame, PlacedInstr, Plan, Program}
use Rattle.script_compiler.proofs.Words.{ProgramPoint, Reading, Running, Scene, ScriptsPlayAsTheyRead, Some, Start}
use Rattle.script_compiler.proofs.Words.{State, Tree, after_burst, after_frame, all_places, alone, ap, apply, arith}
use Rattle.script_compiler.proofs.Words.{basic, beginning, begins, body_of, closes, either, eq-eqb, falls_out, false}
use Rattle.script_compiler.proofs.Words.{find, first_done, followed, forever, head, if◌then◌else◌, inl, inr, instr_at}
use Rattle.script_compiler.proofs.Words.{label_at, length, lines_of_placed, nothing, onward, opening_of, opens}
use Rattle.script_compiler.proofs.Words.{option_map, placed_instr, places, point_after, reading, ready, refl, repeat}
use Rattle.script_compiler.proofs.Words.{scene_of, shown, slice_get, slice_get-map, step, stop, subst, suc, sym, true}
use Rattle.script_compiler.proofs.Words.{unpriced_label, unpriced_labels, when, zero, ℕ}
use Rattle.plan_runs.specs.declared.event.Event.{Event}
use Rattle.plan_runs.specs.Runs.{IsStart, RunIsAllowed, happens, run}
use Rattle.plan_runs.specs.TypedRuns.{IsPlayed}
use Rattle.plan_runs.proofs.Between.{line_formed}
use Rattle.plan_runs.proofs.Reached.{starts_are_reached}
use Rattle.plan_runs.proofs.TypedRuns.{typed_code_runs}
use Rattle.script_compiler.proofs.Scenes.{ready_scene, ready_place, shown_scene}
use Rattle.script_compiler.proofs.Places.{Stand, stand_front, stand_back, stand_all}
use Rattle.script_compiler.proofs.Following.{Follows, Goes, there_after, ends_follow, block_plays}

-- ---- the first label of a script's code names the opening

-- instructions of which the first has a label where this is known
abbrev BeginsAt : Flow → List PlacedInstr → Type 0
BeginsAt t [] = ⊥
BeginsAt t (p ∷ ps) = (p.point.flow ≡ t) × (p.point.labelled ≡ true)

begins_then : (t : Flow) (ps qs : List PlacedInstr) → BeginsAt t ps → BeginsAt t (ps ++ qs)
begins_then t [] qs h = absurd h
begins_then t (p ∷ ps) qs h = h

-- the code of a block begins so, or it is empty and the point is unchanged
abbrev Begins : ProgramPoint → List PlacedInstr → Option ProgramPoint → Type 0
Begins s ps w = BeginsAt s.flow ps ⊎ ((ps ≡ []) × (w ≡ Some s))

labelled_head : (body : Block) (s : ProgramPoint) → s.labelled ≡ true → head body s ≡ s
labelled_head body s h = by (falls_out body)
  where
    by : (b : Bool) → (let u : ProgramPoint = record { flow = s.flow; labelled = if b then true else s.labelled } in u)
        ≡ s
    by true = ap (λ l. let u : ProgramPoint = record { flow = s.flow; labelled = l } in u) (sym h)
    by false = refl

block_begins : (plan : Plan) (r pc : ℕ) (b : Block) (s : ProgramPoint) → s.labelled ≡ true
    → Begins s (places plan r pc b s) (point_after plan b s)
block_begins plan r pc nothing s h = inr (refl, refl)
block_begins plan r pc (basic line act rest) s h = inl (refl, h)
block_begins plan r pc (stop line rest) s h = inl (refl, h)
block_begins plan r pc (when line c first rest) s h = inl (refl, h)
block_begins plan r pc (either line c first second rest) s h = inl (refl, h)
block_begins plan r pc (repeat line n body rest) s h = inl (refl, h)
block_begins plan r pc (forever line body rest) s h = by (block_begins plan r pc body s h)
  where
    same : head body s ≡ s
    same = labelled_head body s h

    jumping : List PlacedInstr → Option ProgramPoint → List PlacedInstr
    jumping ps w = ps ++ onward w [] (alone line (Jump pc) r)

    goal : List PlacedInstr → Type 0
    goal ps = BeginsAt s.flow ps ⊎ ((ps ≡ []) × (None ≡ Some s))

    by : Begins s (places plan r pc body s) (point_after plan body s)
        → goal (jumping (places plan r pc body (head body s)) (point_after plan body (head body s)))
    by (inl there) = subst (λ u. goal (jumping (places plan r pc body u) (point_after plan body u))) (sym same)
        (inl (begins_then s.flow (places plan r pc body s)
        (onward (point_after plan body s) [] (alone line (Jump pc) r)) there))
    by (inr none) = subst (λ u. goal (jumping (places plan r pc body u) (point_after plan body u))) (sym same)
        (subst (λ ps. goal (jumping ps (point_after plan body s))) (sym none.0)
        (subst (λ w. goal (jumping [] w)) (sym none.1) (inl (refl, h))))
block_begins plan r pc (apply line number named rest) s h =
    by (block_begins plan r pc named s h) (block_begins plan r (pc + 0) rest s h)
  where
    following : List PlacedInstr → Option ProgramPoint → List PlacedInstr
    following ps w = ps ++ onward w [] (λ u. places plan r (pc + length ps) rest u)

    by : Begins s (places plan r pc named s) (point_after plan named s)
        → Begins s (places plan r (pc + 0) rest s) (point_after plan rest s) →
        Begins s (following (places plan r pc named s) (point_after plan named s))
        (onward (point_after plan named s) None (λ u. point_after plan rest u))
    by (inl there) more = inl (begins_then s.flow (places plan r pc named s)
        (onward (point_after plan named s) [] (λ u. places plan r (pc + length (places plan r pc named s)) rest u))
        there)
    by (inr none) more =
        subst (λ ps. Begins s (following ps (point_after plan named s))
        (onward (point_after plan named s) None (λ u. point_after plan rest u))) (sym none.0)
        (subst (λ w. Begins s (following [] w) (onward w None (λ u. point_after plan rest u))) (sym none.1)
        more)

-- the whole code begins so
all_begin : (plan : Plan) (last : ℕ) (b : Block) (s : ProgramPoint) → s.labelled ≡ true
    → BeginsAt s.flow (all_places plan last b s)
all_begin plan last b s h = by (block_begins plan 0 0 b s h)
  where
    by : Begins s (places plan 0 0 b s) (point_after plan b s)
        → BeginsAt s.flow (places plan 0 0 b s ++ onward (point_after plan b s) [] (alone last End 0))
    by (inl there) = begins_then s.flow (places plan 0 0 b s) (onward (point_after plan b s) [] (alone last End 0))
        there
    by (inr none) =
        subst (λ ps. BeginsAt s.flow (ps ++ onward (point_after plan b s) [] (alone last End 0))) (sym none.0)
        (subst (λ w. BeginsAt s.flow (onward w [] (alone last End 0))) (sym none.1) (refl, h))

-- so the label at the first instruction names it
first_label : (table : List Configuration) (ls : List Label) (t : Flow) (ps : List PlacedInstr) → BeginsAt t ps
    → AreLabelsOf table (unpriced_labels 0 ps) ls →
    (l : Label) → find (λ (x : Label). x.pc == 0) ls ≡ Some l → slice_get table l.cur ≡ Some t.current
first_label table ls t [] h labels l e = absurd h
first_label table ls t (p ∷ ps) h labels l e =
    by ls (subst (λ b. AreLabelsOf table (if b then unpriced_label 0 p ∷ unpriced_labels 1 ps else unpriced_labels 1 ps)
    ls) h.1 labels) e
  where
    by : (xs : List Label) → AreLabelsOf table (unpriced_label 0 p ∷ unpriced_labels 1 ps) xs
        → find (λ (x : Label). x.pc == 0) xs ≡ Some l → slice_get table l.cur ≡ Some t.current
    by [] wrong found = absurd wrong
    by (x ∷ xs) all found =
        let at : (x.pc == 0) ≡ true = eq-eqb x.pc 0 all.0.place in
        let same : x ≡ l = let y : Some x ≡ Some l =
        sym (ap (λ b. if b then Some x else find (λ (y : Label). y.pc == 0) xs) at) ∙ found in cc in
        subst (λ (y : Label). slice_get table y.cur ≡ Some t.current) same
        (all.0.current ∙ ap (λ (f : Flow). Some f.current) h.0)

pub opening_first : (s : Tree) (code : Program) (l : Label) → IsCodeOf s code → label_at code 0 ≡ Some l
    → slice_get code.configurations l.cur ≡ Some (opening_of s)
opening_first s code l h e =
    first_label _ _ _ _ (all_begin s.header s.last_line (body_of s) (beginning (opening_of s)) refl) h.labels _ e

-- ---- the code of a script plays as the script reads, over every list of events

-- ---- exactly one reading

pub performs_one : (plan : Plan) (n m : ℕ) (x y z : Reading) → Performs plan x n y → Performs plan x m z → z ≡ y
performs_one plan zero zero x y z h g = sym g.1 ∙ h.1
performs_one plan zero (suc m) x y z h g = let stops = h.0 in let runs = g.0 in absurd cc
performs_one plan (suc n) zero x y z h g = let stops = g.0 in let runs = h.0 in absurd cc
performs_one plan (suc n) (suc m) x y z h g = performs_one plan n m (first_done plan x.todo x.scene) y z h.2 g.2

event_one : (plan : Plan) (e : Event) (x y z : Reading) → PerformsEvent plan x e y → PerformsEvent plan x e z → z ≡ y
event_one plan (Contact c closed) x y z h g = g ∙ sym h
event_one plan Frame x y z h g =
    g.counts ∙ ap (λ (r : Reading). reading r.todo (closes plan r.scene))
    (performs_one plan h.steps g.steps (reading x.todo (opens x.scene)) h.done g.done h.statements g.statements)
    ∙ sym h.counts

pub all_one : (plan : Plan) (es : List Event) (x y z : Reading) → PerformsAll plan x es y → PerformsAll plan x es z
    → z ≡ y
all_one plan [] x y z h g = sym g ∙ h
all_one plan (e ∷ es) x y z h g = all_one plan es h.0 y z h.2 (rw (← event_one plan e x h.0 g.0 h.1 g.1) g.2)

-- ---- bursts, frames and events

module _ (p : Program) where
  -- the script executes what a burst of the code does, and the code still follows what is left
  burst_plays : (n more : ℕ) (s t : State) (b : Block) → Follows p (n + more) s.pc s.counters b → Executes p s n t →
      (c : Block) × (m : ℕ) × Performs p.plan (reading b (scene_of s)) m (reading c (scene_of t))
      × Follows p more t.pc t.counters c
  burst_plays zero more s t b f h =
      let g : Follows p more s.pc s.counters b = subst (λ q. Follows p q s.pc s.counters b) (omega arith) f in (
        b,
        0,
        (h.0, ap (λ (u : State). reading b (scene_of u)) h.1),
        subst (λ (u : State). Follows p more u.pc u.counters b) h.1 g,
      )
  burst_plays (suc n) more s t b f h =
      let len : suc n + more ≡ suc (n + more) = omega arith in
      let one = (subst (λ q. Follows p q s.pc s.counters b) len f) s h.0 h.1 in
      let rest = burst_plays n more (step p s) t one.0 one.2 h.2 in
      let all = one.1 rest.1 (reading rest.0 (scene_of t)) rest.2 in
      (rest.0, all.0, all.1, rest.3)

  -- the number of instructions that a run executes
  abbrev counted : (events : List Event) (s : State) → RunIsAllowed p s events → ℕ
  counted [] s h = 0
  counted (Contact c closed ∷ es) s h = counted es (happens p s (Contact c closed)) h.1
  counted (Frame ∷ es) s h = h.0.steps + counted es (after_frame p s) h.1

  frame_plays : (more : ℕ) (s : State) (b : Block) (h : FrameIsAllowed p s)
      → Follows p (h.steps + more) s.pc s.counters b →
      (c : Block) × PerformsFrame p.plan (reading b (scene_of s)) (reading c (scene_of (after_frame p s)))
      × Follows p more (after_frame p s).pc (after_frame p s).counters c
  frame_plays more s b h f =
      let begun = ready_place s in
      let t = after_burst p s in
      let f' : Follows p (h.steps + more) (ready s).pc (ready s).counters b = rw begun.1 (rw begun.0 f) in
      let r = burst_plays h.steps more (ready s) t b f' h.executes in
      let ended = shown_scene p s in
      let statements = subst (λ x. Performs p.plan (reading b x) r.1 (reading r.0 (scene_of t))) (ready_scene s) r.2 in
      let counts = ap (λ x. closes p.plan x) ended.0 in
      let follows : Follows p more (shown p s).pc (shown p s).counters r.0 =
      subst (λ x. Follows p more (shown p s).pc x r.0) (sym ended.1.1)
      (subst (λ x. Follows p more x t.counters r.0) (sym ended.1.0) r.3) in (
        r.0,
        record {
          steps = r.1;
          done = reading r.0 (scene_of t);
          statements = statements;
          counts = ap (reading r.0) counts;
        },
        follows,
      )

  events_play : (events : List Event) (s : State) (b : Block) (h : RunIsAllowed p s events)
      → Follows p (counted events s h) s.pc s.counters b →
      (c : Block) × PerformsAll p.plan (reading b (scene_of s)) events (reading c (scene_of (run p s events)))
  events_play [] s b h f = (b, refl)
  events_play (Contact contact closed ∷ es) s b h f =
      let t = happens p s (Contact contact closed) in
      let rest = events_play es t b h.1 f in
      (rest.0, (reading b (scene_of t), refl, rest.1))
  events_play (Frame ∷ es) s b h f =
      let one = frame_plays (counted es (after_frame p s) h.1) s b h.0 f in
      let rest = events_play es (after_frame p s) one.0 h.1 one.2 in
      (rest.0, (reading one.0 (scene_of (after_frame p s)), one.1, rest.1))

-- ---- scripts

instr_there : (p : Program) (ps : List PlacedInstr) → p.lines ≡ lines_of_placed ps → (pc : ℕ) (q : PlacedInstr)
    → slice_get ps pc ≡ Some q → instr_at p pc ≡ Some q.instr
instr_there p ps h pc q e =
    ap (λ (ls : List Line). option_map (λ (l : Line). l.instr) (slice_get ls pc)) h
    ∙ ap (λ o. option_map (λ (l : Line). l.instr) o)
    (slice_get-map (λ (x : PlacedInstr). let l : Line = record { number = x.line; instr = x.instr } in l) ps pc
    ∙ ap (λ o. option_map (λ (x : PlacedInstr). let l : Line = record { number = x.line; instr = x.instr } in l) o)
    e)

-- a block followed by nothing is the block
then_nothing : (b : Block) → followed b nothing ≡ b
then_nothing nothing = refl
then_nothing (basic line act rest) = ap (λ x. basic line act x) (then_nothing rest)
then_nothing (stop line rest) = ap (λ x. stop line x) (then_nothing rest)
then_nothing (when line c first rest) = ap (λ x. when line c first x) (then_nothing rest)
then_nothing (either line c first second rest) = ap (λ x. either line c first second x) (then_nothing rest)
then_nothing (repeat line n body rest) = ap (λ x. repeat line n body x) (then_nothing rest)
then_nothing (forever line body rest) = ap (λ x. forever line body x) (then_nothing rest)
then_nothing (apply line k named rest) = ap (λ x. apply line k named x) (then_nothing rest)

-- the code of a whole block follows it from the start
code_follows : (p : Program) (last : ℕ) (b : Block) (start : ProgramPoint) → IsProgram p
    → p.lines ≡ lines_of_placed (all_places p.plan last b start) →
    (n : ℕ) (cs : List ℕ) → length cs ≡ 8 → Follows p n 0 cs b
code_follows p last b start formed lines n cs eight =
    let whole = all_places p.plan last b start in
    let body = places p.plan 0 0 b start in
    let ending = onward (point_after p.plan b start) [] (alone last End 0) in
    let there = instr_there p whole lines in
    let fine : (pc : ℕ) (q : PlacedInstr) → slice_get whole pc ≡ Some q → IsInstr q.instr =
    λ pc q e. line_formed p.lines pc q.instr formed.lines_formed (there pc q e) in
    let st : Stand whole 0 whole = stand_all whole [] in
    let goes : Goes p whole there fine n (0 + length body) 0 (point_after p.plan b start) cs nothing =
    λ m le u ds e same.
    let j = there_after p whole there fine last End 0 (0 + length body) (λ x. []) (point_after p.plan b start) u e
    (stand_back whole 0 body ending st) in
    ends_follow p m (0 + length body) ds (there (0 + length body) (placed_instr last End 0 u) j.0) in
    subst (λ x. Follows p n 0 cs x) (then_nothing b)
    (block_plays p whole there fine n b 0 0 start nothing cs (stand_front whole 0 body ending st) eight goes)

-- a start of the code is a start of the script
starts_alike : (s : Tree) (p : Program) (start : Start) (first : State) → IsCodeOf s p → IsStart p start first
    → scene_of first ≡ (begins s start).scene
starts_alike s p start first code h =
    let opens' : Some first.current ≡ Some (opening_of s) = sym h.current ∙ opening_first s p h.label code h.first in
    let current : first.current ≡ opening_of s = cc in
    let next : first.next ≡ opening_of s = h.next ∙ current in
    ap (λ x. let y : Scene = record {
      current = x;
      next = first.next;
      left = first.left;
      hold = first.hold;
      contacts = first.contacts;
      count = first.count;
      day = first.day;
    } in y) current
    ∙ ap (λ x. let y : Scene = record {
      current = opening_of s;
      next = x;
      left = first.left;
      hold = first.hold;
      contacts = first.contacts;
      count = first.count;
      day = first.day;
    } in y) next
    ∙ ap (λ x. let y : Scene = record {
      current = opening_of s;
      next = opening_of s;
      left = x;
      hold = first.hold;
      contacts = first.contacts;
      count = first.count;
      day = first.day;
    } in y) h.left
    ∙ ap (λ x. let y : Scene = record {
      current = opening_of s;
      next = opening_of s;
      left = None;
      hold = x;
      contacts = first.contacts;
      count = first.count;
      day = first.day;
    } in y) h.hold
    ∙ ap (λ x. let y : Scene = record {
      current = opening_of s;
      next = opening_of s;
      left = None;
      hold = Running;
      contacts = x;
      count = first.count;
      day = first.day;
    } in y) h.contacts
    ∙ ap (λ x. let y : Scene = record {
      current = opening_of s;
      next = opening_of s;
      left = None;
      hold = Running;
      contacts = start.contacts;
      count = x;
      day = first.day;
    } in y) h.count
    ∙ ap (λ x. let y : Scene = record {
      current = opening_of s;
      next = opening_of s;
      left = None;
      hold = Running;
      contacts = start.contacts;
      count = start.count;
      day = x;
    } in y) h.day

pub scripts_play : ScriptsPlayAsTheyRead
scripts_play s p formed typed code start first events in_range started within =
    let played : IsPlayed p first =
    record { program = formed; typed = typed; reached = starts_are_reached p start first in_range started } in
    let allowed : RunIsAllowed p first events = (typed_code_runs p first events played).allowed in
    let lines : p.lines ≡ lines_of_placed (all_places p.plan s.last_line (body_of s) (beginning (opening_of s))) =
    rw code.plan code.lines in
    let eight : length first.counters ≡ 8 = ap length started.counters in
    let n = counted p events first allowed in
    let follows : Follows p n first.pc first.counters (body_of s) = subst
    (λ pc. Follows p n pc first.counters (body_of s)) (sym started.pc) (code_follows _ _ _ _ formed lines _ _ eight) in
    let r = events_play p events first (body_of s) allowed follows in
    let there = reading r.0 (scene_of (run p first events)) in
    let comes : PerformsAll s.header (begins s start) events there =
    rw (← starts_alike s p start first code started) (rw (← code.plan) r.1) in
    record {
      end = there;
      comes = comes;
      only = λ other h. all_one s.header events (begins s start) there other comes h;
      same = refl;
    }
