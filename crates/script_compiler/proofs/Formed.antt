-- The code of a script has every field in range.
use Rattle.script_compiler.proofs.Words.{[], ◌+◌, ◌<◌, ◌∙◌, ◌∷◌, ◌≡◌, ◌≢◌, ◌≤◌, AllByRecursion, AreBounds, AreLabelsOf}
use Rattle.script_compiler.proofs.Words.{Bool, CompileFault, Configuration, Contains, IfLimit, Instr, IsConfiguration}
use Rattle.script_compiler.proofs.Words.{IsDeepAtMost, IsJudged, IsLabel, IsLine, IsPlan, IsProgram, IsRefusal}
use Rattle.script_compiler.proofs.Words.{IsScript, Label, Limit, Line, List, Memory, PlacedInstr, Plan, Refused, Some}
use Rattle.script_compiler.proofs.Words.{Tree, UnpricedLabel, ap, arith, beginning, body_of, false, first_counters}
use Rattle.script_compiler.proofs.Words.{get_or, if◌then◌else◌, instrs_of, label_key, length, lines_of_placed, nested}
use Rattle.script_compiler.proofs.Words.{opening_of, option_map, placed_instrs, refl, slice_get, slice_get-map}
use Rattle.script_compiler.proofs.Words.{slice_get_within, subst, suc, sym, true, unpriced_label, unpriced_labels, zero}
use Rattle.script_compiler.proofs.Words.{ℕ}
use Rattle.plan_code.proofs.Ascending.{AscendsFrom, from_ascends}
use Rattle.plan_code.specs.declared.flags.Counters.{Counters}
use Rattle.script_compiler.proofs.Making.{labels_length, Parts, code_from, lines_are, marks_are}
use Rattle.script_compiler.proofs.Ranged.{bounds_at, all_bounds}
use Rattle.script_compiler.proofs.Rooms.{nested_deep}
use Rattle.script_compiler.proofs.Places.{first_of_all}
use Rattle.script_compiler.proofs.Labelled.{label_contained}
use Rattle.script_compiler.proofs.Emitted.{length_lines}
use Rattle.script_compiler.proofs.Paths.{one_least}

-- ---- properties of all members of a list

each_from : {A : Type 0} (P : A → Type 0) (xs : List A) → ((x : A) → Contains xs x → P x) → AllByRecursion P xs
each_from P [] h = tt
each_from P (x ∷ xs) h = (h x (0, omega arith, refl), each_from P xs (λ y c. h y (suc c.0, omega (arith, c.1), c.2)))

each_at : {A : Type 0} (P : A → Type 0) (xs : List A) (i : ℕ) (x d : A) → AllByRecursion P xs → i < length xs
    → get_or xs i d ≡ x → P x
each_at P [] i x d all lt e = absurd (omega (arith, lt))
each_at P (y ∷ xs) zero x d all lt e = subst P e all.0
each_at P (y ∷ xs) (suc i) x d all lt e = each_at P xs i x d all.1 (omega (arith, lt)) e

-- ---- labels, by their instructions

module _ (table : List Configuration) where
  raised : (b : Bool) (k : ℕ) (p : PlacedInstr) (ps : List PlacedInstr) (ls : List Label)
      → AreLabelsOf table (if b then unpriced_label k p ∷ unpriced_labels (k + 1) ps else unpriced_labels (k + 1) ps) ls
      → ((low : ℕ) (rest : List Label) → low ≤ k + 1 → AreLabelsOf table (unpriced_labels (k + 1) ps) rest
      → AscendsFrom label_key low rest) → (low : ℕ) → low ≤ k → AscendsFrom label_key low ls
  raised true k p ps [] are ih low le = absurd are
  raised true k p ps (l ∷ ls) are ih low le = let at = are.0.place in
      (omega (arith, at, le), ih (l.pc + 1) ls (omega (arith, at)) are.1)
  raised false k p ps ls are ih low le = ih low ls (omega (arith, le)) are

  ascends_marks : (ps : List PlacedInstr) (k low : ℕ) (ls : List Label) → low ≤ k
      → AreLabelsOf table (unpriced_labels k ps) ls → AscendsFrom label_key low ls
  ascends_marks [] k low ls le are = subst (λ (xs : List Label). AscendsFrom label_key low xs) (sym are) tt
  ascends_marks (p ∷ ps) k low ls le are =
      raised p.point.labelled k p ps ls are (λ low' rest le' a. ascends_marks ps (k + 1) low' rest le' a) low le

  counters_few : (r : ℕ) → r ≤ 8 → (first_counters r).0 < 256
  counters_few (suc (suc (suc (suc (suc (suc (suc (suc (suc r))))))))) le = absurd (omega (arith, le))
  counters_few _ le = omega arith

  counters_within : (ms : List UnpricedLabel) (ls : List Label) → AreLabelsOf table ms ls → IsDeepAtMost 8 ms
      → AllByRecursion (λ (l : Label). l.counters.0 < 256) ls
  counters_within [] ls are deep = rw are tt
  counters_within (m ∷ ms) [] are deep = absurd are
  counters_within (m ∷ ms) (l ∷ ls) are deep = (
    subst (λ (c : Counters). c.0 < 256) (sym are.0.counters) (counters_few m.repeats deep.0),
    counters_within ms ls are.1 deep.1,
  )

-- ---- counts

some_marks : (p : PlacedInstr) (ps qs : List PlacedInstr) → qs ≡ p ∷ ps → p.point.labelled ≡ true
    → 1 ≤ length (unpriced_labels 0 qs)
some_marks p ps qs e l =
    let there : unpriced_labels 0 qs ≡ unpriced_label 0 p ∷ unpriced_labels 1 ps = cc (e, l) in
    omega (arith, ap length there)

some_places : (p : PlacedInstr) (ps qs : List PlacedInstr) → qs ≡ p ∷ ps → 1 ≤ length qs
some_places p ps qs e = let n = ap length e in omega (arith, n)

some_table : (n : ℕ) (ls : List Label) → 1 ≤ length ls → AllByRecursion (IsLabel n) ls → 1 ≤ n
some_table n [] h all = absurd (omega (arith, h))
some_table n (l ∷ ls) h all = let c = all.0.current in omega (arith, c)

-- ---- the code

-- the statements of a script are valid, and its code is within the limits
pub record IsKept (s : Tree) (configs : List Configuration) : Type 0 where
  pub judged : IsJudged s.header (body_of s) (beginning (opening_of s))
  pub repeats : nested (body_of s) ≤ 8
  pub instructions : length (placed_instrs s) ≤ 4096
  pub labels : length (unpriced_labels 0 (placed_instrs s)) ≤ 1024
  pub configurations : length configs ≤ 256

module _ {s : Tree} {plan : Plan} {config : Configuration} {lines : List Line} {unpriced : List UnpricedLabel}
    {needs : List ℕ} {configs : List Configuration} {labels : List Label}
    (p : Parts s plan config lines unpriced needs configs labels) (script : IsScript s) (kept : IsKept s configs) where
  abbrev all : List PlacedInstr
  all = placed_instrs s

  lines_of_all : lines ≡ lines_of_placed all
  lines_of_all = lines_are p

  labels_of_all : AreLabelsOf configs (unpriced_labels 0 all) labels
  labels_of_all = subst (λ (ms : List UnpricedLabel). AreLabelsOf configs ms labels) (marks_are p) p.labelled

  budget_most : plan.budget ≤ 255
  budget_most = let h = script.headed.budget_to in let e = ap (λ (q : Plan). q.budget) p.made_from.plan_is in
      omega (arith, h, e)

  label_cost : (l : Label) → Contains labels l → (i : Instr) → slice_get (instrs_of lines) l.pc ≡ Some i → (1 ≤ l.cost)
      × (l.cost ≤ 255)
  label_cost l has i there =
      let least = one_least (instrs_of lines) plan.budget l.pc i there in
      (omega (arith, least), omega (arith, budget_most))

  instr_there : (k : ℕ) (q : PlacedInstr) → slice_get all k ≡ Some q → slice_get (instrs_of lines) k ≡ Some q.instr
  instr_there k q e =
      ap (λ (ls : List Line). slice_get (instrs_of ls) k) lines_of_all
      ∙ slice_get-map (λ (l : Line). l.instr) (lines_of_placed all) k
      ∙ ap (λ x. option_map (λ (l : Line). l.instr) x)
      (slice_get-map (λ (x : PlacedInstr). record { number = x.line; instr = x.instr }) all k
      ∙ ap (λ x. option_map (λ (x : PlacedInstr). record { number = x.line; instr = x.instr }) x) e)

  label_formed : AllByRecursion IsLine lines → (l : Label) → Contains labels l → IsLabel (length configs) l
  label_formed formed l has =
      let at = label_contained configs all labels 0 l labels_of_all has in
      let bounds = all_bounds s.header (let n = script.headed.notice_from in omega (arith, n)) script.headed.notice_to
      s.last_line (body_of s) (beginning (opening_of s)) kept.judged (rw (← lines_of_all) formed) tt in
      let pc_is : at.index ≡ l.pc = omega arith in
      let cost = label_cost l has at.place.instr
      (subst (λ k. slice_get (instrs_of lines) k ≡ Some at.place.instr) pc_is
      (instr_there at.index at.place at.there)) in
      record {
        place = omega (arith, slice_get_within all at.index at.place at.there);
        current = slice_get_within configs l.cur at.place.point.flow.current at.is.current;
        following = slice_get_within configs l.next at.place.point.flow.next at.is.following;
        bounds = subst AreBounds (sym at.is.pending) (bounds_at all at.index at.place bounds at.there);
        set = each_at (λ (x : Label). x.counters.0 < 256) labels has.0 l l
            (counters_within configs (unpriced_labels 0 all) labels labels_of_all
            (nested_deep s.header s.last_line (body_of s) (beginning (opening_of s)) kept.repeats)) has.1 has.2;
        cost_from = cost.0;
        cost_to = cost.1;
      }

  -- given that configurations and lines are in range
  pub parts_formed : AllByRecursion IsConfiguration configs → AllByRecursion IsLine lines
      → IsProgram (code_from plan configs labels lines)
  parts_formed made formed =
      let first = first_of_all s.header s.last_line (body_of s) (beginning (opening_of s)) in
      let labels_are = each_from (IsLabel (length configs)) labels (label_formed formed) in
      let count = labels_length configs (unpriced_labels 0 all) labels labels_of_all in
      let some = some_marks first.place first.rest all first.is (first.labelled refl) in
      let some_labels : 1 ≤ length labels = omega (arith, count, some) in
      let some_lines = some_places first.place first.rest all first.is in
      record {
        planned = subst IsPlan (sym p.made_from.plan_is) script.headed;
        configurations_from = some_table (length configs) labels some_labels labels_are;
        configurations_to = kept.configurations;
        configurations_formed = made;
        labels_from = some_labels;
        labels_to = omega (arith, count);
        labels_formed = labels_are;
        labels_ascend = from_ascends _ 0 _ (ascends_marks _ all 0 0 labels (omega arith) labels_of_all);
        lines_from = omega (arith, ap length lines_of_all, length_lines all, some_lines);
        lines_to = omega (arith, ap length lines_of_all, length_lines all);
        lines_formed = formed;
      }

-- a fault that is neither a refusal nor an exceeded limit is `Memory`
pub fault_either : (X : Type 0) (e : CompileFault) → (IsRefusal e → X) → IfLimit e (λ _ _. X) → e ≢ Memory → X
fault_either X (Refused line cause) r l other = r tt
fault_either X (Limit line limit) r l other = l
fault_either X Memory r l other = absurd (other refl)
