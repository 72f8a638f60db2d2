-- Lookup in the tables of a code: the label at an instruction, and what it declares.
use Rattle.plan_verifier.proofs.Words.{[], ◌+◌, ◌<◌, ◌∙◌, ◌∷◌, ◌≡◌, Arrives, Bool, Configuration, Contains, Declares}
use Rattle.plan_verifier.proofs.Words.{Instr, IsConfiguration, IsInstr, IsLabel, IsLine, IsProgram, IsTyping, Known}
use Rattle.plan_verifier.proofs.Words.{Label, Line, List, None, Option, Program, Some, ap, arith, configuration_at}
use Rattle.plan_verifier.proofs.Words.{contains_first, contains_later, continues, declared_by, each_contains, eqb}
use Rattle.plan_verifier.proofs.Words.{eqb-true, false, find, get_or_from_slice_get, instr_at, label_at, label_key}
use Rattle.plan_verifier.proofs.Words.{leaves, length, nothing, option_map, refl, slice_get, slice_get-get_or}
use Rattle.plan_verifier.proofs.Words.{slice_get_within, subst, sym, true, ℕ}
use Rattle.plan_code.proofs.Ascending.{find_at}

-- ---- lists

pub contains_at : {T : Type 0} (xs : List T) (k : ℕ) (x : T) → slice_get xs k ≡ Some x → Contains xs x
contains_at xs k x e = (k, slice_get_within xs k x e, get_or_from_slice_get xs k x x e)

found_by : {T : Type 0} (test : T → Bool) (y x : T) (ys : List T) (b : Bool) → test y ≡ b
    → (find test ys ≡ Some x → Contains ys x × (test x ≡ true))
    → find test (y ∷ ys) ≡ Some x → Contains (y ∷ ys) x × (test x ≡ true)
found_by test y x ys true is later e =
    let same : y ≡ x = cc in
    (subst (λ (z : _). Contains (y ∷ ys) z) same (contains_first y ys), subst (λ (z : _). test z ≡ true) same is)
found_by test y x ys false is later e =
    let h = later (sym (rw is refl) ∙ e) in
    (contains_later y ys x h.0, h.1)

pub found : {T : Type 0} (test : T → Bool) (xs : List T) (x : T) → find test xs ≡ Some x → Contains xs x
    × (test x ≡ true)
found test [] x e = absurd cc
found test (y ∷ ys) x e = found_by test y x ys (test y) refl (found test ys x) e

pub mapped : {T U : Type 0} (f : T → U) (o : Option T) (y : U) → option_map f o ≡ Some y → (x : T) × (o ≡ Some x)
    × (f x ≡ y)
mapped f None y e = absurd cc
mapped f (Some x) y e = (x, refl, cc)

within_table : (xs : List Configuration) (k : ℕ) → k < length xs → slice_get xs k ≡ Some (configuration_at xs k)
within_table xs k lt = slice_get-get_or xs k nothing lt

-- ---- codes

-- both configurations are well-formed
pub record AreFormed (t : Known) : Type 0 where
  pub current : IsConfiguration t.current
  pub next : IsConfiguration t.next

pub record IsTabled (code : Program) : Type 0 where
  pub declares : (label : Label) → Contains code.labels label → Declares code label (declared_by code label)
  pub formed : (label : Label) → Contains code.labels label → AreFormed (declared_by code label)
  pub found : (pc : ℕ) (label : Label) → label_at code pc ≡ Some label → Contains code.labels label × (label.pc ≡ pc)
  pub there : (label : Label) → Contains code.labels label → label_at code label.pc ≡ Some label
  pub instrs : (pc : ℕ) (i : Instr) → instr_at code pc ≡ Some i → IsInstr i

pub label_of : (code : Program) → IsProgram code → (label : Label) → Contains code.labels label
    → IsLabel (length code.configurations) label
label_of code h label here = each_contains (IsLabel (length code.configurations)) code.labels label h.labels_formed here

formed_at : (code : Program) → IsProgram code → (k : ℕ) → k < length code.configurations
    → IsConfiguration (configuration_at code.configurations k)
formed_at code h k lt = each_contains _ _ _ h.configurations_formed (contains_at _ _ _ (within_table _ _ lt))

pub tabled : (code : Program) → IsProgram code → IsTabled code
tabled code h = record {
  declares = λ label here.
      let l = label_of code h label here in
      record {
        current = within_table code.configurations label.cur l.current;
        next = within_table code.configurations label.next l.following;
        pending = refl;
        counters = refl;
        cost = refl;
      };
  formed = λ label here.
      let l = label_of code h label here in
      record { current = formed_at code h label.cur l.current; next = formed_at code h label.next l.following };
  found = λ pc label e.
      let f = found (λ (l : Label). eqb l.pc pc) code.labels label e in
      (f.0, eqb-true _ _ f.1);
  there = λ label here. find_at _ _ _ _ _ h.labels_ascend here.1 (ap label_key here.2) ∙ ap Some here.2;
  instrs = λ pc i e.
      let m = mapped (λ (l : Line). l.instr) (slice_get code.lines pc) i e in
      subst IsInstr m.2 (each_contains IsLine code.lines m.0 h.lines_formed (contains_at code.lines pc m.0 m.1)).formed;
}

-- a label declares exactly one state
pub some_same : {T : Type 0} (o : Option T) (x y : T) → o ≡ Some x → o ≡ Some y → x ≡ y
some_same o x y e f = let both : Some x ≡ Some y = sym e ∙ f in cc

pub declared_once : (code : Program) (label : Label) (t u : Known) → Declares code label t → Declares code label u
    → t ≡ u
declared_once code label t u a b =
    let current : t.current ≡ u.current = some_same _ _ _ a.current b.current in
    let next : t.next ≡ u.next = some_same _ _ _ a.next b.next in
    let pending : t.pending ≡ u.pending = sym a.pending ∙ b.pending in
    let counters : t.counters ≡ u.counters = sym a.counters ∙ b.counters in
    let allowance : t.allowance ≡ u.allowance = sym a.cost ∙ b.cost in
    λ i. record {
      current = current i;
      next = next i;
      pending = pending i;
      counters = counters i;
      allowance = allowance i;
    }

-- without a label, what is known is what the instruction before left
pub unlabelled : (p : Program) (typing : List Known) (pc : ℕ) (i : Instr) (t u : Known) → IsTyping p typing
    → instr_at p pc ≡ Some i → slice_get typing pc ≡ Some t → label_at p (pc + 1) ≡ None
    → slice_get typing (pc + 1) ≡ Some u → u ≡ leaves p.plan i t
unlabelled p typing pc i t u h at there e later =
    let after = h.reached (pc + 1) (subst (λ n. pc + 1 < n) h.each (slice_get_within typing (pc + 1) u later)) e in
    let back : after.before ≡ pc = omega (arith, after.next) in
    let same = some_same _ after.instr i (subst (λ k. instr_at p k ≡ Some after.instr) back after.there) at in
    let arrives = (h.safe pc i t at there).onward (subst (λ j. continues j ≡ true) same after.onward) in
    some_same _ u (leaves p.plan i t) later (subst (λ o. Arrives p typing (pc + 1) o (leaves p.plan i t)) e arrives)
