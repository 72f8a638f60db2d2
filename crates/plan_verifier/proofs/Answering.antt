-- The tests in the code have the results of the tests of the walk.
use Rattle.plan_verifier.proofs.Words.{◌&&◌, ◌↔◌, ◌∙◌, ◌≡◌, Bool, Configuration, FitsFlow, FitsSwap, IfSome}
use Rattle.plan_verifier.proofs.Words.{IndexedFlow, IsLabel, IsProgram, IsTrue, IsWithin, Known, Label, None, Option}
use Rattle.plan_verifier.proofs.Words.{Program, Some, Swap, ap, declared_by, false, false_from_ne_true, fits_swap}
use Rattle.plan_verifier.proofs.Words.{flow_at, flow_of, flow_of_label, includes, is_fit, is_same, known_at, label_at}
use Rattle.plan_verifier.proofs.Words.{length, refl, satisfies, sym, true, ℕ}
use Rattle.plan_verifier.specs.Walking.{fits_swap}
use Rattle.plan_verifier.specs.declared.fitting.Condition.{Condition}
use Rattle.plan_verifier.specs.Rules.{Known}
use Rattle.plan_verifier.proofs.Finding.{swap_alone}
use Rattle.plan_verifier.proofs.DecidingFlows.{Decides, decides_fits_swap, decides_fits, decides_same}
use Rattle.plan_verifier.proofs.Tabled.{tabled, label_of}

pub same_answer : (r b : Bool) (P : Type 0) → (IsTrue r ↔ P) → Decides b P → r ≡ b
same_answer true b P h d = sym (d.found (h.0 refl))
same_answer false b P h d = sym (false_from_ne_true b (λ e. let f : false ≡ true = h.1 (d.told e) in cc))

-- the label at an instruction is within its limits
pub label_within : (code : Program) (pc : ℕ) (o : Option Label) → IsProgram code → o ≡ label_at code pc
    → IfSome o (IsLabel (length code.configurations))
label_within code pc None h e = tt
label_within code pc (Some label) h e = label_of code h label ((tabled code h).found pc label (sym e)).0

-- what is known of the configurations and the swap fits what the label declares of them
flow_fits : (t declared : Known) → is_fit t declared ≡ true → FitsFlow (flow_of t) (flow_of declared)
flow_fits t declared e =
    (decides_fits_swap t.pending declared.pending (known_at (flow_of t)) (known_at (flow_of declared))).told
    (swap_alone t.pending declared.pending t declared ∙ (decides_fits_swap t.pending declared.pending t declared).found
    ((decides_fits t declared).told e).swap)

pub label_fits : (code : Program) (label : Label) (f : IndexedFlow) (t : Known) → f ≡ flow_of_label label
    → IsLabel (length code.configurations) label → is_fit t (declared_by code label) ≡ true
    → IsWithin (length code.configurations) f × FitsFlow (flow_of t) (flow_at code.configurations f)
label_fits code label f t e within fit = rw e ((within.current, within.following), flow_fits t _ fit)

-- fitting a label: the counters, then the configurations and the swap
pub fit_counters : (a b : Bool) (t declared : Known) → a ≡ includes t.counters declared.counters → a ≡ true
    → b ≡ fits_swap t.pending declared.pending t declared → b ≡ is_fit t declared
fit_counters a b t declared e true_here f = cc (f, e, true_here)

pub fit_no_counters : (a : Bool) (t declared : Known) → a ≡ includes t.counters declared.counters → a ≡ false
    → a ≡ is_fit t declared
fit_no_counters a t declared e false_here = cc (false_here, e)

-- ---- one path merged with another

-- the result of a test that decides it
pub answers : (r b : Bool) (P : Type 0) → r ≡ b → Decides b P → (IsTrue r ↔ P)
answers r b P e d = (λ h. d.told (sym e ∙ h), λ p. e ∙ d.found p)

pub fit_as : (r : Bool) (n m : Condition) (p q : Swap) (t u : Known) → fits_swap p q t u ≡ satisfies n t u → n ≡ m
    → r ≡ satisfies m t u → (IsTrue r ↔ FitsSwap p q t u)
fit_as r n m p q t u e is f = answers r (fits_swap p q t u) (FitsSwap p q t u)
    (f ∙ sym (ap (λ (x : Condition). satisfies x t u) is) ∙ sym e) (decides_fits_swap p q t u)

same_turned : (b : Bool) (c d : Configuration) → b ≡ is_same c d → b ≡ is_same d c
same_turned true c d e = sym ((decides_same d c).found (sym ((decides_same c d).told (sym e))))
same_turned false c d e = sym (false_from_ne_true (is_same d c)
    (λ h. let f : false ≡ true = e ∙ (decides_same c d).found (sym ((decides_same d c).told h)) in cc))

pub both_turned : (a b c d : Configuration) → (is_same a b && is_same c d) ≡ (is_same b a && is_same d c)
both_turned a b c d = cc (same_turned (is_same a b) a b refl, same_turned (is_same c d) c d refl)
