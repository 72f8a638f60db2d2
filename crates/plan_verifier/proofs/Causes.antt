-- The causes that the walk finds at an instruction are those of the definition of refusals.
use Rattle.plan_verifier.proofs.Words.{◌+◌, ◌<◌, ◌first_or◌, ◌∙◌, ◌≡◌, ◌≤◌, CanEnter, Cause, Declares, EntryRefused}
use Rattle.plan_verifier.proofs.Words.{Fits, FitsLabel, HasItsCounter, Instr, InstrRefused, IsConfiguration, IsFine}
use Rattle.plan_verifier.proofs.Words.{Jump, JumpRefused, Known, KnownRefused, Label, Loop, None, Option, Program}
use Rattle.plan_verifier.proofs.Words.{Reaches, Some, Target, Test, TestTime, ap, arith, continues, declared_by}
use Rattle.plan_verifier.proofs.Words.{entry_cause, flow_cause, instr_cause, is_fit, jump_cause, known_cause, label_at}
use Rattle.plan_verifier.proofs.Words.{length, not, not-false, refl, spent, subst, sym, target_cause, target_of, true}
use Rattle.plan_verifier.proofs.Words.{ℕ}
use Rattle.plan_verifier.proofs.Finding.{decides_is_true, decides_is_false, flow_computes, flow_fine, fine_none}
use Rattle.plan_verifier.proofs.Finding.{none_two, two_none, none_if, if_none, refuted, none_where, needed, none_unless}
use Rattle.plan_verifier.proofs.DecidingFlows.{Decides, Computes, decides_not, decides_both, decides_lt, decides_eq}
use Rattle.plan_verifier.proofs.DecidingFlows.{computes_always, computes_where, computes_orelse, decides_fits}
use Rattle.plan_verifier.proofs.Tabled.{IsTabled, declared_once}

-- ---- the cause found is the one that holds, if any does

pub decides_label : (code : Program) (label : Label) (t : Known) → Declares code label (declared_by code label)
    → Decides (is_fit t (declared_by code label)) (FitsLabel code label t)
decides_label code label t declares =
    let d = decides_fits t (declared_by code label) in
    record {
      told = λ e. (declared_by code label, declares, d.told e);
      found = λ h. d.found (subst (λ (u : Known). Fits t u) (declared_once code label _ _ h.1 declares) h.2);
    }

pub entry_computes : (code : Program) (label : Label) (t : Known) → Declares code label (declared_by code label)
    → Computes (entry_cause code label t) (EntryRefused code label t)
entry_computes code label t declares =
    computes_orelse _ _ _ _ (computes_where _ _ _ (decides_not _ _ (decides_label code label t declares)))
    (computes_where _ _ _ (decides_lt t.allowance label.cost))

jump_computes : (code : Program) (o : Option Label) (t : Known)
    → ((label : Label) → o ≡ Some label → Declares code label (declared_by code label))
    → Computes (jump_cause code o t) (JumpRefused code o t)
jump_computes code None t declares = computes_always Target
jump_computes code (Some label) t declares = entry_computes code label t (declares label refl)

pub declares_at : (code : Program) (pc : ℕ) → IsTabled code → (label : Label) → label_at code pc ≡ Some label
    → Declares code label (declared_by code label)
declares_at code pc h label e = h.declares label (h.found pc label e).0

target_computes : (code : Program) (target : ℕ) (t : Known) → IsTabled code
    → Computes (jump_cause code (label_at code target) t) (JumpRefused code (label_at code target) t)
target_computes code target t h = jump_computes code (label_at code target) t (declares_at code target h)

computes_alone : (o : Option Cause) (R : Cause → Type 0) → Computes o R → Computes (o first_or None) R
computes_alone None R c = c
computes_alone (Some cause) R c = c

instr_computes : (code : Program) (i : Instr) (t : Known) → IsTabled code
    → Computes (instr_cause code i t) (InstrRefused code i t)
instr_computes code (Test contact target) t h = computes_alone _ _ (target_computes code target (spent t) h)
instr_computes code (TestTime from to target) t h = computes_alone _ _ (target_computes code target (spent t) h)
instr_computes code (Jump target) t h = computes_alone _ _ (target_computes code target (spent t) h)
instr_computes code (Loop counter target) t h =
    computes_alone _ _ (computes_orelse _ _ _ _ (computes_where _ _ _ (decides_is_false _)) (target_computes _ _ _ h))
instr_computes code i t h = flow_computes code.plan i t

pub known_computes : (code : Program) (pc : ℕ) (i : Instr) (t : Known) → IsTabled code
    → Computes (known_cause code pc i t) (KnownRefused code pc i t)
known_computes code pc i t h =
    computes_orelse _ _ _ _ (computes_where _ _ _ (decides_eq t.allowance 0))
    (computes_orelse _ _ _ _ (instr_computes code i t h)
    (computes_where _ _ _ (decides_both _ _ _ _ (decides_is_true (continues i)) (decides_eq _ _))))

-- ---- no cause is found exactly where the instruction is fine

pub entry_comes : (code : Program) (label : Label) (t : Known) → Declares code label (declared_by code label)
    → entry_cause code label t ≡ None → CanEnter code label t
entry_comes code label t declares e =
    let parts = none_two _ _ e in
    let fit = needed _ _ _ (decides_label code label t declares) parts.0 in
    let enough : t.allowance < label.cost → ⊥ = refuted _ _ _ (decides_lt t.allowance label.cost) parts.1 in
    record { declared = fit.0; declares = fit.1; fits = fit.2; affords = omega (arith, enough) }

pub comes_none : (code : Program) (label : Label) (t : Known) → Declares code label (declared_by code label)
    → CanEnter code label t → entry_cause code label t ≡ None
comes_none code label t declares h =
    two_none _ _ (none_unless _ _ _ (decides_label code label t declares) (h.declared, h.declares, h.fits))
    (none_where _ _ _ (decides_lt t.allowance label.cost) (λ lt. omega (arith, h.affords, lt)))

jump_reaches : (code : Program) (target : ℕ) (o : Option Label) (t : Known) → label_at code target ≡ o
    → ((label : Label) → o ≡ Some label → Declares code label (declared_by code label))
    → jump_cause code o t ≡ None → Reaches code target t
jump_reaches code target None t at declares e = absurd cc
jump_reaches code target (Some label) t at declares e =
    record { label = label; there = at; comes = entry_comes code label t (declares label refl) e }

reaches_none : (code : Program) (target : ℕ) (t : Known) → IsTabled code → Reaches code target t
    → jump_cause code (label_at code target) t ≡ None
reaches_none code target t h r =
    rw r.there (comes_none code r.label t (declares_at code target h r.label r.there) r.comes)

reached_none : (code : Program) (target : ℕ) (t : Known) → IsTabled code
    → ((goal : ℕ) → Some target ≡ Some goal → Reaches code goal t) → jump_cause code (label_at code target) t ≡ None
reached_none code target t h r = reaches_none code target t h (r target refl)

none_reaches : (code : Program) (target : ℕ) (t : Known) → IsTabled code
    → jump_cause code (label_at code target) t ≡ None → (goal : ℕ) → Some target ≡ Some goal → Reaches code goal t
none_reaches code target t h e goal same =
    let here : target ≡ goal = cc in
    rw (← here) (jump_reaches code target (label_at code target) t refl (declares_at code target h) e)

no_target : (code : Program) (t : Known) → (goal : ℕ) → None ≡ Some goal → Reaches code goal t
no_target code t goal e = absurd cc

-- the instruction is fine, and its jump target, if any, can be reached
pub record IsGood (code : Program) (i : Instr) (t : Known) : Type 0 where
  pub fine : IsFine code.plan i t
  pub targets : (goal : ℕ) → target_of i ≡ Some goal → Reaches code goal (spent t)

-- a loop's counter is set, and the jump target, if any, can be reached
pub record HasTarget (code : Program) (i : Instr) (t : Known) : Type 0 where
  pub counter : HasItsCounter i t.counters
  pub targets : (goal : ℕ) → target_of i ≡ Some goal → Reaches code goal (spent t)

goes_nowhere : (code : Program) (i : Instr) (t : Known) → HasItsCounter i t.counters → target_of i ≡ None
    → HasTarget code i t
goes_nowhere code i t counter e =
    record { counter = counter; targets = λ goal f. no_target code (spent t) goal (sym e ∙ f) }

none_targets : (code : Program) (i : Instr) (t : Known) → IsTabled code → target_cause code i t ≡ None
    → HasTarget code i t
none_targets code (Test contact target) t h e =
    record { counter = tt; targets = none_reaches code target (spent t) h e }
none_targets code (TestTime from to target) t h e =
    record { counter = tt; targets = none_reaches code target (spent t) h e }
none_targets code (Jump target) t h e = record { counter = tt; targets = none_reaches code target (spent t) h e }
none_targets code (Loop counter target) t h e =
    let parts = none_two _ _ e in
    record { counter = not-false _ (none_if _ _ parts.0); targets = none_reaches code target (spent t) h parts.1 }
none_targets code i t h e = goes_nowhere code i t tt refl

pub instr_good : (code : Program) (i : Instr) (t : Known) → IsTabled code → instr_cause code i t ≡ None
    → IsGood code i t
instr_good code i t h e =
    let parts = none_two (target_cause code i t) (flow_cause code.plan i t) e in
    let there = none_targets code i t h parts.0 in
    record { fine = flow_fine code.plan i t there.counter parts.1; targets = there.targets }

targets_none : (code : Program) (i : Instr) (t : Known) → IsTabled code → IsGood code i t → target_cause code i t ≡ None
targets_none code (Test contact target) t h g = reached_none code target (spent t) h g.targets
targets_none code (TestTime from to target) t h g = reached_none code target (spent t) h g.targets
targets_none code (Jump target) t h g = reached_none code target (spent t) h g.targets
targets_none code (Loop counter target) t h g =
    two_none _ _ (if_none _ _ (ap not g.fine)) (reached_none code target (spent t) h g.targets)
targets_none code _ t h g = refl

pub good_none : (code : Program) (i : Instr) (t : Known) → IsTabled code → IsConfiguration t.next → IsGood code i t
    → instr_cause code i t ≡ None
good_none code i t h formed g = two_none _ _ (targets_none _ _ _ h g) (fine_none _ _ _ formed g.fine)

pub record IsPassed (code : Program) (pc : ℕ) (i : Instr) (t : Known) : Type 0 where
  pub allowance : 1 ≤ t.allowance
  pub good : IsGood code i t
  pub inside : continues i ≡ true → pc + 1 ≡ length code.lines → ⊥

pub known_passed : (code : Program) (pc : ℕ) (i : Instr) (t : Known) → IsTabled code → known_cause code pc i t ≡ None
    → IsPassed code pc i t
known_passed code pc i t h e =
    let one = none_two _ _ e in
    let two = none_two _ _ one.1 in
    let some : t.allowance ≡ 0 → ⊥ = refuted _ _ _ (decides_eq t.allowance 0) one.0 in
    let last = refuted _ _ _ (decides_both _ _ _ _ (decides_is_true _) (decides_eq _ _)) two.1 in
    record { allowance = omega (arith, some); good = instr_good code i t h two.0; inside = λ on end. last (on, end) }

pub passed_none : (code : Program) (pc : ℕ) (i : Instr) (t : Known) → IsTabled code → IsConfiguration t.next
    → IsPassed code pc i t → known_cause code pc i t ≡ None
passed_none code pc i t h formed p =
    two_none _ _ (none_where _ _ _ (decides_eq t.allowance 0) (λ z. omega (arith, p.allowance, z)))
    (two_none _ _ (good_none code i t h formed p.good)
    (none_where _ _ _ (decides_both _ _ _ _ (decides_is_true (continues i)) (decides_eq (pc + 1) (length code.lines)))
    (λ both. p.inside both.0 both.1)))
