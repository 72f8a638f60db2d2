-- What is known where the walk enters an instruction: what holds after the preceding one, or what the label declares.
use Rattle.plan_verifier.proofs.Words.{◌<◌, ◌first_or◌, ◌∙◌, ◌≡◌, ◌≤◌, CanEnter, Cause, Declares, Instr}
use Rattle.plan_verifier.proofs.Words.{InstructionRefused, IsConfiguration, IsOpening, Known, Label, LabelRefused, List}
use Rattle.plan_verifier.proofs.Words.{Mismatch, None, OfConfig, Ok, OpenedRefused, OpeningRefused, Option, PcRefused}
use Rattle.plan_verifier.proofs.Words.{Program, Round, Some, Table, TakenRefused, ap, arith, declared_by, entered}
use Rattle.plan_verifier.proofs.Words.{entry_cause, first_fault, is_initial, known_at_pc, known_cause, label_at}
use Rattle.plan_verifier.proofs.Words.{label_cause, left_before, nat_lt, not, opening_cause, opening_known, pages_alone}
use Rattle.plan_verifier.proofs.Words.{refl, sound_found, sound_told, subst, suc, sym, taken, whole_cause, zero, ℕ}
use Rattle.plan_verifier.specs.Walking.{cause_if, cause_of}
use Rattle.plan_verifier.proofs.DecidingFlows.{Computes, decides_not, decides_lt, computes_always, computes_where}
use Rattle.plan_verifier.proofs.DecidingFlows.{computes_some, computes_orelse, decides_initial}
use Rattle.plan_verifier.proofs.Finding.{none_two, two_none, refuted, none_where, needed, none_unless, none_of, of_none}
use Rattle.plan_verifier.proofs.Causes.{known_computes, entry_computes, entry_comes, comes_none, declares_at}
use Rattle.plan_verifier.proofs.Tabled.{IsTabled, declared_once}

-- ---- the cause at an instruction, including its entry

whole_taken : (o : Option Cause) (t : Known) (here : Known → Option Cause)
    → whole_cause (taken o t) here ≡ o first_or here t
whole_taken None t here = refl
whole_taken (Some cause) t here = refl

first_assoc : (o p q : Option Cause) → (o first_or p) first_or q ≡ o first_or (p first_or q)
first_assoc None p q = refl
first_assoc (Some cause) p q = refl

declared_computes : (code : Program) (label : Label) (o : Option Cause) (R : Known → Cause → Type 0)
    → Declares code label (declared_by code label)
    → Computes o (R (declared_by code label)) → Computes o (λ given. (t : Known) × Declares code label t × R t given)
declared_computes code label o R declares c = record {
  found = λ given h. c.found given (subst (λ (t : Known). R t given) (declared_once code label _ _ h.1 declares) h.2);
  told = λ given e. (declared_by code label, declares, c.told given e);
}

label_computes : (code : Program) (pc : ℕ) (i : Instr) (label : Label) → IsTabled code
    → Declares code label (declared_by code label)
    → Computes (label_cause code label first_or known_cause code pc i (declared_by code label))
    (LabelRefused code pc i label)
label_computes code pc i label h declares =
    declared_computes code label _ (TakenRefused code pc i label) declares
    (computes_orelse _ _ _ _ (computes_where _ _ _ (decides_lt code.plan.budget label.cost))
    (known_computes code pc i _ h))

place_computes : (code : Program) (pc : ℕ) (i : Instr) (o : Option Label) (came : Option Known) → IsTabled code
    → ((label : Label) → o ≡ Some label → Declares code label (declared_by code label))
    → Computes (whole_cause (known_at_pc code o came) (known_cause code pc i)) (PcRefused code pc i o came)
place_computes code pc i None None h declares = computes_always Table
place_computes code pc i None (Some t) h declares = known_computes code pc i t h
place_computes code pc i (Some label) None h declares =
    subst (λ (o : Option Cause). Computes o (LabelRefused code pc i label))
    (sym (whole_taken (label_cause code label) (declared_by code label) (known_cause code pc i)))
    (label_computes code pc i label h (declares label refl))
place_computes code pc i (Some label) (Some t) h declares =
    let entry = entry_cause code label t in
    let cost = label_cause code label in
    let here = known_cause code pc i in
    let declared = declared_by code label in
    let cut = whole_taken (entry first_or cost) declared here ∙ first_assoc entry cost (here declared) in
    subst (λ (o : Option Cause). Computes o (PcRefused code pc i (Some label) (Some t))) (sym cut)
    (computes_orelse _ _ _ _ (entry_computes code label t (declares label refl))
    (label_computes code pc i label h (declares label refl)))

abbrev opened_cause : Program → Label → Known → Option Cause → Option Cause
opened_cause code label t last =
    cause_if (not (is_initial t)) Mismatch
    first_or label_cause code label
    first_or cause_of (first_fault t.current) OfConfig
    first_or cause_if (nat_lt code.plan.period (pages_alone code.plan t.current)) Round
    first_or last

first_assoc_4 : (a b c d k : Option Cause) → (a first_or b first_or c first_or d) first_or k
    ≡ a first_or b first_or c first_or d first_or k
first_assoc_4 None None None d k = refl
first_assoc_4 None None (Some cause) d k = refl
first_assoc_4 None (Some cause) c d k = refl
first_assoc_4 (Some cause) b c d k = refl

opening_computes : (code : Program) (i : Instr) (o : Option Label) → IsTabled code
    → ((label : Label) → o ≡ Some label → Declares code label (declared_by code label))
    → Computes (whole_cause (opening_known code o) (known_cause code 0 i)) (OpeningRefused code i o)
opening_computes code i None h declares = computes_always Table
opening_computes code i (Some label) h declares =
    let t : Known = declared_by code label in
    let here = known_cause code 0 i in
    let cut : whole_cause (taken (opening_cause code label t) t) here ≡ opened_cause code label t (here t) =
    whole_taken (opening_cause code label t) t here
    ∙ first_assoc_4 (cause_if (not (is_initial t)) Mismatch) (label_cause code label)
    (cause_of (first_fault t.current) OfConfig)
    (cause_if (nat_lt code.plan.period (pages_alone code.plan t.current)) Round) (here t) in
    let all : Computes (opened_cause code label t (here t)) (OpenedRefused code i label t) =
    computes_orelse _ _ _ _ (computes_where _ _ _ (decides_not _ _ (decides_initial t)))
    (computes_orelse _ _ _ _ (computes_where _ _ _ (decides_lt code.plan.budget label.cost))
    (computes_orelse _ _ _ _ (computes_some (first_fault t.current) _)
    (computes_orelse _ _ _ _ (computes_where _ _ _ (decides_lt code.plan.period (pages_alone code.plan t.current)))
    (known_computes code 0 i t h)))) in
    subst (λ (o : Option Cause). Computes o (OpeningRefused code i (Some label))) (sym cut)
    (declared_computes _ _ _ _ (declares label refl) all)

pub whole_computes : (code : Program) (typing : List Known) (pc : ℕ) (i : Instr) → IsTabled code
    → Computes (whole_cause (entered code pc (left_before code typing pc)) (known_cause code pc i))
    (InstructionRefused code typing pc i)
whole_computes code typing zero i h = opening_computes code i (label_at code 0) h (declares_at code 0 h)
whole_computes code typing (suc pc) i h = place_computes _ _ _ _ _ h (declares_at _ _ h)

-- ---- what is known at an instruction other than the first

-- the incoming state is what is known there, or it can enter the label there
abbrev pub IsHere : Program → Option Label → Known → Known → Type 0
IsHere code None t came = came ≡ t
IsHere code (Some label) t came = CanEnter code label came

-- with the label there, if any, and the incoming state, if any
pub record IsEntered (code : Program) (o : Option Label) (came : Option Known) (t : Known) : Type 0 where
  pub placed : (label : Label) → o ≡ Some label → Declares code label t × (label.cost ≤ code.plan.budget)
  pub arrives : (u : Known) → came ≡ Some u → IsHere code o t u
  pub after : o ≡ None → (u : Known) × (came ≡ Some u)

taken_told : (o : Option Cause) (t u : Known) → taken o t ≡ Ok u → (o ≡ None) × (t ≡ u)
taken_told None t u e = (refl, cc)
taken_told (Some cause) t u e = absurd cc

taken_none : (o : Option Cause) (t u : Known) → o ≡ None → t ≡ u → taken o t ≡ Ok u
taken_none o t u e f = rw e (ap Ok f)

-- for the label that is there
one_label : (code : Program) (label : Label) (t : Known) → Declares code label t → label.cost ≤ code.plan.budget
    → (other : Label) → Some label ≡ Some other
    → Declares code other t × (other.cost ≤ code.plan.budget)
one_label code label t declares within other e =
    let same : label ≡ other = cc in
    subst (λ (l : Label). Declares code l t × (l.cost ≤ code.plan.budget)) same (declares, within)

no_label : (code : Program) (t : Known) (other : Label) → None ≡ Some other → Declares code other t
    × (other.cost ≤ code.plan.budget)
no_label code t other e = absurd cc

affordable : (code : Program) (label : Label) → label_cause code label ≡ None → label.cost ≤ code.plan.budget
affordable code label e = let h : code.plan.budget < label.cost → ⊥ =
    refuted _ _ _ (decides_lt code.plan.budget label.cost) e in omega (arith, h)

affordable_none : (code : Program) (label : Label) → label.cost ≤ code.plan.budget → label_cause code label ≡ None
affordable_none code label h = none_where _ _ _ (decides_lt code.plan.budget label.cost) (λ lt. omega (arith, h, lt))

place_told : (code : Program) (o : Option Label) (came : Option Known) (t : Known)
    → ((label : Label) → o ≡ Some label → Declares code label (declared_by code label)) → known_at_pc code o came ≡ Ok t
    → IsEntered code o came t
place_told code None None t declares e = absurd cc
place_told code None (Some u) t declares e =
    record {
      placed = no_label code t;
      arrives = λ v f. let here : u ≡ v = cc in
          sym here ∙ cc;
      after = λ none. (u, refl);
    }
place_told code (Some label) None t declares e =
    let parts = taken_told _ _ _ e in
    let d : Declares code label t = subst (λ (v : Known). Declares code label v) parts.1 (declares label refl) in
    record {
      placed = one_label code label t d (affordable code label parts.0);
      arrives = λ v f. absurd cc;
      after = λ none. absurd cc;
    }
place_told code (Some label) (Some u) t declares e =
    let parts = taken_told _ _ _ e in
    let two = none_two _ _ parts.0 in
    let d : Declares code label t = subst (λ (v : Known). Declares code label v) parts.1 (declares label refl) in
    let comes : CanEnter code label u = entry_comes code label u (declares label refl) two.0 in
    record {
      placed = one_label code label t d (affordable code label two.1);
      arrives = λ v f. let here : u ≡ v = cc in subst (λ (x : Known). CanEnter code label x) here comes;
      after = λ none. absurd cc;
    }

place_found : (code : Program) (o : Option Label) (came : Option Known) (t : Known)
    → ((label : Label) → o ≡ Some label → Declares code label (declared_by code label)) → IsEntered code o came t
    → known_at_pc code o came ≡ Ok t
place_found code None None t declares h = let a = h.after refl in absurd (let f : None ≡ Some a.0 = a.1 in cc)
place_found code None (Some u) t declares h = ap Ok (h.arrives u refl)
place_found code (Some label) None t declares h =
    let p = h.placed label refl in
    taken_none _ _ _ (affordable_none code label p.1) (declared_once code label _ _ (declares label refl) p.0)
place_found code (Some label) (Some u) t declares h =
    let p = h.placed label refl in
    taken_none _ _ _
    (two_none _ _ (comes_none code label u (declares label refl) (h.arrives u refl)) (affordable_none code label p.1))
    (declared_once code label _ _ (declares label refl) p.0)

-- ---- what is known at the first instruction

pub record IsOpened (code : Program) (o : Option Label) (t : Known) : Type 0 where
  pub label : Label
  pub there : o ≡ Some label
  pub declares : Declares code label t
  pub opening : IsOpening code.plan t
  pub within : label.cost ≤ code.plan.budget

pub opening_told : (code : Program) (o : Option Label) (t : Known)
    → ((label : Label) → o ≡ Some label → Declares code label (declared_by code label)) → opening_known code o ≡ Ok t
    → IsOpened code o t
opening_told code None t declares e = absurd cc
opening_told code (Some label) t declares e =
    let d : Known = declared_by code label in
    let parts = taken_told _ _ _ e in
    let one = none_two _ _ parts.0 in
    let two = none_two _ _ one.1 in
    let three = none_two _ _ two.1 in
    let late = refuted _ _ _ (decides_lt code.plan.period (pages_alone code.plan d.current)) three.1 in
    let opening : IsOpening code.plan d = record {
      initial = needed _ _ _ (decides_initial d) one.0;
      sound = sound_told d.current (none_of _ _ three.0);
      within_period = omega (arith, late);
    } in
    record {
      label = label;
      there = refl;
      declares = subst (λ (v : Known). Declares code label v) parts.1 (declares label refl);
      opening = subst (λ (v : Known). IsOpening code.plan v) parts.1 opening;
      within = affordable code label two.0;
    }

opening_found : (code : Program) (o : Option Label) (t : Known) → IsConfiguration t.current
    → ((label : Label) → o ≡ Some label → Declares code label (declared_by code label)) → IsOpened code o t
    → opening_known code o ≡ Ok t
opening_found code None t formed declares h = absurd (let f : None ≡ Some h.label = h.there in cc)
opening_found code (Some label) t formed declares h =
    let same : label ≡ h.label = (let f : Some label ≡ Some h.label = h.there in cc) in
    let declared : Declares code label t = subst (λ (l : Label). Declares code l t) (sym same) h.declares in
    let is : t ≡ declared_by code label = declared_once code label _ _ declared (declares label refl) in
    let found : opening_cause code label t ≡ None =
    two_none _ _ (none_unless _ _ _ (decides_initial t) h.opening.initial)
    (two_none _ _ (affordable_none code label (subst (λ (l : Label). l.cost ≤ code.plan.budget) (sym same) h.within))
    (two_none _ _ (of_none _ _ (sound_found t.current formed h.opening.sound))
    (none_where _ _ _ (decides_lt code.plan.period (pages_alone code.plan t.current))
    (λ lt. omega (arith, h.opening.within_period, lt))))) in
    taken_none _ _ _ (subst (λ (v : Known). opening_cause code label v ≡ None) is found) (sym is)

-- ---- at any instruction

abbrev pub IsEnteredAt : Program → List Known → ℕ → Known → Type 0
IsEnteredAt code typing zero t = IsOpened code (label_at code 0) t
IsEnteredAt code typing (suc pc) t = IsEntered code (label_at code (suc pc)) (left_before code typing (suc pc)) t

pub entered_told : (code : Program) (typing : List Known) (pc : ℕ) (t : Known) → IsTabled code
    → entered code pc (left_before code typing pc) ≡ Ok t → IsEnteredAt code typing pc t
entered_told code typing zero t h e = opening_told code (label_at code 0) t (declares_at code 0 h) e
entered_told code typing (suc pc) t h e = place_told _ _ _ _ (declares_at _ _ h) e

pub entered_found : (code : Program) (typing : List Known) (pc : ℕ) (t : Known) → IsTabled code
    → IsConfiguration t.current
    → IsEnteredAt code typing pc t → entered code pc (left_before code typing pc) ≡ Ok t
entered_found code typing zero t h formed e = opening_found code (label_at code 0) t formed (declares_at code 0 h) e
entered_found code typing (suc pc) t h formed e = place_found _ _ _ _ (declares_at _ _ h) e
