-- Instructions and what they lead to, as far as a region decides them.
use Rattle.schedule_verifier.proofs.Words.{◌+◌, ◌∙◌, ◌≡◌, Answer, Ask, Bool, Comes, Configuration, Decides}
use Rattle.schedule_verifier.proofs.Words.{Edits, Instr, Jump, Leads, LeadsBy, LeadsOn, Moment, No, Option, Passes}
use Rattle.schedule_verifier.proofs.Words.{Program}
use Rattle.schedule_verifier.proofs.Words.{Region, Some, Test, TestTime, Yes, ap, branch_of, changed, cond, false}
use Rattle.schedule_verifier.proofs.Words.{instr_at, is_closed, is_in_window, is_same_flag, refl, subst, suc, sym, true}
use Rattle.schedule_verifier.proofs.Words.{ℕ}

pub by_instr : (x : Moment) (code : Program) (pc : ℕ) (i : Instr) (next : Configuration) → x.code ≡ code
    → instr_at code pc ≡ Some i → (n : ℕ) → LeadsBy x pc next (Leads x n) (Some i) → LeadsOn x pc next
by_instr x code pc i next is at n h =
    let there : instr_at x.code pc ≡ Some i = ap (λ (p : Program). instr_at p pc) is ∙ at in
    (suc n, subst (λ (o : Option Instr). LeadsBy x pc next (Leads x n) o) (sym there) h)

-- ---- branches

is_true : (b : Bool) → is_same_flag b true ≡ true → b ≡ true
is_true true e = refl
is_true false e = absurd cc

is_false : (b : Bool) → is_same_flag b true ≡ false → b ≡ false
is_false false e = refl
is_false true e = absurd cc

taken : (x : Moment) (n : ℕ) (next : Configuration) (b c : Bool) (first second : ℕ) → b ≡ c → Leads x n
    (cond c first second) next
    → Leads x n (cond b first second) next
taken x n next b c first second e h = subst (λ (d : Bool). Leads x n (cond d first second) next) (sym e) h

pub test_passes : (code : Program) (r : Region) (pc contact target : ℕ) (next : Configuration) (a : Answer)
    → instr_at code pc ≡ Some (Test contact target)
    → Decides a r (λ contacts day. is_same_flag (is_closed contacts contact) true)
    → Passes code r pc next (branch_of a pc target) next
test_passes code r pc contact target next Yes at h = λ x is covers lead.
    by_instr x code pc (Test contact target) next is at lead.0
    (taken x lead.0 next _ true (pc + 1) target (is_true _ (h x.contacts x.day covers)) lead.1)
test_passes code r pc contact target next No at h = λ x is covers lead.
    by_instr x code pc (Test contact target) next is at lead.0
    (taken x lead.0 next _ false (pc + 1) target (is_false _ (h x.contacts x.day covers)) lead.1)
test_passes code r pc contact target next (Ask q) at h = tt

pub time_passes : (code : Program) (r : Region) (pc from to target : ℕ) (next : Configuration) (a : Answer)
    → instr_at code pc ≡ Some (TestTime from to target)
    → Decides a r (λ contacts day. is_in_window from to day)
    → Passes code r pc next (branch_of a pc target) next
time_passes code r pc from to target next Yes at h = λ x is covers lead.
    by_instr x code pc (TestTime from to target) next is at lead.0
    (taken x lead.0 next _ true (pc + 1) target (h x.contacts x.day covers) lead.1)
time_passes code r pc from to target next No at h = λ x is covers lead.
    by_instr x code pc (TestTime from to target) next is at lead.0
    (taken x lead.0 next _ false (pc + 1) target (h x.contacts x.day covers) lead.1)
time_passes code r pc from to target next (Ask q) at h = tt

-- ---- jumps and edits

pub jump_passes : (code : Program) (r : Region) (pc target : ℕ) (next : Configuration)
    → instr_at code pc ≡ Some (Jump target) → Comes code r pc next target next
jump_passes code r pc target next at x is covers (n, leads) =
    by_instr x code pc (Jump target) next is at n leads

pub edit_passes : (code : Program) (r : Region) (pc : ℕ) (edit : _) (old new : Configuration)
    → instr_at code pc ≡ Some (Edits edit) → new ≡ changed edit old → Comes code r pc old (pc + 1) new
edit_passes code r pc edit old new at e x is covers (n, leads) =
    by_instr x code pc (Edits edit) old is at n
    (subst (λ (c : Configuration). Leads x n (pc + 1) c) e leads)

-- ---- several instructions

pub comes_first : (code : Program) (r : Region) (pc : ℕ) (next : Configuration) → Comes code r pc next pc next
comes_first code r pc next x is covers leads = leads

pub comes_on : (code : Program) (r : Region) (top pc to : ℕ) (old next new : Configuration)
    → Comes code r top old pc next → Comes code r pc next to new → Comes code r top old to new
comes_on code r top pc to old next new first second x is covers leads =
    first x is covers (second x is covers leads)

pub comes_to_leaf : (code : Program) (r : Region) (top pc at : ℕ) (old next new : Configuration)
    → Comes code r top old pc next → (at ≡ pc) × (new ≡ next) → Comes code r top old at new
comes_to_leaf code r top pc at old next new first h x is covers leads =
    first x is covers (subst (λ (k : ℕ). LeadsOn x k next) h.0
    (subst (λ (c : Configuration). LeadsOn x at c) h.1 leads))
