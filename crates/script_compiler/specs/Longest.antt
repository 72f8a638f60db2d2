-- The lengths of the longest paths of at most `n` instructions, by recursion on `n`. Not used in public contracts.
use Rattle.std.specs.Prelude.{◌≡◌, ℕ, zero, suc, ◌+◌, max, if◌then◌else◌, List, slice_get, slice_index, Contains}
use Rattle.std.specs.Prelude.{Option, Some, None}
use Rattle.plan_code.specs.declared.instr.Instr.{Instr}
use Rattle.plan_code.specs.declared.label.Label.{Label}
use Rattle.plan_verifier.specs.Rules.{continues, target_of, suspends}

abbrev pub need_to : (ℕ → ℕ) → Option ℕ → ℕ
need_to further None = 0
need_to further (Some to) = further to

-- from one pc, given those that are one instruction shorter
abbrev pub need_at : Option Instr → ℕ → (ℕ → ℕ) → ℕ
need_at None pc further = 0
need_at (Some i) pc further =
    if suspends i then 1 else 1 + max (if continues i then further (pc + 1) else 0) (need_to further (target_of i))

abbrev pub longest : List Instr → ℕ → ℕ → ℕ
longest code zero pc = 0
longest code (suc n) pc = need_at (slice_get code pc) pc (λ to. longest code n to)

-- the cost of each label is the need of its pc
abbrev pub Priced : List ℕ → List Label → Type 0
Priced needs labels = (l : Label) → Contains labels l → l.cost ≡ slice_index needs l.pc
