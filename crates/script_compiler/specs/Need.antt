-- The need of an instruction in a code: the greatest number of instructions that can run from there in one frame.
use Rattle.std.specs.Prelude.{◌≡◌, ℕ, zero, suc, ◌+◌, ◌≤◌, ◌⊎◌, true, false, List, slice_get, Some, IsSome}
use Rattle.plan_code.specs.declared.instr.Instr.{Instr}
use Rattle.plan_verifier.specs.Rules.{continues, target_of, suspends}

-- the machine can go from an instruction to this pc in the same frame
abbrev pub StepsTo : Instr → ℕ → ℕ → Type 0
StepsTo i pc to = (suspends i ≡ false) × (((continues i ≡ true) × (to ≡ pc + 1)) ⊎ (target_of i ≡ Some to))

-- a path of this many instructions from this pc, of which only the last may suspend
abbrev pub HasPath : List Instr → ℕ → ℕ → Type 0
HasPath code pc zero = Unit {0}
HasPath code pc (suc zero) = IsSome (slice_get code pc)
HasPath code pc (suc (suc n)) =
    (i : Instr) × (to : ℕ) × (slice_get code pc ≡ Some i) × StepsTo i pc to × HasPath code to (suc n)

-- no path is longer than the budget; so there is no loop without a suspension
abbrev pub IsWithinBudget : ℕ → List Instr → Type 0
IsWithinBudget budget code = (pc n : ℕ) → HasPath code pc n → n ≤ budget

-- the need of a pc
pub record IsNeed (code : List Instr) (pc need : ℕ) : Type 0 where
  pub path : HasPath code pc need
  pub longest : (n : ℕ) → HasPath code pc n → n ≤ need
