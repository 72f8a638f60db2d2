-- The search for the pcs that can be reached in a frame. Not used in public contracts.
use Rattle.std.specs.Prelude.{◌≡◌, ℕ, suc, ◌+◌, ◌<◌, ◌⊎◌, Bool, true, if◌then◌else◌, List, [], ◌∷◌, length, slice_get}
use Rattle.std.specs.Prelude.{Some}
use Rattle.plan_code.specs.declared.instr.Instr.{Instr}
use Rattle.script_compiler.specs.Need.{StepsTo}
use Rattle.script_compiler.specs.Costs.{CanReach}

abbrev pub IsAt : List Bool → ℕ → Type 0
IsAt places k = slice_get places k ≡ Some true

abbrev pub IsIn : ℕ → List ℕ → Type 0
IsIn k [] = ⊥
IsIn k (x ∷ xs) = (k ≡ x) ⊎ IsIn k xs

abbrev pub trues : List Bool → ℕ
trues [] = 0
trues (b ∷ bs) = (if b then 1 else 0) + trues bs

-- only allowed pcs have been added to those reached; each new one also waits to be expanded
pub record Grows (ps qs : List Bool) (ws vs : List ℕ) (allowed : ℕ → Type 0) : Type 0 where
  pub long : length qs ≡ length ps
  pub kept : (k : ℕ) → IsAt ps k → IsAt qs k
  pub only : (k : ℕ) → IsAt qs k → IsAt ps k ⊎ allowed k
  pub fresh : (k : ℕ) → IsAt qs k → IsAt ps k ⊎ IsIn k vs
  pub still : (k : ℕ) → IsIn k ws → IsIn k vs
  pub waits : (k : ℕ) → IsIn k vs → IsIn k ws ⊎ IsAt qs k
  pub count : trues qs + length ws ≡ trues ps + length vs

-- and all of them that are in the code have been added
pub record GrowsBy (ps qs : List Bool) (ws vs : List ℕ) (wanted : ℕ → Type 0) : Type 0 where
  pub grows : Grows ps qs ws vs wanted
  pub all : (k : ℕ) → wanted k → k < length ps → IsAt qs k

-- the pcs to which the machine can go from here are reached
abbrev pub IsExpanded : List Instr → List Bool → ℕ → Type 0
IsExpanded code places k = (i : Instr) (to : ℕ) → slice_get code k ≡ Some i → StepsTo i k to → to < length code
    → IsAt places to

-- the state of the search after `n` pcs have been expanded
pub record Searched (code : List Instr) (pc n : ℕ) (places : List Bool) (waiting : List ℕ) : Type 0 where
  pub long : length places ≡ length code
  pub sound : (k : ℕ) → IsAt places k → (m : ℕ) × CanReach code (suc m) pc k
  pub start : IsExpanded code places pc
  pub closed : (k : ℕ) → IsAt places k → IsIn k waiting ⊎ IsExpanded code places k
  pub waits : (k : ℕ) → IsIn k waiting → IsAt places k
  pub count : trues places ≡ n + length waiting
