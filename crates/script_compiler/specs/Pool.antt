-- Configurations by their numbers in a pool. Not used in public contracts.
use Rattle.std.specs.Prelude.{◌≡◌, ℕ, ◌<◌, List, [], ◌∷◌, ◌++◌, Some, slice_get}
use Rattle.mux_config.specs.Configuration.{Configuration}
use Rattle.plan_verifier.specs.Indexed.{flow_at, IsWithin}
use Rattle.script_compiler.specs.declared.flow.UnpricedLabel.{UnpricedLabel}
use Rattle.script_compiler.specs.declared.flow.ProgramPoint.{ProgramPoint}
use Rattle.script_compiler.specs.declared.short.IndexedPoint.{IndexedPoint}

-- no configuration has two numbers
abbrev pub IsDistinct : List Configuration → Type 0
IsDistinct pool = (i j : ℕ) (c : Configuration) → slice_get pool i ≡ Some c → slice_get pool j ≡ Some c → i ≡ j

-- the new pool has the old one's configurations, with the same numbers
abbrev pub Extends : List Configuration → List Configuration → Type 0
Extends old new = (more : List Configuration) × (new ≡ old ++ more)

-- a pool, and the table of the configurations that labels name
pub record PooledTable : Type 0 where
  pub pool : List Configuration
  pub table : List Configuration

-- with unpriced labels whose configurations are in that table
pub record UnpricedPool : Type 0 where
  pub items : List UnpricedLabel
  pub table : List Configuration
  pub pool : List Configuration

-- all of these are numbers in a pool of this length
abbrev pub AreBelow : ℕ → List ℕ → Type 0
AreBelow n [] = Unit {0}
AreBelow n (k ∷ ks) = (k < n) × AreBelow n ks

-- the program point, with its configurations
abbrev pub point_in : List Configuration → IndexedPoint → ProgramPoint
point_in pool s = record { flow = flow_at pool s.flow; labelled = s.labelled }

abbrev pub IsInPool : ℕ → IndexedPoint → Type 0
IsInPool n s = IsWithin n s.flow

abbrev pub AreInPool : ℕ → List IndexedPoint → Type 0
AreInPool n [] = Unit {0}
AreInPool n (s ∷ ss) = IsInPool n s × AreInPool n ss
