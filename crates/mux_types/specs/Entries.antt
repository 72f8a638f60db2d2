-- Values of entries whose fields depend on one another.
use Rattle.std.specs.Prelude.{ℕ, Bool, Option}

-- ensemble information (EN 300 401 clause 6.4): EId, change flags 0 to 3, Al flag, CIF count, and the occurrence change
-- if a flag is set
pub record EnsembleInformation : Type 0 where
  pub eid : ℕ
  pub change : ℕ
  pub al : Bool
  pub count : ℕ
  pub occurrence : Option ℕ
