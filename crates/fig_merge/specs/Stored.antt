-- The bytes of a FIG kept in place.
use Rattle.std.specs.Prelude.{◌≡◌, ℕ, ◌≤◌, List, length}

-- this many of thirty bytes are those of a FIG
pub record IsStored (size : ℕ) (bytes : List ℕ) : Type 0 where
  pub within : size ≤ 30
  pub whole : length bytes ≡ 30
