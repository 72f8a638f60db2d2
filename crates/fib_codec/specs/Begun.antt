-- A FIB that is being written.
use Rattle.std.specs.Prelude.{◌≡◌, ℕ, ◌-◌, ◌≤◌, List, ◌∷◌, length, drop, replicate}

-- this many data bytes at the front of the 32 bytes of a FIB, followed by the end marker and zeros
pub record IsBegun (size : ℕ) (bytes : List ℕ) : Type 0 where
  pub within : size ≤ 30
  pub whole : length bytes ≡ 32
  pub rest : drop size bytes ≡ 255 ∷ replicate (31 - size) 0
