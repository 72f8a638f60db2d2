-- Transmission modes (EN 300 401 clauses 5.1 and 6.4).
use Rattle.std.specs.Prelude.{◌≡◌, ℕ, ◌+◌, ◌-◌, ◌*◌, ◌%◌, ◌≤◌, ◌++◌, List, length, take, drop, replicate}
use Rattle.mux_types.specs.declared.limits.TheConstants.{COUNTS}
use Rattle.fib_codec.specs.declared.modes.Mode.{Mode}
use Rattle.fib_codec.specs.declared.modes.Mode.TheVariants.{I, II, III, IV}

-- the number of FIBs of one CIF
abbrev pub fib_count : Mode → ℕ
fib_count I = 3
fib_count II = 3
fib_count III = 4
fib_count IV = 3

-- FIG 0/0 is sent, and a reconfiguration is made, at the CIF counts that are multiples of this step, those of the first
-- CIFs of the mode's own frames
abbrev pub count_step : Mode → ℕ
count_step I = 4
count_step II = 1
count_step III = 1
count_step IV = 2

-- this is the size of a frame of some mode, in bytes
abbrev pub IsFrameSize : ℕ → Type 0
IsFrameSize size = (mode : Mode) × (size ≡ 32 * fib_count mode)

-- the CIF counts are a whole number of steps, and three steps are no longer than the shortest notice, 12 frames
abbrev pub StepsDivide : Type 0
StepsDivide =
    (mode : Mode) → (COUNTS % count_step mode ≡ 0) × (1 ≤ count_step mode) × (3 * count_step mode ≤ 12)

-- a frame of this size at the front of 128 bytes, followed by zeros
pub record IsInFrame (size : ℕ) (bytes : List ℕ) : Type 0 where
  pub mode : IsFrameSize size
  pub within : size ≤ 128
  pub whole : length bytes ≡ 128
  pub rest : drop size bytes ≡ replicate (128 - size) 0

-- a sequence of FIBs with this one written over the one at an index, from 0
abbrev pub with_fib : ℕ → List ℕ → List ℕ → List ℕ
with_fib index fib bytes = take (32 * index) bytes ++ fib ++ drop (32 * index + 32) bytes
