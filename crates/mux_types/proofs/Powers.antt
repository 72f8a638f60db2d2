-- A number of 16 bits and the powers of two.
use Rattle.std.proofs.Common.{ℕ, ◌<◌, ◌≤◌, ◌^◌, arith}
use Rattle.std.proofs.Math.Pow.{pow_mono}

-- a u16 is below each power of two from the sixteenth on
pub word_below : (value width : ℕ) → value < 2 ^ 16 → 16 ≤ width → value < 2 ^ width
word_below value width small wide = let more : 2 ^ 16 ≤ 2 ^ width = pow_mono wide in omega (arith, small, more)
