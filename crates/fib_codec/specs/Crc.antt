-- The CRC of a FIB as a long division over lists of bits (EN 300 401 clause 5.2.1 and annex E). A bit is 0 or 1, and
-- the first bit of a list is the most significant one, which is sent first.
use Rattle.std.specs.Prelude.{◌≡◌, ℕ, zero, suc, ◌+◌, ◌-◌, ◌*◌, ◌%◌, ◌^◌, ◌<◌, List, [], ◌∷◌, ◌++◌, length, map}
use Rattle.std.specs.Prelude.{flat_map, take, drop, replicate}
use Rattle.std.specs.Int.{bit_at}

-- the lowest bits of a number, as many as the width
unfoldable pub low_bits : ℕ → ℕ → List ℕ
low_bits zero n = []
low_bits (suc width) n = bit_at n width ∷ low_bits width n

abbrev pub bits_of_bytes : List ℕ → List ℕ
bits_of_bytes bytes = flat_map (low_bits 8) bytes

-- each element of the list is 0 or 1
abbrev pub AreBits : List ℕ → Type 0
AreBits [] = Unit {0}
AreBits (b ∷ bs) = (b < 2) × AreBits bs

-- the second list added to the front of the first one, bit by bit modulo 2
abbrev pub plus : List ℕ → List ℕ → List ℕ
plus [] ys = []
plus (x ∷ xs) [] = x ∷ xs
plus (x ∷ xs) (y ∷ ys) = (x + y) % 2 ∷ plus xs ys

-- x^16 + x^12 + x^5 + 1 without its leading term
abbrev pub generator : List ℕ
generator = 0 ∷ 0 ∷ 0 ∷ 1 ∷ 0 ∷ 0 ∷ 0 ∷ 0 ∷ 0 ∷ 0 ∷ 1 ∷ 0 ∷ 0 ∷ 0 ∷ 0 ∷ 1 ∷ []

-- one step of the division: if the leading bit is 1, the generator is subtracted at the front
abbrev pub without_leading : ℕ → List ℕ → List ℕ
without_leading zero rest = rest
without_leading (suc b) rest = plus rest generator

-- this many steps of the division; what is left is the remainder
unfoldable pub divided : ℕ → List ℕ → List ℕ
divided zero bits = bits
divided (suc steps) [] = []
divided (suc steps) (b ∷ bits) = divided steps (without_leading b bits)

-- the dividend: the bits of the bytes and sixteen zeros, with the first sixteen bits inverted
abbrev pub dividend : List ℕ → List ℕ
dividend bytes = plus (bits_of_bytes bytes ++ replicate 16 0) (replicate 16 1)

-- the CRC's bits: those of the remainder, inverted
abbrev pub check_bits : List ℕ → List ℕ
check_bits bytes = map (λ b. 1 - b) (divided (8 * length bytes) (dividend bytes))

-- the number with these bits, and so the CRC as a number
abbrev pub number_of_bits : List ℕ → ℕ
number_of_bits [] = 0
number_of_bits (b ∷ bits) = b * 2 ^ length bits + number_of_bits bits

abbrev pub crc_value : List ℕ → ℕ
crc_value bytes = number_of_bits (check_bits bytes)

-- of 32 bytes, the last two are the CRC of the others
abbrev pub IsChecked : List ℕ → Type 0
IsChecked bytes = bits_of_bytes (drop 30 bytes) ≡ check_bits (take 30 bytes)
