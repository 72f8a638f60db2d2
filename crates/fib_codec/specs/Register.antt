-- The register that computes the CRC: sixteen bits, advanced by a bit or by whole bytes of the message.
use Rattle.std.specs.Prelude.{ℕ, zero, suc, ◌*◌, ◌%◌, ◌==◌, Bool, true, ◌&&◌, if◌then◌else◌, List, [], ◌∷◌, bit_xor}
use Rattle.std.specs.Int.{bit_at}

-- the register after one bit of the message: if that bit and the highest one of the register differ, the generator x^16
-- + x^12 + x^5 + 1 is subtracted
abbrev pub next : ℕ → ℕ → ℕ
next register bit = if bit_at register 15 == bit then register * 2 % 65536 else bit_xor (register * 2 % 65536) 4129

-- the register after the lowest bits of a number, as many as the width, the highest of them first
unfoldable pub after : ℕ → ℕ → ℕ → ℕ
after zero bits register = register
after (suc width) bits register = after width bits (next register (bit_at bits width))

-- the register after bytes of the message, one after another
abbrev pub after_all : List ℕ → ℕ → ℕ
after_all [] register = register
after_all (byte ∷ bytes) register = after_all bytes (after 8 byte register)

-- the register after this many bytes of zeros
abbrev pub later : ℕ → ℕ → ℕ
later zero register = register
later (suc count) register = after 8 0 (later count register)

-- a table of the register after each byte, starting from 0, for the bytes from this one on
abbrev pub is_table : List ℕ → ℕ → Bool
is_table [] byte = true
is_table (entry ∷ entries) byte = entry == after 8 byte 0 && is_table entries (suc byte)

-- a table of each entry of another table after one more byte of zeros
abbrev pub is_next_table : List ℕ → List ℕ → Bool
is_next_table befores [] = true
is_next_table [] (entry ∷ entries) = true
is_next_table (before ∷ befores) (entry ∷ entries) = entry == after 8 0 before && is_next_table befores entries
