-- Reading fields from left to right, up to the first fault.
use Rattle.std.specs.Prelude.{◌≡◌, ℕ, zero, suc, ◌-◌, ◌==◌, nat_lt, if◌then◌else◌, Bool, List, [], ◌∷◌, length, take}
use Rattle.std.specs.Prelude.{drop, Result, Ok, Err}
use Rattle.std.specs.Int.{Width, w16, w32, byte_len, from_be_bytes}
use Rattle.mux_eep.specs.Sizes.{Profile}
use Rattle.mux_eep.specs.declared.sizes.EepSet.{EepSet}
use Rattle.mux_eep.specs.declared.sizes.EepSet.TheVariants.{A, B}
use Rattle.mux_types.specs.declared.parts.Component.{Component}
use Rattle.mux_types.specs.declared.parts.Component.TheVariants.{Sound, Stream, Packet as InPackets}
use Rattle.mux_types.specs.declared.numbers.Sid.{Sid}
use Rattle.mux_types.specs.declared.numbers.Sid.TheVariants.{Short as ShortSid, Long as LongSid}
use Rattle.mux_config.specs.declared.record.RecordFault.{RecordFault}
use Rattle.mux_config.specs.declared.record.RecordFault.TheVariants.{Short, Field}

-- what is read, and the bytes after it; or the first fault
abbrev pub Reads : Type 0 → Type 0
Reads T = Result (T × List ℕ) RecordFault

-- one reading after the other
infixl 10 ◌>>=◌
abbrev pub ◌>>=◌ : {A B : Type 0} → Result A RecordFault → (A → Result B RecordFault) → Result B RecordFault
(Ok x) >>= f = f x
(Err e) >>= f = Err e

-- a fault if the test is true
abbrev pub refuse : Bool → RecordFault → Result (Unit {0}) RecordFault
refuse test fault = if test then Err fault else Ok tt

-- the offset of the next byte from the first one, if `bytes` of `total` are left
abbrev pub place : (total : ℕ) → (bytes : List ℕ) → ℕ
place total bytes = total - length bytes

-- ---- numbers

abbrev pub byte_at : List ℕ → Reads ℕ
byte_at [] = Err Short
byte_at (b ∷ rest) = Ok (b, rest)

abbrev pub number_at : Width → List ℕ → Reads ℕ
number_at w bytes =
    if nat_lt (length bytes) (byte_len w) then Err Short
    else Ok (from_be_bytes w (take (byte_len w) bytes), drop (byte_len w) bytes)

-- a number outside `low` to `high` is at fault at its first byte
abbrev pub judged : (at low high : ℕ) → ℕ × List ℕ → Reads ℕ
judged at low high n =
    if nat_lt n.0 low then Err (Field at) else if nat_lt high n.0 then Err (Field at) else Ok n

abbrev pub byte_within : (total low high : ℕ) → List ℕ → Reads ℕ
byte_within total low high bytes = byte_at bytes >>= judged (place total bytes) low high

abbrev pub u16_in_range : (total low high : ℕ) → List ℕ → Reads ℕ
u16_in_range total low high bytes = number_at w16 bytes >>= judged (place total bytes) low high

abbrev pub flag_at : (total : ℕ) → List ℕ → Reads Bool
flag_at total bytes = byte_within total 0 1 bytes >>= λ n. Ok (n.0 == 1, n.1)

-- ---- protection profiles

abbrev pub set_of : ℕ → EepSet
set_of zero = A
set_of (suc n) = B

unfoldable pub protection_at : (total : ℕ) → List ℕ → Reads Profile
protection_at total bytes = do
  set ← byte_within total 0 1 bytes
  level ← byte_within total 1 4 set.1
  Ok (record { set = set_of set.0; level = level.0 }, level.1)

-- ---- SIds and components

abbrev pub sid_of_kind : ℕ → List ℕ → Reads Sid
sid_of_kind zero bytes = number_at w16 bytes >>= λ n. Ok (ShortSid n.0, n.1)
sid_of_kind (suc k) bytes = number_at w32 bytes >>= λ n. Ok (LongSid n.0, n.1)

unfoldable pub sid_at : (total : ℕ) → List ℕ → Reads Sid
sid_at total bytes = do
  kind ← byte_within total 0 1 bytes
  sid_of_kind kind.0 kind.1

-- a component with this TMId, with `bytes` left; the TMId itself is at offset `at`
unfoldable pub component_of : (total at tmid : ℕ) → List ℕ → Reads Component
component_of total at zero bytes = do
  ty ← byte_within total 0 63 bytes
  sub ← byte_within total 0 63 ty.1
  Ok (Sound ty.0 sub.0, sub.1)
component_of total at (suc zero) bytes = do
  ty ← byte_within total 0 63 bytes
  sub ← byte_within total 0 63 ty.1
  Ok (Stream ty.0 sub.0, sub.1)
component_of total at (suc (suc zero)) bytes = Err (Field at)
component_of total at (suc (suc (suc zero))) bytes = do
  scid ← u16_in_range total 0 4095 bytes
  Ok (InPackets scid.0, scid.1)
component_of total at (suc (suc (suc (suc k)))) bytes = Err (Field at)

unfoldable pub component_at : (total : ℕ) → List ℕ → Reads Component
component_at total bytes = do
  tmid ← byte_at bytes
  component_of total (place total bytes) tmid.0 tmid.1

-- ---- a reader

-- the state of a reader: the total number of bytes, and the remaining ones
pub record Unread : Type 0 where
  pub total : ℕ
  pub rest : List ℕ

-- a call that reads returns the result of the reading, and leaves the bytes that it leaves
abbrev pub Takes : {T : Type 0} → Reads T → Result T RecordFault → Unread → Type 0
Takes read (Ok x) left = read ≡ Ok (x, left.rest)
Takes read (Err e) left = read ≡ Err e
