-- The encoding of a field as bytes. A number of two or four bytes is big-endian.
use Rattle.std.specs.Prelude.{ℕ, Bool, true, false, List, [], ◌∷◌}
use Rattle.std.specs.Int.{w16, w32, to_be_bytes}
use Rattle.mux_eep.specs.Sizes.{Profile}
use Rattle.mux_eep.specs.declared.sizes.EepSet.{EepSet}
use Rattle.mux_eep.specs.declared.sizes.EepSet.TheVariants.{A, B}
use Rattle.mux_types.specs.declared.parts.Component.{Component}
use Rattle.mux_types.specs.declared.parts.Component.TheVariants.{Sound, Stream, Packet as InPackets}
use Rattle.mux_types.specs.declared.numbers.Sid.{Sid}
use Rattle.mux_types.specs.declared.numbers.Sid.TheVariants.{Short, Long}

abbrev pub u16_bytes : ℕ → List ℕ
u16_bytes n = to_be_bytes w16 n

abbrev pub set_byte : EepSet → ℕ
set_byte A = 0
set_byte B = 1

abbrev pub flag_byte : Bool → ℕ
flag_byte false = 0
flag_byte true = 1

-- a protection profile: its set, 0 for A and 1 for B, and its level
abbrev pub protection_bytes : Profile → List ℕ
protection_bytes p = set_byte p.set ∷ p.level ∷ []

-- an SId: its kind, 0 for 16 bits and 1 for 32, and its number
abbrev pub sid_field : Sid → List ℕ
sid_field (Short n) = 0 ∷ to_be_bytes w16 n
sid_field (Long n) = 1 ∷ to_be_bytes w32 n

-- a component: its TMId, and its type and carrier
abbrev pub component_bytes : Component → List ℕ
component_bytes (Sound ty sub) = 0 ∷ ty ∷ sub ∷ []
component_bytes (Stream ty sub) = 1 ∷ ty ∷ sub ∷ []
component_bytes (InPackets scid) = 3 ∷ u16_bytes scid
