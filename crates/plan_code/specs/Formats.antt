-- Formats: how a value is read from the front of bytes, and how it is spelled. The format of a whole is made of those
-- of its parts.
use Rattle.std.specs.Prelude.{◌≡◌, ℕ, List, [], ◌∷◌, ◌++◌, Bool, Result, Ok}
use Rattle.std.specs.Int.{Width, w16, to_be_bytes}
use Rattle.mux_eep.specs.Sizes.{Profile}
use Rattle.mux_types.specs.declared.parts.Component.{Component}
use Rattle.mux_types.specs.declared.numbers.Sid.{Sid}
use Rattle.mux_config.specs.declared.record.RecordFault.{RecordFault}
use Rattle.mux_config.specs.FieldReading.{Reads, Unread, Takes, ◌>>=◌, place, byte_at, number_at, judged, byte_within}
use Rattle.mux_config.specs.FieldReading.{flag_at, protection_at, sid_at, component_at}
use Rattle.mux_config.specs.FieldSpelling.{flag_byte, protection_bytes, sid_field, component_bytes}

pub record Format (T : Type 0) : Type 0 where
  -- the value and the bytes after it, where these bytes of `total` are left; or the first fault
  pub read : (total : ℕ) → List ℕ → Reads T
  pub spell : T → List ℕ

-- a call that reads so: its result, and the bytes that it leaves
pub record Reading {T : Type 0} (read : (total : ℕ) → List ℕ → Reads T) (before : Unread)
    (result : Result T RecordFault) (after : Unread) : Type 0 where
  pub taken : Takes (read before.total before.rest) result after
  pub total : after.total ≡ before.total

-- ---- formats of parts

-- a part, and one whose format depends on it
abbrev pub follows : {A B : Type 0} → Format A → (A → Format B) → Format (A × B)
follows a b = record {
  read = λ total bytes. a.read total bytes >>= λ x. (b x.0).read total x.1 >>= λ y. Ok ((x.0, y.0), y.1);
  spell = λ x. a.spell x.0 ++ (b x.0).spell x.1;
}

-- one part after the other
infixl 20 ◌▸◌
abbrev pub ◌▸◌ : {A B : Type 0} → Format A → Format B → Format (A × B)
a ▸ b = follows a (λ _. b)

-- a value that is made of what is read, and its parts
abbrev pub mapped : {A T : Type 0} → (A → T) → (T → A) → Format A → Format T
mapped make parts a = record {
  read = λ total bytes. a.read total bytes >>= λ x. Ok (make x.0, x.1);
  spell = λ t. a.spell (parts t);
}

-- what follows a tag: its format, the value that is made of it, and how this is read
pub record Kind (T : Type 0) : Type 1 where
  pub Parts : Type 0
  pub format : Format Parts
  pub make : Parts → T
  pub read : (total : ℕ) → List ℕ → Reads T

abbrev pub kind : {A T : Type 0} → Format A → (A → T) → Kind T
kind {A} format make = record {
  Parts = A;
  format = format;
  make = make;
  read = λ total bytes. format.read total bytes >>= λ x. Ok (make x.0, x.1);
}

-- a tag, and what follows it
abbrev pub tagged_at : {K T : Type 0} → Format K → (K → Kind T) → (total : ℕ) → List ℕ → Reads T
tagged_at tag kinds total bytes = tag.read total bytes >>= λ k. (kinds k.0).read total k.1

-- ---- fields

abbrev pub byte_of : ℕ → List ℕ
byte_of n = n ∷ []

abbrev pub flag_of : Bool → List ℕ
flag_of b = flag_byte b ∷ []

abbrev pub nothing : Format (Unit {0})
nothing = record { read = λ total bytes. Ok (tt, bytes); spell = λ _. [] }

abbrev pub any_byte : Format ℕ
any_byte = record { read = λ total bytes. byte_at bytes; spell = byte_of }

abbrev pub byte_from : (low high : ℕ) → Format ℕ
byte_from low high = record { read = λ total bytes. byte_within total low high bytes; spell = byte_of }

abbrev pub any_u16 : Format ℕ
any_u16 = record { read = λ total bytes. number_at w16 bytes; spell = to_be_bytes w16 }

abbrev pub number_from : Width → (low high : ℕ) → Format ℕ
number_from w low high = record {
  read = λ total bytes. number_at w bytes
      >>= judged (place total bytes) low high;
  spell = to_be_bytes w;
}

abbrev pub u16_from : (low high : ℕ) → Format ℕ
u16_from low high = number_from w16 low high

abbrev pub flag : Format Bool
flag = record { read = λ total bytes. flag_at total bytes; spell = flag_of }

abbrev pub protection : Format Profile
protection = record { read = λ total bytes. protection_at total bytes; spell = protection_bytes }

abbrev pub sid : Format Sid
sid = record { read = λ total bytes. sid_at total bytes; spell = sid_field }

abbrev pub component : Format Component
component = record { read = λ total bytes. component_at total bytes; spell = component_bytes }
