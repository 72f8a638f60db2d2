-- What the fault of bytes that are not a record says about the bytes.
use Rattle.std.specs.Prelude.{◌≡◌, ◌≢◌, ℕ, ◌<◌, ◌⊎◌, List, ◌++◌, length, take, Err}
use Rattle.mux_config.specs.declared.record.RecordFault.{RecordFault}
use Rattle.mux_config.specs.declared.record.RecordFault.TheVariants.{Short, Field}
use Rattle.mux_types.specs.Configuration.{Configuration, IsConfiguration}
use Rattle.mux_config.specs.Spelling.{config_bytes}
use Rattle.mux_config.specs.Reading.{config_at}

abbrev pub HasFault : List ℕ → RecordFault → Type 0
HasFault bytes fault = config_at bytes ≡ Err fault

-- no record is at the front of these bytes
abbrev pub BeginsWithNone : List ℕ → Type 0
BeginsWithNone bytes = (c : Configuration) (rest : List ℕ) → IsConfiguration c → bytes ≢ config_bytes c ++ rest

-- a truncated record is short, wherever it ends
abbrev pub CutsAreShort : Type 0
CutsAreShort = (c : Configuration) (n : ℕ) → IsConfiguration c → n < length (config_bytes c)
    → HasFault (take n (config_bytes c)) Short

-- any other fault lies in the bytes that were read: it stays whatever follows them, and nothing that begins with them
-- has a record at its front
abbrev pub FaultsStay : Type 0
FaultsStay =
    (bytes more : List ℕ) (fault : RecordFault) → HasFault bytes fault → fault ≢ Short
    → HasFault (bytes ++ more) fault × BeginsWithNone (bytes ++ more)

-- it is the first one: the bytes before it are short, or have it too
abbrev pub FaultsAreFirst : Type 0
FaultsAreFirst =
    (bytes : List ℕ) (n : ℕ) (fault : RecordFault) → HasFault bytes fault
    → HasFault (take n bytes) Short ⊎ HasFault (take n bytes) fault

-- the offset of a field at fault is that of one of the bytes, and the bytes before it are short: none of their fields
-- is at fault
abbrev pub ShortBeforePlaces : Type 0
ShortBeforePlaces =
    (bytes : List ℕ) (place : ℕ) → HasFault bytes (Field place) → (place < length bytes)
    × HasFault (take place bytes) Short
