-- What the fault of bytes that are not a code file implies about the bytes.
use Rattle.std.specs.Prelude.{◌≢◌, ◌⊎◌, ℕ, ◌<◌, List, ◌++◌, length, take}
use Rattle.plan_code.specs.declared.fault.CodeFault.{CodeFault}
use Rattle.plan_code.specs.declared.fault.CodeFault.TheVariants.{Truncated, Field, Trailing}
use Rattle.plan_code.specs.Program.{Program, IsProgram}
use Rattle.plan_code.specs.Spelling.{code_bytes}
use Rattle.plan_code.specs.Faults.{HasCodeFault, IsNoFile}

-- a code file that is cut off at any offset is truncated
abbrev pub CutsAreTruncated : Type 0
CutsAreTruncated = (p : Program) (n : ℕ) → IsProgram p → n < length (code_bytes p)
    → HasCodeFault (take n (code_bytes p)) Truncated

-- any other fault lies in the bytes that were read: it persists whatever follows them, and nothing that begins with
-- them is a code file
abbrev pub FileFaultsStay : Type 0
FileFaultsStay =
    (bytes more : List ℕ) (fault : CodeFault) → HasCodeFault bytes fault → fault ≢ Truncated
    → HasCodeFault (bytes ++ more) fault × IsNoFile (bytes ++ more)

-- and it is the first one: a prefix is truncated or has the same fault; only `Trailing` is found at the end
abbrev pub FileFaultsAreFirst : Type 0
FileFaultsAreFirst =
    (bytes : List ℕ) (n : ℕ) (fault : CodeFault) → HasCodeFault bytes fault → fault ≢ Trailing
    → HasCodeFault (take n bytes) Truncated ⊎ HasCodeFault (take n bytes) fault

-- the offset of a field at fault is within the file, and the bytes before it are truncated: none of their fields is at
-- fault
abbrev pub TruncatedBeforePlaces : Type 0
TruncatedBeforePlaces =
    (bytes : List ℕ) (place : ℕ) → HasCodeFault bytes (Field place) → (place < length bytes)
    × HasCodeFault (take place bytes) Truncated
