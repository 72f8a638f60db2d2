-- The fault of bytes that are not a code file.
use Rattle.std.specs.Prelude.{◌≡◌, ◌↔◌, ℕ, ◌<◌, List, slice_index, Err}
use Rattle.plan_code.specs.declared.fault.CodeFault.{CodeFault}
use Rattle.plan_code.specs.declared.fault.CodeFault.TheVariants.{Memory}
use Rattle.plan_code.specs.Program.{Program, IsProgram}
use Rattle.plan_code.specs.Spelling.{code_bytes}
use Rattle.plan_code.specs.Reading.{code_of}

abbrev pub AreBytes : List ℕ → Type 0
AreBytes bytes = (i : ℕ) → slice_index bytes i < 256

-- the bytes are not the file of any code
abbrev pub IsNoFile : List ℕ → Type 0
IsNoFile bytes = (p : Program) → IsProgram p → bytes ≡ code_bytes p → ⊥

-- the first fault in file order
abbrev pub HasCodeFault : List ℕ → CodeFault → Type 0
HasCodeFault bytes fault = code_of bytes ≡ Err fault

-- there is at most one fault
abbrev pub HasOneFault : Type 0
HasOneFault = (bytes : List ℕ) (f g : CodeFault) → HasCodeFault bytes f → HasCodeFault bytes g → f ≡ g

-- there is one exactly where the bytes are not a code file
abbrev pub HasFaultWithoutCode : Type 0
HasFaultWithoutCode = (bytes : List ℕ) → AreBytes bytes → ((f : CodeFault) × HasCodeFault bytes f) ↔ IsNoFile bytes

-- out of memory is never a fault of the bytes
abbrev pub BytesLackNoMemory : Type 0
BytesLackNoMemory = (bytes : List ℕ) → HasCodeFault bytes Memory → ⊥
