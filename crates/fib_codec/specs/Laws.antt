-- Laws of the grammar's bytes: those of an entry encode an entry, and those of a FIB are 32.
use Rattle.std.specs.Prelude.{◌≡◌, ℕ, ◌<◌, List, length}
use Rattle.std.specs.List.{AllByRecursion}
use Rattle.mux_types.specs.declared.entry.Entry.{Entry}
use Rattle.fib_codec.specs.declared.head.Head.{Head}
use Rattle.fib_codec.specs.Grammar.{Fig, IsEntry, IsCounted, IsFib}
use Rattle.fib_codec.specs.Ranges.{IsWithin}
use Rattle.fib_codec.specs.Spelling.{IsUnder, entry_bytes}

abbrev pub IsByte : ℕ → Type 0
IsByte b = b < 256

-- these bytes encode an entry under this head, with each field within its bits
abbrev pub IsSpelled : Head → List ℕ → Type 0
IsSpelled head bytes = (e : Entry) × IsUnder head e × IsWithin e × (entry_bytes e ≡ bytes)

-- bytes that are an entry in the grammar encode one; ensemble information if its CIF count is in range
abbrev pub EntryIsSpelled : Type 0
EntryIsSpelled =
    (head : Head) (bytes : List ℕ) → head.ext < 4 → AllByRecursion IsByte bytes
    → IsEntry head.ext head.long bytes → (head.ext ≡ 0 → IsCounted bytes) → IsSpelled head bytes

-- a FIB has 32 bytes
abbrev pub FibHas32Bytes : Type 0
FibHas32Bytes = (bytes : List ℕ) (figs : List Fig) → IsFib bytes figs → length bytes ≡ 32
