-- Where a check ends, and what it has read then.
use Rattle.std.specs.Prelude.{◌≡◌, ℕ, true, false, List, Option}
use Rattle.std.specs.Io.KnownBytes.{IsAtEnd}
use Rattle.stream_monitor.specs.declared.line.Cause.TheVariants as causes
use Rattle.stream_monitor.specs.declared.options.CheckOptions.{CheckOptions}
use Rattle.stream_monitor.specs.declared.ending.Ending.{Ending}
use Rattle.stream_monitor.specs.declared.ending.Ending.TheVariants as endings

-- with a FIB: where it decides a frame with a fault that ends the check, or is refused
abbrev pub StopsAtFib : CheckOptions → Ending → Type 0
StopsAtFib o (endings.Counted totals) = o.until_fault ≡ true
StopsAtFib o (endings.Refused causes.Full) = Unit {0}
StopsAtFib o (endings.Refused causes.TooLong) = Unit {0}
StopsAtFib o (endings.Refused causes.NotWhole) = ⊥
StopsAtFib o (endings.Refused causes.NoEnsemble) = ⊥

-- a check that ends neither with a fault nor with a refusal has read the whole input
abbrev pub HasReadAll : CheckOptions → Ending → Option (List ℕ) → Type 0
HasReadAll o (endings.Counted totals) left = o.until_fault ≡ false → IsAtEnd left
HasReadAll o (endings.Refused causes.Full) left = Unit {0}
HasReadAll o (endings.Refused causes.TooLong) left = Unit {0}
HasReadAll o (endings.Refused causes.NotWhole) left = IsAtEnd left
HasReadAll o (endings.Refused causes.NoEnsemble) left = IsAtEnd left
