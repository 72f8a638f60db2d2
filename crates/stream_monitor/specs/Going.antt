-- The state of a check between FIBs. No public contract needs this to be believed.
use Rattle.std.specs.Prelude.{◌≡◌, ℕ, ◌&&◌, nat_lt, false, if◌then◌else◌, List, [], ◌∷◌, ◌++◌, map, Option, None, Some}
use Rattle.std.specs.List.{AllByRecursion, concat}
use Rattle.std.specs.Io.KnownBytes.{Consumes}
use Rattle.stream_check.specs.Frames.{Fib, Reading}
use Rattle.stream_check.specs.Following.{Follows}
use Rattle.stream_check.specs.Reported.{Unknown}
use Rattle.stream_check.specs.declared.checker.CheckFault.{CheckFault}
use Rattle.stream_check.specs.declared.checker.CheckFault.TheVariants as faults
use Rattle.stream_monitor.specs.declared.ending.Ending.{Ending}
use Rattle.stream_monitor.specs.declared.ending.Ending.TheVariants as endings
use Rattle.stream_monitor.specs.declared.line.Cause.{Cause}
use Rattle.stream_monitor.specs.declared.line.Cause.TheVariants as causes
use Rattle.stream_monitor.specs.declared.line.Line.{Line}
use Rattle.stream_monitor.specs.declared.line.Line.TheVariants as lines
use Rattle.stream_monitor.specs.declared.line.Totals.{Totals}
use Rattle.stream_monitor.specs.declared.check.State.{State}
use Rattle.stream_monitor.specs.declared.options.CheckOptions.{CheckOptions}
use Rattle.stream_monitor.specs.Lines.{is_due}
use Rattle.stream_monitor.specs.Log.{Log, IsLog, LogsLines}
use Rattle.stream_monitor.specs.Frames.{is_stopped, tally_after, totals_after, alive_lines, frames_lines}
use Rattle.stream_monitor.specs.Outcome.{HasFibSize, StopsWithFib}

-- the state after these FIBs, none of which ends the check, and the lines so far
pub record IsAfter (r : Reading) (o : CheckOptions) (fibs : List (List ℕ)) (log : List Line) (s : State) : Type 0 where
  pub sizes : AllByRecursion HasFibSize fibs
  pub stream : List Fib
  pub read : stream ≡ map r.read fibs
  pub follows : Follows r o.mode o.period stream Unknown Unknown s.checker
  pub tally : s.tally ≡ tally_after o follows.frames
  pub no_fault : is_stopped o follows.frames ≡ false
  pub lines : log ≡ frames_lines o follows.skipped [] follows.frames

-- ---- the end of a frame

-- the line of the totals so far, if they are due
abbrev pub due_lines : CheckOptions → Totals → List Line
due_lines o t = if is_due o.every t.summary.frames then lines.Alive t ∷ [] else []

-- the end of a check with the totals so far, if it ends with a fault
abbrev pub end_of : CheckOptions → Totals → Option Ending
end_of o t = if o.until_fault && nat_lt 0 t.faults then Some (endings.Counted t) else None

-- the end of a check with the last of these frames, if it ends there
abbrev pub end_after : CheckOptions → (skipped : List Fib) (frames : List (List Fib)) → Option Ending
end_after o skipped frames =
    if is_stopped o frames then Some (endings.Counted (totals_after o skipped frames [])) else None

-- the totals are told if they are due, and the check ends if it does
abbrev pub EndsFrameFrom : CheckOptions → State → (old new : Option Log) → Option Ending → Type 0
EndsFrameFrom o s old new e =
    (r : Reading) (stream : List Fib) (f : Follows r o.mode o.period stream Unknown Unknown s.checker)
    → s.tally ≡ tally_after o f.frames
    → LogsLines old new (alive_lines o f.skipped f.frames) × (e ≡ end_after o f.skipped f.frames)

-- ---- one more FIB

abbrev pub cause_of : CheckFault → Cause
cause_of faults.Full = causes.Full
cause_of faults.TooLong = causes.TooLong

abbrev pub IsAfterFib : Reading → CheckOptions → (fibs : List (List ℕ)) (fib : List ℕ) (log : List Line) → State
    → Option Ending → Type 0
IsAfterFib r o fibs fib log s None = IsAfter r o (fibs ++ fib ∷ []) log s
IsAfterFib r o fibs fib log s (Some e) = StopsWithFib r o fibs fib log e

abbrev pub ChecksFib : CheckOptions → (fib : List ℕ) (old new : State) (before after : Option Log) → Option Ending
    → Type 0
ChecksFib o fib old new before after e =
    (r : Reading) (fibs : List (List ℕ)) (log : List Line) → IsAfter r o fibs log old
    → (more : List Line) × LogsLines before after more × IsAfterFib r o fibs fib (log ++ more) new e

-- ---- FIB by FIB

-- from a beginning at which the first bytes were left, to where the second ones are, with this log
abbrev pub ChecksSoFar : CheckOptions → (left now : Option (List ℕ)) → State → Option Log → Type 0
ChecksSoFar o left now s kept =
    (r : Reading) → (fibs : List (List ℕ)) × (log : List Line) × Consumes left now (concat fibs) × IsLog o fibs log kept
    × IsAfter r o fibs log s
