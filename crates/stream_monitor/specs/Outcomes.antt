-- A check of a stream has the same lines each time, and ends in one way.
use Rattle.std.specs.Prelude.{◌≡◌, ℕ, ◌^◌, ◌<◌, List, length}
use Rattle.stream_check.specs.Frames.{Fib, Reading, IsFramed}
use Rattle.stream_monitor.specs.declared.ending.Ending.{Ending}
use Rattle.stream_monitor.specs.declared.line.Line.{Line}
use Rattle.stream_monitor.specs.declared.options.CheckOptions.{CheckOptions}
use Rattle.stream_monitor.specs.Outcome.{Checks}

-- the same skipped FIBs, frames and rest
pub record AreFramedAlike (skipped later : List Fib) (frames others : List (List Fib))
    (rest left : List Fib) : Type 0 where
  pub skips : skipped ≡ later
  pub frames_are : frames ≡ others
  pub rests : rest ≡ left

-- a stream is cut into frames in one way
abbrev pub OneFraming : Type 0
OneFraming =
    (size : ℕ) (stream skipped later : List Fib) (frames others : List (List Fib)) (rest left : List Fib)
    → IsFramed size stream skipped frames rest → IsFramed size stream later others left
    → AreFramedAlike skipped later frames others rest left

pub record AreSame (log other : List Line) (ending last : Ending) : Type 0 where
  pub logs : log ≡ other
  pub endings : ending ≡ last

-- a stream of fewer than 2 ^ 62 bytes, with which no counter comes to its end, has one outcome
abbrev pub OneOutcome : Type 0
OneOutcome =
    (r : Reading) (o : CheckOptions) (stream : List ℕ) (log other : List Line) (ending last : Ending)
    → length stream < 2 ^ 62
    → Checks r o stream log ending → Checks r o stream other last → AreSame log other ending last
