-- The outcome of a live run: what was read and written.
use Rattle.std.specs.Prelude.{ℕ, List, drop, Option}
use Rattle.std.specs.List.{AllByRecursion, concat}
use Rattle.std.specs.Io.KnownBytes.{Appends, IsAtEnd}
use Rattle.console.specs.Lines.{GivesLines}
use Rattle.plan_runs.specs.declared.event.Event.{Event}
use Rattle.plan_player.specs.Playing.{Playing}
use Rattle.plan_player.specs.Delivery.{frames_of}
use Rattle.plan_session.specs.declared.step.Step.{Step}
use Rattle.plan_session.specs.Events.{events_of}
use Rattle.plan_live.specs.Growing.{Grows}
use Rattle.plan_live.specs.Lines.{LinesDo}

-- the bytes of the frames of these events, except the first `skip` of them
abbrev pub kept_bytes : ℕ → Playing → List Event → List ℕ
kept_bytes skip p events = concat (drop skip (frames_of p events))

-- ---- the input and the output, before and after

pub record Streamed : Type 0 where
  pub left : Option (List ℕ)
  pub written : Option (List ℕ)

abbrev pub streamed : Option (List ℕ) → Option (List ℕ) → Streamed
streamed left written = record { left = left; written = written }

-- both in one state, given what is known of each
abbrev pub streams_at : {E : Type 0} → (E → Option (List ℕ)) → (E → Option (List ℕ)) → E → Streamed
streams_at left written ends = streamed (left ends) (written ends)

-- ---- lines that are processed

-- these lines were read; and the frames of the steps that they list were written, except the first `skip`
pub record Reached (skip : ℕ) (p : Playing) (old new : Streamed) (lines : List (List ℕ)) : Type 0 where
  pub given : GivesLines old.left lines new.left
  pub steps : List Step
  pub does : LinesDo lines steps
  pub out : Appends old.written new.written (kept_bytes skip p (events_of steps))

-- some lines are processed
abbrev pub AreDone : ℕ → Playing → Streamed → Streamed → Type 0
AreDone skip p old new = (lines : List (List ℕ)) × Reached skip p old new lines

-- all lines are processed, and the input is at its end
abbrev pub Whole : ℕ → Playing → Streamed → Streamed → Type 0
Whole skip p old new = (lines : List (List ℕ)) × Reached skip p old new lines × IsAtEnd new.left

-- each time a line was requested, all lines before it had been processed; `moments` are the states at these
-- requests
pub record IsPrompt (skip : ℕ) (p : Playing) (old : Streamed) (before after : Option (List Streamed)) : Type 0 where
  pub moments : List Streamed
  pub grows : Grows before after moments
  pub done : AllByRecursion (AreDone skip p old) moments
