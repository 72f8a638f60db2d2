-- What was heard of a notice was sent: the frames of the notice so far are the last frames of the run.
use Rattle.std.specs.Prelude.{◌≡◌, ℕ, true, List, [], ◌++◌, length}
use Rattle.plan_code.specs.Program.{Program, IsProgram}
use Rattle.plan_code.specs.Machine.{State}
use Rattle.plan_verifier.specs.Typing.{IsTyped}
use Rattle.plan_runs.specs.declared.event.Event.{Event}
use Rattle.plan_runs.specs.declared.event.Start.{Start}
use Rattle.plan_runs.specs.Frames.{is_due}
use Rattle.plan_runs.specs.Runs.{StartIsInRange, IsStart, run, run_frames}
use Rattle.plan_runs.specs.Announced.{heard_of, heard_along}

-- over these events from a start: the frames of a notice that the final state implies are those heard along the run;
-- they are the last ones that it sent; and where a swap is due, there are as many as a notice has
pub record AreLastSent (p : Program) (first : State) (events : List Event) : Type 0 where
  pub along : heard_along p first [] events ≡ heard_of p.plan (run p first events)
  pub earlier : List (List ℕ)
  pub sent : run_frames p first events ≡ earlier ++ heard_of p.plan (run p first events)
  pub whole : is_due (run p first events).left ≡ true → length (heard_of p.plan (run p first events)) ≡ p.plan.notice

-- ---- the law

abbrev pub HeardWasSent : Type 0
HeardWasSent =
    (p : Program) (start : Start) (first : State) (events : List Event)
    → IsProgram p → IsTyped p → StartIsInRange start → IsStart p start first → AreLastSent p first events
