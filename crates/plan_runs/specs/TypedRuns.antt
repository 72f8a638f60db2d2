-- Statements about every state that a typed code reaches.
use Rattle.std.specs.Prelude.{◌<◌, List, IfSome}
use Rattle.mux_config.specs.Configuration.{IsConfiguration}
use Rattle.std.specs.List.{AllByRecursion}
use Rattle.mux_config.specs.Sound.{IsSound}
use Rattle.fib_codec.specs.Ranges.{IsEnsembleInformation}
use Rattle.mux_types.specs.declared.limits.TheConstants.{COUNTS}
use Rattle.plan_code.specs.declared.plan.Plan.{Plan}
use Rattle.plan_code.specs.Program.{Program, IsProgram}
use Rattle.plan_code.specs.Machine.{State}
use Rattle.plan_verifier.specs.Typing.{IsTyped}
use Rattle.plan_runs.specs.declared.event.Event.{Event}
use Rattle.plan_runs.specs.declared.event.Start.{Start}
use Rattle.plan_runs.specs.Frames.{shown, sent_rounds, ensemble_sent}
use Rattle.plan_runs.specs.Runs.{IsStart, StartIsInRange, IsEvent, IsReached, RunIsAllowed, run}

-- a typed code, in a state that it reaches
pub record IsPlayed (p : Program) (s : State) : Type 0 where
  pub program : IsProgram p
  pub typed : IsTyped p
  pub reached : IsReached p s

-- over these events there is no trap, no frame executes more instructions than the budget, and the final current
-- configuration is sound
pub record RunsWell (p : Program) (s : State) (events : List Event) : Type 0 where
  pub allowed : RunIsAllowed p s events
  pub sound : IsSound (run p s events).current

abbrev pub TypedCodeRuns : Type 0
TypedCodeRuns = (p : Program) (s : State) (events : List Event) → IsPlayed p s → RunsWell p s events

-- the next frame can be sent: the page in turn is one of its pages, and the fields of FIG 0/0 fit in their bits
pub record CanBeSent (plan : Plan) (s : State) : Type 0 where
  pub page_index : s.page_index < sent_rounds plan s
  pub current : IsConfiguration s.current
  pub next : IsConfiguration s.next
  pub count : s.count < COUNTS
  pub ensemble : IfSome (ensemble_sent plan s) IsEnsembleInformation

abbrev pub FramesCanBeSent : Type 0
FramesCanBeSent = (p : Program) (s : State) → IsPlayed p s → CanBeSent p.plan (shown p s)

-- a start is reached, and so is every state that follows a reached one
abbrev pub StartsAreReached : Type 0
StartsAreReached = (p : Program) (start : Start) (s : State) → StartIsInRange start → IsStart p start s → IsReached p s

abbrev pub ReachedIsKept : Type 0
ReachedIsKept =
    (p : Program) (s : State) (events : List Event) → IsReached p s → AllByRecursion IsEvent events
    → IsReached p (run p s events)
