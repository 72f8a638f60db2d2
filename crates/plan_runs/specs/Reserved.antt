-- The FIBs of a frame that a plan leaves free.
use Rattle.std.specs.Prelude.{List}
use Rattle.std.specs.List.{AllByRecursion}
use Rattle.fib_codec.specs.Layouts.{KeepsReserve}
use Rattle.plan_code.specs.Program.{Program}
use Rattle.plan_code.specs.Machine.{State}
use Rattle.plan_runs.specs.declared.event.Event.{Event}
use Rattle.plan_runs.specs.Runs.{run_frames}
use Rattle.plan_runs.specs.TypedRuns.{IsPlayed}

-- in every frame of every run of a typed code the reserved FIBs are empty
abbrev pub ReservesAreKept : Type 0
ReservesAreKept =
    (p : Program) (s : State) (events : List Event) → IsPlayed p s
    → AllByRecursion (KeepsReserve p.plan.layout) (run_frames p s events)
