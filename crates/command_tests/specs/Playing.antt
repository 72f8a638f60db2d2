-- A file in memory that holds a run.
use Rattle.std.specs.Prelude.{◌≡◌, ℕ, List, Some, codes, take}
use Rattle.console.specs.World.{World}
use Rattle.plan_player.specs.Playing.{Playing}
use Rattle.plan_player.specs.Delivery.{played_bytes}
use Rattle.plan_session.specs.declared.step.Step.{Step}
use Rattle.plan_session.specs.Events.{events_of}
use Rattle.plan_session.specs.declared.start.StartOptions.{StartOptions}
use Rattle.plan_session.specs.Playback.{asked_from, IsPlayback}

-- the output file has the bytes of the run of the code over the events, of which no more than the largest code file and
-- a byte is read
pub record HoldsRun (code events : List ℕ) (start : StartOptions) (after : World) : Type 0 where
  pub p : Playing
  pub steps : List Step
  pub playback : IsPlayback (asked_from (take 1048577 code) events start) p steps
  pub written : after.files (codes "x.fib") ≡ Some (played_bytes p (events_of steps))
