-- The words of the proofs, passed on from the modules that define them.
pub use Rattle.cli_plans.specs.Success.{IsLiveTo, IsPlayedInto, IsPlayedTo, Lives, Plays, PlaysToOutput}
pub use Rattle.cli_plans.specs.declared.live.LiveRequest.{LiveRequest}
pub use Rattle.console.specs.World.{Becomes, HasWritten, IsSameBut, Stays, World}
pub use Rattle.plan_player.specs.Delivery.{played_bytes}
pub use Rattle.plan_player.specs.Playing.{Playing}
pub use Rattle.plan_session.specs.Events.{events_of}
pub use Rattle.plan_session.specs.Playback.{Begins, IsPlayback, asked_from}
pub use Rattle.plan_session.specs.declared.start.StartOptions.{StartOptions}
pub use Rattle.plan_session.specs.declared.step.Step.{Step}
pub use Rattle.std.proofs.Common.{[], ◌++◌, ◌-◌, ◌∙◌, ◌∷◌, ◌≡◌, Err, List, None, Ok, Option, Result, Some, ap, arith}
pub use Rattle.std.proofs.Common.{length, refl, subst, sym, take, ℕ}
pub use Rattle.std.proofs.lemmas.Result.{IfOk-weaker}
pub use Rattle.std.specs.Io.KnownBytes.{Appends, Keeps, prepend_known}
pub use Rattle.std.specs.Prelude.{◌==◌, IfErr, IfOk, IfSome, IsOk, OnErr, OnOk, if◌then◌else◌, true}
