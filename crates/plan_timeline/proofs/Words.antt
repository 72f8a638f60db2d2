-- The words of the proofs, passed on from the modules that define them.
pub use Rattle.plan_code.specs.Machine.{State}
pub use Rattle.plan_code.specs.Program.{Program}
pub use Rattle.plan_player.proofs.Delivering.{played_join}
pub use Rattle.plan_player.proofs.Joining.{replicate_more}
pub use Rattle.plan_player.specs.Playing.{Playing, played}
pub use Rattle.plan_player.specs.Quiet.{AreQuiet}
pub use Rattle.plan_runs.specs.Frames.{after_frame}
pub use Rattle.plan_runs.specs.Runs.{happens, run}
pub use Rattle.plan_runs.specs.declared.event.Event.{Event}
pub use Rattle.plan_runs.specs.declared.event.Event.TheVariants.{Contact as ContactChanges, Frame}
pub use Rattle.plan_session.specs.Events.{events_of, events_of_step}
pub use Rattle.plan_session.specs.Listing.{ListsSteps, TakesStep}
pub use Rattle.plan_session.specs.declared.step.Step.{Step}
pub use Rattle.plan_session.specs.declared.step.Step.TheVariants.{Contact as ContactStep, Frames}
pub use Rattle.plan_timeline.specs.Swaps.{FindsNext, Plays, Swapped, Went, begun, found, frames_in, left_of, swap_in}
pub use Rattle.plan_timeline.specs.Swaps.{HasTooMany, frame_count, frames_in_all, swapped, swaps_over}
pub use Rattle.plan_timeline.specs.declared.swap.Swap.{Swap}
pub use Rattle.plan_timeline.specs.declared.swaps.Position.{Position}
pub use Rattle.script_tokens.specs.Scanning.{Scan, bytes_left}
pub use Rattle.std.proofs.Common.{[], ◌++◌, ◌+◌, ◌-◌, ◌∙◌, ◌∷◌, ◌≡◌}
pub use Rattle.std.proofs.Common.{◌<◌, ◌≤◌, IfSome, OnErr, Bool, List, None, Option, Some, ap, append-nil}
pub use Rattle.std.proofs.Common.{append_assoc, arith, refl, replicate, subst, suc, sym, zero, ℕ}
pub use Rattle.std.proofs.Common.{Err, IfNone, IfOk, Ok, Result, false, is_some, true, true≢false}
pub use Rattle.plan_timeline.specs.declared.swaps.TooManyFrames.{TooManyFrames}
