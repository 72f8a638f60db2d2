-- The words of the proofs, passed on from the modules that define them.
pub use Rattle.console.specs.Lines.{AreLinesOf, BytesHaveLines, GivesLine, GivesLines, HasNoFeed, LacksLastFeed}
pub use Rattle.console.specs.Lines.{lines_of, with_feeds}
pub use Rattle.plan_code.specs.Machine.{State}
pub use Rattle.plan_code.specs.Program.{Program}
pub use Rattle.plan_live.specs.Going.{FrameWent, Going, LineWent, Went, kept}
pub use Rattle.plan_live.specs.Growing.{Grows}
pub use Rattle.plan_live.specs.Lines.{LineDoes, LineHolds, LinesDo, ListsNone}
pub use Rattle.plan_live.specs.Living.{AreDone, IsPrompt, Reached, Streamed, Whole, kept_bytes, streamed, streams_at}
pub use Rattle.plan_live.specs.OneFile.{AreListing, FitsIntoMemory, InputIsPlayback, IsPlayedAs, LinesListInTurn}
pub use Rattle.plan_live.specs.OneFile.{ListInTurn, LiveIsPlayback, over}
pub use Rattle.plan_player.specs.Delivery.{frames_of, next_frame, played_bytes}
pub use Rattle.plan_player.specs.Playing.{Playing, last_steps, played}
pub use Rattle.plan_runs.proofs.Samples.{all_open, code, first_state, label}
pub use Rattle.plan_runs.specs.declared.event.Event.{Event}
pub use Rattle.plan_runs.specs.declared.event.Event.TheVariants.{Contact, Frame}
pub use Rattle.plan_session.specs.Events.{Holds, HoldsOneList, IsStep, events_of, events_of_step, step_lexemes}
pub use Rattle.plan_session.specs.Playback.{Begins, IsPlayback, Request, asked}
pub use Rattle.plan_session.specs.declared.step.Step.{Step}
pub use Rattle.plan_session.specs.declared.step.Step.TheVariants.{Frames}
pub use Rattle.std.proofs.Common.{[], ◌++◌, ◌+◌, ◌-◌, ◌<◌, ◌∙◌, ◌∷◌, ◌≡◌, ◌≤◌, ◌⊎◌, Bool, Err, List, None, Ok, Option}
pub use Rattle.std.proofs.Common.{Result, Some, ap, append-nil, append_assoc, arith, drop, inl, inr, length}
pub use Rattle.std.proofs.Common.{length-append, refl, replicate, subst, suc, sym, take, true, zero, ℕ}
pub use Rattle.std.proofs.KnownBytes.{Appends-kept, Appends-nil, Appends-trans}
pub use Rattle.std.proofs.lemmas.List.{length-replicate, take_more}
pub use Rattle.std.specs.Io.KnownBytes.{Appends, IsAtEnd, Keeps}
pub use Rattle.std.specs.List.{AllByRecursion, concat}
pub use Rattle.std.specs.Prelude.{◌≢◌, IfSome, OnOk, codes}
