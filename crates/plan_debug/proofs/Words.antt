-- The words of the proofs, passed on from the modules that define them.
pub use Rattle.circular_buffer.specs.Buffer.{keep_last}
pub use Rattle.fib_reader.specs.Raw.{Raw, entries_in, raw_entry, raw_of}
pub use Rattle.mux_types.specs.Entries.{EnsembleInformation}
pub use Rattle.plan_code.specs.Machine.{State}
pub use Rattle.plan_code.specs.Program.{Program, line_at}
pub use Rattle.plan_code.specs.declared.plan.Plan.{Plan}
pub use Rattle.plan_debug.specs.Announcements.{announced, announced_by, announced_for, announcement_list}
pub use Rattle.plan_debug.specs.Announcements.{frame_announcement, shown_announcement}
pub use Rattle.plan_debug.specs.Commands.{Ends, EndsAt, after_frames, frames, last_bytes, most_frames}
pub use Rattle.plan_debug.specs.Flagged.{AnnouncementsAreFlagged, AreFlaggedIn, IsFlaggedIn, IsFlaggedOnly, IsUnflagged}
pub use Rattle.plan_debug.specs.declared.announcement.Announcement.{Announcement}
pub use Rattle.plan_runs.specs.Frames.{after_frame, ensemble_of, ensemble_sent, frame_bytes, is_noticed, shown}
pub use Rattle.plan_runs.specs.Runs.{IsEvent, happens, run, run_frames}
pub use Rattle.plan_runs.specs.SentHeaders.{HasHeaderOf, HeadersAreSent}
pub use Rattle.plan_runs.specs.declared.event.Event.{Event}
pub use Rattle.plan_runs.specs.declared.event.Event.TheVariants.{Contact, Frame}
pub use Rattle.std.proofs.Common.{[], ◌%◌, ◌++◌, ◌+◌, ◌-◌, ◌<◌, ◌==◌, ◌↔◌, ◌∙◌, ◌∷◌, ◌≡◌, ◌≤◌, ◌⊎◌, Bool, Contains}
pub use Rattle.std.proofs.Common.{IsTrue, List, None, Option, Some, ap, append_assoc, arith, cond, drop, drop-drop}
pub use Rattle.std.proofs.Common.{false, if◌then◌else◌, inl, inr, length, length-append, length-drop, map, refl}
pub use Rattle.std.proofs.Common.{replicate, rules, subst, suc, sym, true, zero, ℕ}
pub use Rattle.std.proofs.lemmas.Bool.{cases_lt, eqb-false, eqb-true}
