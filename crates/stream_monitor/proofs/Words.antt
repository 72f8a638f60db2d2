-- The words of the proofs, passed on from the modules that define them.
pub use Rattle.fib_codec.specs.Modes.{count_step, fib_count}
pub use Rattle.std.proofs.Common.{[], ◌&&◌, ◌++◌, ◌+◌, ◌-◌, ◌<◌, ◌||◌, ◌∙◌, ◌∷◌, ◌≡◌, ◌≤◌, ◌⊎◌, Bool, Err, IfOk, List}
pub use Rattle.std.proofs.Common.{None, Ok, Option, Result, Some, ap, append_assoc, arith, cond, drop, false, flat_map}
pub use Rattle.std.proofs.Common.{if◌then◌else◌, inl, inr, le-ltb, length, length-take-le, lt-ltb, map, min, nat_le}
pub use Rattle.std.proofs.Common.{nat_lt, not, refl, rules, subst, suc, sym, take, take-append-drop, true, zero, ℕ}
pub use Rattle.std.proofs.lemmas.Bool.{cases_lt, false≢true}
pub use Rattle.std.proofs.lemmas.List.{append-nil, append_cancel_left, drop-drop, drop_all, length-append, length-drop}
pub use Rattle.std.proofs.lemmas.List.{length-map, map-append, take_all}
pub use Rattle.std.specs.Io.Iter.{u64_saturate}
pub use Rattle.std.specs.Io.KnownBytes.{Consumes, IsAtEnd, prepend_known}
pub use Rattle.std.specs.List.{AllByRecursion, concat}
pub use Rattle.stream_check.proofs.Followed.{frame_count, unbegun}
pub use Rattle.stream_check.proofs.Framing.{all_append, findings_more, flat}
pub use Rattle.stream_check.proofs.Fronts.{front_framing, none_more, room_before, same_skipped}
pub use Rattle.stream_check.specs.CheckerState.{most}
pub use Rattle.stream_check.specs.Following.{EndsAtFib, Follows, FollowsFib, IsAtLimit, IsSummary, is_begun, is_empty}
pub use Rattle.stream_check.specs.Frames.{AreFrames, Fib, HoldsFirst, IsFramed, Reading, damaged_in, is_damaged}
pub use Rattle.stream_check.specs.Reported.{AtMost, Reported, Unknown, with_more}
pub use Rattle.stream_check.specs.declared.checker.Summary.{Summary}
pub use Rattle.stream_check.specs.declared.finding.Finding.{Finding}
pub use Rattle.stream_monitor.specs.Findings.{counted, faults_in, swaps_in}
pub use Rattle.stream_monitor.specs.Frames.{alive_lines, found_in, found_next, frame_lines, frames_lines, is_full}
pub use Rattle.stream_monitor.specs.Frames.{is_stopped, summary_after, tally_after, totals_after}
pub use Rattle.stream_monitor.specs.Going.{ChecksFib, ChecksSoFar, EndsFrameFrom, IsAfter, IsAfterFib, cause_of}
pub use Rattle.stream_monitor.specs.Going.{due_lines, end_after, end_of}
pub use Rattle.stream_monitor.specs.Lines.{finding_lines, is_due}
pub use Rattle.stream_monitor.specs.Log.{Gives, HasLines, IsLog, IsPrompt, Log, LogsLines, LogsNext, after_lines}
pub use Rattle.stream_monitor.specs.Log.{after_next, log_of}
pub use Rattle.stream_monitor.specs.Outcome.{Checks, ChecksInput, EndsFrame, GoesOn, HasFibSize, HasNoEnsemble}
pub use Rattle.stream_monitor.specs.Outcome.{IsTooLong, StopsAtEnd, StopsWithFib}
pub use Rattle.stream_monitor.specs.Outcomes.{AreFramedAlike, AreSame, OneOutcome}
pub use Rattle.stream_monitor.specs.Splitting.{BeginsWith}
pub use Rattle.stream_monitor.specs.declared.check.State.{State}
pub use Rattle.stream_monitor.specs.declared.ending.Ending.{Ending}
pub use Rattle.stream_monitor.specs.declared.fibs.Next.{Next}
pub use Rattle.stream_monitor.specs.declared.fibs.Next.TheVariants.{End, Part}
pub use Rattle.stream_monitor.specs.declared.line.Line.{Line}
pub use Rattle.stream_monitor.specs.declared.line.Totals.{Totals}
pub use Rattle.stream_monitor.specs.declared.options.CheckOptions.{CheckOptions}
pub use Rattle.stream_monitor.specs.declared.tally.Tally.{Tally}
