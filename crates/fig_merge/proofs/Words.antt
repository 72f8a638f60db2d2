-- The words of the proofs, passed on from the modules that define them.
pub use Rattle.fib_codec.proofs.U16.{checked_is, sealed_end}
pub use Rattle.fib_codec.proofs.Uniqueness.{one_fib}
pub use Rattle.fib_codec.specs.Grammar.{AreFigs, Fig, IsFib, IsFig, Open, Other, fig_spelled, is_next}
pub use Rattle.fib_codec.specs.Spelling.{checked, filled}
pub use Rattle.fib_reader.specs.Listening.{Heard, Listening}
pub use Rattle.fig_mentions.specs.Agreeing.{fig_agrees}
pub use Rattle.fig_merge.specs.Filling.{after_fill, agrees_with, carried_by, carried_in, carried_of, data_of}
pub use Rattle.fig_merge.specs.Filling.{filled_fib, heard_or, hearing, left_waiting, merged, room_after, room_of}
pub use Rattle.fig_merge.specs.Filling.{stale_by, stale_in, stale_of, turns_by, turns_in}
pub use Rattle.fig_merge.specs.Passing.{AllAreFilled, AreFilled, AreFilledFrames, FilledHasTheEntries, FilledIsAsLong}
pub use Rattle.fig_merge.specs.Passing.{FilledIsCheckedAlike, FilledIsFramedAlike, FilledIsFullAlike}
pub use Rattle.fig_merge.specs.Passing.{FilledIsHeardAlike, FilledIsRead, Judge, agreeing, any_carried, fibs_in}
pub use Rattle.fig_merge.specs.Passing.{hear_fib, hearing_fib, hearing_fibs, sent_in, with_carried}
pub use Rattle.fig_merge.specs.Steps.{AllAreAccounted, AllAreCarried, AreDifferent, Fill, FillsEmpty, Go, HasEmpty}
pub use Rattle.fig_merge.specs.Steps.{Step, Take, TheLongestWaitingGoes, after_step, after_steps, all_carried}
pub use Rattle.fig_merge.specs.Steps.{all_dropped, all_repeated, all_stale, all_taken, all_turns, carried_at}
pub use Rattle.fig_merge.specs.Steps.{dropped_of, joined, repeated_of, stale_at, taken_at, times, turns_at}
pub use Rattle.fig_merge.specs.Taking.{IsMerging, IsPassedOver, IsSendable, Merging, after_take, is_left_out, limited}
pub use Rattle.fig_merge.specs.Taking.{most, nothing_taken, taken_in, taken_of, waits, with_fig, with_figs}
pub use Rattle.std.proofs.Common.{[], ◌%◌, ◌&&◌, ◌++◌, ◌+◌, ◌-◌, ◌<◌, ◌==◌, ◌^◌, ◌||◌, ◌↔◌, ◌∙◌, ◌∷◌, ◌≡◌, ◌≤◌, ◌⊎◌}
pub use Rattle.std.proofs.Common.{Bool, List, None, Ok, Option, Result, Some, ap, append-nil, append_assoc, ap₂, arith}
pub use Rattle.std.proofs.Common.{cond, drop, drop-cons, drop_at, false, flat_map, get_or, inl, inr, leb, length}
pub use Rattle.std.proofs.Common.{length-append, length-drop, length-take, length-take-le, ltb, map, nat_le, nat_lt}
pub use Rattle.std.proofs.Common.{not, refl, replicate, subst, subst₂, suc, sym, take, take-append-drop, take-take}
pub use Rattle.std.proofs.Common.{take_at, true, zero, ℕ}
pub use Rattle.std.proofs.lemmas.Bool.{cases_lt, cond-false, cond-true, false≢true, le-leb, le-ltb, leb-false, leb-true}
pub use Rattle.std.proofs.lemmas.Bool.{lt-leb, lt-ltb, ltb-true}
pub use Rattle.std.proofs.lemmas.List.Elements.{Contains-append_cases, Contains-append_left, Contains-append_right}
pub use Rattle.std.specs.List.{AllByRecursion, concat, list_all}
pub use Rattle.std.specs.Prelude.{Contains}
pub use Rattle.stream_check.specs.Frames.{AreFrames, BeginsAnew, Fib, HoldsFirst, IsOneFrame, Reading, Reads}
pub use Rattle.stream_check.specs.Frames.{begins_with_ensemble, damaged_in, first_in, first_in_figs, first_of_frame}
pub use Rattle.stream_check.specs.Frames.{first_opening, first_or, first_raw, holds_ensemble, is_damaged, is_there}
pub use Rattle.stream_check.specs.Frames.{lacks_opening, opening, opening_in_figs}
pub use Rattle.stream_check.specs.History.{Ended, Item, Moment, Said, due, fib_items, fibs_items, fig_items, figs_items}
pub use Rattle.stream_check.specs.History.{frame_items, frames_ended, is_ensemble, items_of, listener, listener_after}
pub use Rattle.stream_check.specs.History.{listening, said}
pub use Rattle.stream_check.specs.Listening.{Pictured, at_ensemble, has_room, hear_entries, hear_entry, hear_figs}
pub use Rattle.stream_check.specs.Listening.{identifier_of, into, kept, picture_of, pictured, untuned, where_heard}
pub use Rattle.stream_check.specs.Raw.{Raw, ensemble_in, entries_in}
pub use Rattle.stream_check.specs.Reporting.{in_frame, when}
pub use Rattle.stream_check.specs.Stream.{count_due, count_in, count_of_frame, findings_at_sent, findings_from}
pub use Rattle.stream_check.specs.Stream.{findings_in, first_line, frame_findings, frames_full, last_findings, noted_in}
pub use Rattle.stream_check.specs.Stream.{past_after_frame, placed_count, runs_full}
pub use Rattle.stream_check.specs.declared.finding.What.{What}
