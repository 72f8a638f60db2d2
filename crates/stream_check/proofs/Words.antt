-- The words of the proofs, passed on from the modules that define them.
pub use Rattle.fib_codec.specs.Grammar.{Fig, IsFib, Open, Other, is_next}
pub use Rattle.fib_codec.specs.Modes.{count_step, fib_count}
pub use Rattle.fib_reader.specs.Listening.{Listening, Pictured, all_entries, at_ensemble, awaiting, has_room}
pub use Rattle.fib_reader.specs.Listening.{hear_entry, identifier_of, into, is_known, is_made, kept, picture_of}
pub use Rattle.fib_reader.specs.Listening.{pictured, swapped, where_heard}
pub use Rattle.fib_reader.specs.Raw.{Raw, ensemble_in, entries_in}
pub use Rattle.fig_mentions.specs.Agreeing.{are_there, entries_agree, fig_agrees, is_judged, is_named, is_present}
pub use Rattle.fig_mentions.specs.Mentions.{entry_mention, first_entry_length, mentions_of, with_mention}
pub use Rattle.fig_mentions.specs.declared.mention.Mention.{Mention}
pub use Rattle.fig_mentions.specs.declared.mention.Mention.TheVariants.{ByPacket, Nothing, OnSub, Packet, Sub}
pub use Rattle.mux_config.proofs.Keeping.{absent_found, is_found, present}
pub use Rattle.mux_config.specs.Tables.{entry_at, has_entry, with_entry, with_entry_changed}
pub use Rattle.mux_types.proofs.Tables.{each_weaker}
pub use Rattle.mux_types.specs.Entries.{EnsembleInformation}
pub use Rattle.std.proofs.Common.{[], ◌%◌, ◌&&◌, ◌++◌, ◌+◌, ◌-◌, ◌<◌, ◌==◌, ◌||◌, ◌↔◌, ◌∙◌, ◌∷◌, ◌≡◌, ◌≢◌, ◌≤◌, ◌⊎◌}
pub use Rattle.std.proofs.Common.{Bool, Contains, Err, List, None, Ok, Option, Some, ap, ap₂, arith, cond, drop, false}
pub use Rattle.std.proofs.Common.{flat_map, inl, inr, is_some, le-ltb, length, lt-ltb, map, nat_le, nat_lt, not, refl}
pub use Rattle.std.proofs.Common.{replicate, subst, suc, sym, take, true, zero, ℕ}
pub use Rattle.std.proofs.lemmas.Bool.{cases_lt, eq-eqb, eqb-true, false≢true, leb-false, lt-leb, ltb-false, ltb-true}
pub use Rattle.std.proofs.lemmas.Bool.{ne_eqb, or_parts}
pub use Rattle.std.proofs.lemmas.Grind.{common_steps}
pub use Rattle.std.proofs.lemmas.List.{append-nil, append_assoc, drop-append-le, drop_all, length-append, length-drop}
pub use Rattle.std.proofs.lemmas.List.{length-map, map-append, take-append-drop, take-append-le, take_all}
pub use Rattle.std.proofs.lemmas.List.Concat.{flat_map-append}
pub use Rattle.std.proofs.lemmas.List.Elements.{Contains-append_cases, Contains-append_left, Contains-append_right}
pub use Rattle.std.specs.List.{AllByRecursion, concat, filter, list_all, list_any}
pub use Rattle.std.specs.Prelude.{◌/◌, IsTrue, Result, bytes_eq, get_or, if◌then◌else◌}
pub use Rattle.stream_check.specs.CheckerState.{HasNotice, IsLastHeard, IsSane, IsStamped, Knows, eid_after}
pub use Rattle.stream_check.specs.CheckerState.{known_in, later, listener_in, quiet_findings, silent_in, with_current}
pub use Rattle.stream_check.specs.CheckerState.{with_ensemble, with_flags, with_frame, with_next, with_row, with_swap}
pub use Rattle.stream_check.specs.Contradictions.{AgreeingHasNone, AreNew, AreReportedOnce, NoneIsLeftOut, absent}
pub use Rattle.stream_check.specs.Contradictions.{absent_among, are_whole, contradictions_among, contradictions_in}
pub use Rattle.stream_check.specs.Contradictions.{contradicts, is_new, is_noted, is_same, is_same_mention, most_noted}
pub use Rattle.stream_check.specs.Contradictions.{new_among, new_findings, noted_with}
pub use Rattle.stream_check.specs.Cutting.{GreedyCloses, GreedyIsMost, GreedyStays, HasAll, IsCutInThree, IsCutInto}
pub use Rattle.stream_check.specs.Cutting.{IsGreedy, IsMostParts, IsPart, MostIsOne, NewBeginsAnew, ThreeOrMore}
pub use Rattle.stream_check.specs.Following.{Adds, Checking, EndsFull, Follows, FollowsFib, IsSummary, is_begun}
pub use Rattle.stream_check.specs.Following.{is_empty}
pub use Rattle.stream_check.specs.Frames.{AreFrames, AreSeen, BeginsAnew, Fib, HoldsFirst, IsFramed, IsOneFrame, IsSeen}
pub use Rattle.stream_check.specs.Frames.{Reading, Reads, begins_with_ensemble, damaged_in, first_in, first_in_figs}
pub use Rattle.stream_check.specs.Frames.{first_of_frame, first_opening, first_raw, holds_ensemble, is_damaged}
pub use Rattle.stream_check.specs.Frames.{is_there, lacks_opening, opening}
pub use Rattle.stream_check.specs.Hearing.{AreNoted, Hears, HearsFrame, HearsItems, IsFrameHeard, IsHeard, IsLater}
pub use Rattle.stream_check.specs.History.{Ended, Item, Moment, Said, began_early, begins_notice, due, eid_of}
pub use Rattle.stream_check.specs.History.{ensemble_of_item, fib_items, fibs_items, fig_items, figs_items, flag_count}
pub use Rattle.stream_check.specs.History.{frame_items, frames_ended, has_begun, has_ensemble, is_cut_off, is_ensemble}
pub use Rattle.stream_check.specs.History.{is_flagged, is_in_place, is_member, is_swap, items_of, last_eid, last_flags}
pub use Rattle.stream_check.specs.History.{last_heard, listener, listener_after, listening, row_at_hand, rows}
pub use Rattle.stream_check.specs.History.{said, settles_at, times_announced}
pub use Rattle.stream_check.specs.Lookup.{agree, bool_eq, lookup, lookup_among, lookup_in}
pub use Rattle.stream_check.specs.Parts.{IsTheMost, contains, has_all, most_parts, parts_from}
pub use Rattle.stream_check.specs.Pictures.{Each, HasKinds, Heard, HeardPicture, empty_picture, heard_kept, heard_key}
pub use Rattle.stream_check.specs.Pictures.{heard_since, key_of, keys, keys_of, picture_kept, picture_of_heard, raws}
pub use Rattle.stream_check.specs.Reported.{All, AtMost, Reported, Unknown, kept_findings, with_more}
pub use Rattle.stream_check.specs.Reporting.{in_frame, when}
pub use Rattle.stream_check.specs.Rules.{KnownBefore, announcement, are_same, at_most, can_fall_at, count_findings}
pub use Rattle.stream_check.specs.Rules.{current_findings, ensemble_findings, findings_at, finds_no_room, flags_faults}
pub use Rattle.stream_check.specs.Rules.{has_flags, has_no_room, heard_faults, is_absent, is_silent, known_of}
pub use Rattle.stream_check.specs.Rules.{makes_swap, member_findings, name_of, next_findings, notice_faults, overlap}
pub use Rattle.stream_check.specs.Rules.{partner, past_end, place_faults, share_unit, silence, silent_findings}
pub use Rattle.stream_check.specs.Rules.{swap_or_another, times_faults, times_heard, unannounced_findings, unit_faults}
pub use Rattle.stream_check.specs.Sent.{EntrySent, FigSent, Sent, contradictions_at, entries_sent, fib_sent, fibs_sent}
pub use Rattle.stream_check.specs.Sent.{fig_sent, figs_sent, frame_sent, items_in, noted_after, noted_at}
pub use Rattle.stream_check.specs.Stream.{after_frames, count_of_frame, damaged_findings, findings_at_sent}
pub use Rattle.stream_check.specs.Stream.{findings_from, findings_in, findings_of, first_line, frame_at, frame_findings}
pub use Rattle.stream_check.specs.Stream.{frames_full, last_findings, missing_findings, noted_in, noted_in_frames}
pub use Rattle.stream_check.specs.Stream.{past_after_frame, runs_full, size_findings}
pub use Rattle.stream_check.specs.declared.checker_state.CheckerState.{CheckerState}
pub use Rattle.stream_check.specs.declared.contradiction.Contradiction.{Contradiction}
pub use Rattle.stream_check.specs.declared.contradiction.Contradiction.TheVariants.{NotThere, NotWhole}
pub use Rattle.stream_check.specs.declared.finding.What.{What}
pub use Rattle.stream_check.specs.declared.reporting.FrameAt.{FrameAt}
