-- The words of the proofs, passed on from the modules that define them.
pub use Rattle.fib_carousel.specs.Pages.{fib_entries, first_fib, later_fibs, page_after, page_entries, page_set, rounds}
pub use Rattle.fib_codec.specs.Grammar.{AreEntries, AreFigs, Fig, IsCounted, IsEntry, IsFib, IsFig, IsOpen, OneList}
pub use Rattle.fib_codec.specs.Grammar.{Open, Other, fig_of, is_long, is_next, is_open}
pub use Rattle.fib_codec.specs.Heard.{IsEnsembleHeardInRow, IsHeardInRow, IsInFig, IsSaid, fib_at}
pub use Rattle.fib_codec.specs.Laws.{EntryIsSpelled, FibHas32Bytes, IsByte}
pub use Rattle.fib_codec.specs.Layouts.{frame_fibs, layout_mode, reserved_fibs}
pub use Rattle.fib_codec.specs.Modes.{count_step, fib_count}
pub use Rattle.fib_codec.specs.Ranges.{IsEnsembleInformation, IsWithin}
pub use Rattle.fib_codec.specs.Spelling.{IsUnder, SpellingIdentifies, Written, ensemble_bytes, entry_bytes, ext_of}
pub use Rattle.fib_codec.specs.Spelling.{head_byte, head_of, is_long_entry}
pub use Rattle.fib_codec.specs.declared.frame_layout.FrameLayout.{FrameLayout}
pub use Rattle.fib_codec.specs.declared.frame_layout.FrameLayout.TheVariants.{ReserveOne, Whole}
pub use Rattle.fib_codec.specs.declared.head.Head.{Head}
pub use Rattle.fib_codec.specs.declared.modes.Mode.{Mode}
pub use Rattle.fib_codec.specs.declared.modes.Mode.TheVariants.{I, II, III, IV}
pub use Rattle.fib_reader.proofs.FromEntries.{packet_identified, packet_within, service_identified, service_within}
pub use Rattle.fib_reader.proofs.FromEntries.{sub_identified, sub_within}
pub use Rattle.fib_reader.proofs.Keeping.{each_kept, kept_where_found}
pub use Rattle.fib_reader.proofs.Shown.{ShowsEach, shows_each}
pub use Rattle.fib_reader.specs.Laws.{EnsembleIsHeard}
pub use Rattle.fib_reader.specs.Listening.{Listening, Pictured, all_entries, at_ensemble, blank, has_room, hear_entries}
pub use Rattle.fib_reader.specs.Listening.{hear_entry, hear_fig, hear_figs, identifier_of, into, is_known, is_made}
pub use Rattle.fib_reader.specs.Listening.{kept, picture_of, pictured, swapped, untuned, where_heard}
pub use Rattle.fib_reader.specs.Raw.{Raw, ensemble_in, entries_in, raw_entry, raw_of}
pub use Rattle.mux_config.proofs.Keeping.{absent_found, entry_key, present}
pub use Rattle.mux_config.specs.Change.{ChangeIsUnique, IsChange, bits_of, change_of, has_same_services, has_same_subs}
pub use Rattle.mux_config.specs.Configuration.{Configuration, IsAddressed, IsAscending, IsConfiguration, IsPlaced}
pub use Rattle.mux_config.specs.Configuration.{IsService, packet_key, service_key, size_of_sub, sub_key}
pub use Rattle.mux_config.specs.Sound.{IsSound}
pub use Rattle.mux_config.specs.Tables.{entry_at, has_entry, with_entry, with_entry_changed}
pub use Rattle.mux_types.proofs.Elements.{contains_cases, contains_first, contains_later, contains_none, each_contains}
pub use Rattle.mux_types.proofs.Members.{mapped_from, mapped_to}
pub use Rattle.mux_types.proofs.Tables.{ascends_changed, ascends_with, each_pushed}
pub use Rattle.mux_types.specs.Entries.{EnsembleInformation}
pub use Rattle.mux_types.specs.Facts.{HaveSameMembers, Marked, facts_of, marked, option_of, packet_entry}
pub use Rattle.mux_types.specs.Facts.{service_entries, service_entry, sub_entries, sub_entry}
pub use Rattle.mux_types.specs.declared.entry.Entry.{Entry}
pub use Rattle.mux_types.specs.declared.parts.Sub.{Sub}
pub use Rattle.plan_code.specs.Machine.{State, effect, effect_of, settle, step}
pub use Rattle.plan_code.specs.Program.{Program, instr_at}
pub use Rattle.plan_code.specs.declared.plan.Plan.{Plan}
pub use Rattle.plan_runs.proofs.Announcing.{IsDue, heard_contacts, noticed_information, swaps_run}
pub use Rattle.plan_runs.proofs.Announcing.{page_up, notice_hears, due_left}
pub use Rattle.plan_runs.proofs.Carries.{IsNewly, LeftBy}
pub use Rattle.plan_runs.proofs.Clock.{shown_count}
pub use Rattle.plan_runs.proofs.Contents.{Laws}
pub use Rattle.plan_runs.proofs.Counted.{swap_not_now}
pub use Rattle.plan_runs.proofs.CurrentKnown.{SomeSaid, none_said}
pub use Rattle.plan_runs.proofs.Facts.{Holds, IsCode, airs, code_of, frame_holds, happens_holds, played_holds}
pub use Rattle.plan_runs.proofs.Facts.{run_holds}
pub use Rattle.plan_runs.proofs.HeardFrame.{RowSaid, current_shown, due_current, enters, enters_swap, enters_untuned}
pub use Rattle.plan_runs.proofs.HeardFrame.{frame_heard, zero_or_not}
pub use Rattle.plan_runs.proofs.HeardFrames.{KnowsAt, Nothing, current_part, enters_known, knows_weaker}
pub use Rattle.plan_runs.proofs.Hearing.{headed, hear_marked, raw_is, second_next, then_joined}
pub use Rattle.plan_runs.proofs.Knowing.{InFrame, KnowsBy, KnowsPending, Still, Waits, knows_after}
pub use Rattle.plan_runs.proofs.Knowing.{none_awaited, long_notice}
pub use Rattle.plan_runs.proofs.Knowledge.{CommittedBy, IsAhead}
pub use Rattle.plan_runs.proofs.LastSent.{unnoticed_left}
pub use Rattle.plan_runs.proofs.NewKnown.{said_append as said_of_two, said_one, begun_left, none_heard, left_on}
pub use Rattle.plan_runs.proofs.Notice.{Links, base_of, both_rounds, contains_frame, frames_from, heard_frame, links}
pub use Rattle.plan_runs.proofs.Notice.{notice_at, none_some}
pub use Rattle.plan_runs.proofs.Parts.{In, IsPart, each_in, part_takes, partly, each_partly, ascends_partly, in_partly}
pub use Rattle.plan_runs.proofs.Passing.{not_due, some_is}
pub use Rattle.plan_runs.proofs.Periods.{Goes, after_goes, sends, sent_period, current_inside}
pub use Rattle.plan_runs.proofs.Pictures.{HasAll, IsOf, IsPartial, contains_in, each_whole, entries_of, entry_is_of}
pub use Rattle.plan_runs.proofs.Pictures.{fact_in, in_append, in_contains, in_fact, in_first, in_second, said_by}
pub use Rattle.plan_runs.proofs.Pictures.{whole_is_set, whole_of}
pub use Rattle.plan_runs.proofs.Right.{PageLaws, ensemble_right, ensemble_within, page_laws, pageable, sent_within}
pub use Rattle.plan_runs.proofs.Swaps.{zero_or_more}
pub use Rattle.plan_runs.proofs.Tracked.{Airs, SwapsOn, noticed, noticed_from, page_after_below, page_of}
pub use Rattle.plan_runs.proofs.Tracked.{some_rounds, split_le, turn_is_page}
pub use Rattle.plan_runs.proofs.Tuned.{IsSentOf, NextBy, Or, SaidIn, Tuned, hears_entries, tuned_weaker, sent_ext}
pub use Rattle.plan_runs.specs.Announced.{HasHeader, HasThreeHeaders, IsAnnounced, IsHeaded, IsHeardInSome}
pub use Rattle.plan_runs.specs.Announced.{IsHeardWhole, RunsJoin, heard_of}
pub use Rattle.plan_runs.specs.Frames.{after_burst, after_frame, begins_phase, burst, ensemble_of, ensemble_sent}
pub use Rattle.plan_runs.specs.Frames.{frame_bytes, is_due, is_first_noticed, is_here, is_noticed, is_running}
pub use Rattle.plan_runs.specs.Frames.{left_after_frame, low_of_swap, ready, sent_entries, sent_rounds, shown}
pub use Rattle.plan_runs.specs.Frames.{shown_bytes, with_due_swap, with_swap}
pub use Rattle.plan_runs.specs.Headline.{HeadlineHolds}
pub use Rattle.plan_runs.specs.Listening.{HasCount, HearsAll, HearsFib, ListenersAreRight, fibs_from, fibs_of}
pub use Rattle.plan_runs.specs.RightBytes.{FrameIsRight, FramesAreRight, IsHeadedBy, IsNoHeader, IsRight, IsUnheaded}
pub use Rattle.plan_runs.specs.Runs.{happens, run, run_frames}
pub use Rattle.plan_runs.specs.declared.event.Event.{Event}
pub use Rattle.plan_runs.specs.declared.event.Event.TheVariants.{Contact, Frame}
pub use Rattle.plan_verifier.specs.Typing.{Known}
pub use Rattle.std.proofs.Common.{[], ◌%◌, ◌&&◌, ◌*◌, ◌++◌, ◌+◌, ◌-◌, ◌/◌, ◌<◌, ◌==◌, ◌||◌, ◌↔◌, ◌∙◌, ◌∷◌, ◌≡◌, ◌≢◌}
pub use Rattle.std.proofs.Common.{◌≤◌, ◌⊎◌, Bool, Contains, List, None, Option, Some, ap, arith, cond, drop, false}
pub use Rattle.std.proofs.Common.{flat_map, get_or, inl, inr, is_some, le-ltb, length, lt-ltb, map, nat_le, nat_lt, not}
pub use Rattle.std.proofs.Common.{refl, replicate, subst, suc, sym, take, true, zero, ℕ}
pub use Rattle.std.proofs.Math.Seq.{drop-append-add, drop-append_seam, drop-nil, take-append_seam}
pub use Rattle.std.proofs.lemmas.Bool.{and_from, and_right, cases_lt, eq-eqb, eqb-false, eqb-true, false_from_ne_true}
pub use Rattle.std.proofs.lemmas.Bool.{false≢true, le-leb, leb-true, ltb-false, ltb-true, ne_eqb, not-false, not-true}
pub use Rattle.std.proofs.lemmas.Bool.{or_left, or_parts, or_right}
pub use Rattle.std.proofs.lemmas.Bool.Decides.{eqb_tells}
pub use Rattle.std.proofs.lemmas.List.{append-nil, append_assoc, append_cancel_left, append_cancel_right}
pub use Rattle.std.proofs.lemmas.List.{drop-append-le, drop-drop, drop-map, drop_all, length-append, length-drop}
pub use Rattle.std.proofs.lemmas.List.{length-map, length-take-le, map-append, take-append-drop, take-map}
pub use Rattle.std.proofs.lemmas.List.Elements.{Contains-append_cases, Contains-append_left, Contains-append_right}
pub use Rattle.std.proofs.lemmas.List.Folds.{concat-append, list_any-append}
pub use Rattle.std.specs.List.{AllByRecursion, concat, filter, list_any}
pub use Rattle.std.specs.Prelude.{IfSome, IsTrue, slice_get, unwrap_or}
pub use Rattle.stream_check.proofs.Agreeing.{agree_same, agree_self}
pub use Rattle.stream_check.proofs.Ensembles.{heard_as, heard_is}
pub use Rattle.stream_check.proofs.Framing.{all_append}
pub use Rattle.stream_check.proofs.Fronts.{front_framing, no_flat, none_more, room_before, same_skipped}
pub use Rattle.stream_check.proofs.Greedily.{three_or_more}
pub use Rattle.stream_check.proofs.Members.{after_is, and_false, ensemble_heard, ensemble_no_member, member_began_early}
pub use Rattle.stream_check.proofs.Members.{member_cut_off, member_eid, member_entry, member_flags, member_has_begun}
pub use Rattle.stream_check.proofs.Members.{member_heard, member_last, member_row, member_rows, member_settles}
pub use Rattle.stream_check.proofs.Members.{member_times, no_swap, or_false, or_true}
pub use Rattle.stream_check.proofs.Saying.{said_append}
pub use Rattle.stream_check.proofs.Sending.{frame_has_items}
pub use Rattle.stream_check.specs.Contradictions.{contradicts, new_among, new_findings, noted_with}
pub use Rattle.stream_check.specs.Cutting.{IsCutInThree}
pub use Rattle.stream_check.specs.Frames.{AreFrames, Fib, HoldsFirst, IsFramed, IsOneFrame, Reading, Reads}
pub use Rattle.stream_check.specs.Frames.{begins_with_ensemble, damaged_in, first_in, first_in_figs, first_of_frame}
pub use Rattle.stream_check.specs.Frames.{first_opening, first_or, first_raw, holds_ensemble, is_damaged, is_there}
pub use Rattle.stream_check.specs.Frames.{lacks_opening, opening, opening_in_figs}
pub use Rattle.stream_check.specs.History.{Ended, Item, Moment, Said, began_early, begins_notice, due, eid_of}
pub use Rattle.stream_check.specs.History.{ensemble_of_item, fib_items, fibs_items, fig_items, figs_items}
pub use Rattle.stream_check.specs.History.{frame_items, frames_ended, has_begun, has_ensemble, is_cut_off, is_ensemble}
pub use Rattle.stream_check.specs.History.{is_flagged, is_in_place, is_member, is_swap, items_of, last_eid, last_flags}
pub use Rattle.stream_check.specs.History.{last_heard, listener_after, listening, row_at_hand, rows, said}
pub use Rattle.stream_check.specs.History.{settles_at, times_announced}
pub use Rattle.stream_check.specs.Lookup.{agree, list_for, lookup, lookup_among, lookup_in}
pub use Rattle.stream_check.specs.Parts.{IsTheMost}
pub use Rattle.stream_check.specs.Pictures.{key_of}
pub use Rattle.stream_check.specs.Reported.{All}
pub use Rattle.stream_check.specs.Reporting.{as_list, in_frame, when}
pub use Rattle.stream_check.specs.Rules.{KnownBefore, announcement, announces_another, announces_first, are_same}
pub use Rattle.stream_check.specs.Rules.{at_most, awaited_low, can_fall_at, change_between, changes, current_findings}
pub use Rattle.stream_check.specs.Rules.{end_unit, ends_past, ensemble_findings, findings_at, finds_no_room, first_unit}
pub use Rattle.stream_check.specs.Rules.{has_flags, has_low, has_no_room, has_other_count, is_absent, is_long_form}
pub use Rattle.stream_check.specs.Rules.{is_of_other_ensemble, is_other, is_other_one, is_placed, is_settled, is_silent}
pub use Rattle.stream_check.specs.Rules.{known_of, makes_swap, member_findings, name_of, next_findings, notice_faults}
pub use Rattle.stream_check.specs.Rules.{occurrence_of, overlap, overlap_or, partner, past_end, place_faults}
pub use Rattle.stream_check.specs.Rules.{share_unit, silence, silent_findings, swap_findings, swap_or_another}
pub use Rattle.stream_check.specs.Rules.{times_heard, unit_faults, wanted}
pub use Rattle.stream_check.specs.Sent.{EntrySent, FigSent, Sent, contradictions_at, entries_sent, fib_sent, fibs_sent}
pub use Rattle.stream_check.specs.Sent.{fig_sent, figs_sent, frame_sent, items_in, noted_at}
pub use Rattle.stream_check.specs.Stream.{after_frames, count_due, count_in, count_of_frame, damaged_findings}
pub use Rattle.stream_check.specs.Stream.{findings_at_items, findings_at_sent, findings_from, findings_in, findings_of}
pub use Rattle.stream_check.specs.Stream.{first_line, frame_at, frame_findings, frames_full, last_findings, noted_in}
pub use Rattle.stream_check.specs.Stream.{past_after_frame, placed_count, runs_full, size_findings}
pub use Rattle.stream_check.specs.declared.contradiction.Contradiction.{Contradiction}
pub use Rattle.stream_check.specs.declared.finding.Fault.{Fault}
pub use Rattle.stream_check.specs.declared.finding.Finding.{Finding}
pub use Rattle.stream_check.specs.declared.finding.What.{What}
pub use Rattle.stream_check.specs.declared.reporting.FrameAt.{FrameAt}
pub use Rattle.stream_laws.specs.Announcing.{SwapsAreAnnounced}
pub use Rattle.stream_laws.specs.Counting.{AreCounted, IsFrameOfCount, RunsAreCounted}
pub use Rattle.stream_laws.specs.Delivered.{IsCleared, IsHeardOut, IsPieceOf, RunsAreCleared, RunsAreHeardOut}
pub use Rattle.stream_laws.specs.Entries.{AnnouncesChange, ChangesAreAnnounced, IsSent, IsSentWhole}
pub use Rattle.stream_laws.specs.Faultless.{IsFaultless, IsNoFault, IsSaidIn}
pub use Rattle.stream_laws.specs.Faults.{RunsAreFaultless}
pub use Rattle.stream_laws.specs.Framing.{RunsAreFramed, frames_of}
pub use Rattle.stream_laws.specs.Held.{BeginsUnflagged, CountsAreHeld, WholeNoticesAreHeld}
pub use Rattle.stream_laws.specs.Keeping.{CurrentIsKept, IsKept, entry_like}
pub use Rattle.stream_laws.specs.Naming.{SwapsAreNamed, due_after_first, due_frames, names_swap, swap_frames}
pub use Rattle.stream_laws.specs.Notices.{AreFibBytes, FramesAreOfBytes, IsCutOf, IsFibBytes, last_of, read_frames}
pub use Rattle.stream_laws.specs.Notices.{row_of}
pub use Rattle.stream_laws.specs.RunningOn.{CountsRunOn, IsAtCount, RunOn}
pub use Rattle.stream_laws.specs.Sorts.{HoldsOfRuns, IsFreeOf, IsFreeUnlessShort, IsLongFor, RunIsFree, RunIsFreeOf}
pub use Rattle.stream_laws.specs.Sorts.{RunsAgree, RunsAreFree, is_of_appearance, is_of_flags, is_of_frame}
pub use Rattle.stream_laws.specs.Sorts.{is_of_mention, is_of_period, is_of_repetition, is_of_silence, is_of_times}
pub use Rattle.stream_laws.specs.Sorts.{is_of_word, run_read, step_of}
pub use Rattle.stream_laws.specs.Staying.{CurrentIsSent, CurrentStays, IsCurrentAfter, MakeNoSwap, last_swap}
pub use Rattle.stream_laws.specs.Units.{HaveOwnUnits, IsUnitOf, SwapsKeepUnits, UnitsStayOwn}
