-- The words of the proofs, passed on from the modules that define them.
pub use Rattle.fib_carousel.proofs.Hearing.{ensemble_is_heard, page_sets_are_pageable, pages_are_heard, pages_are_valid}
pub use Rattle.fib_carousel.proofs.Hearing.{pages_keep_reserve, sendable_where}
pub use Rattle.fib_carousel.proofs.Pieces.{each_in_a_page, page_is_fibs}
pub use Rattle.fib_carousel.specs.Bytes.{AreFibs, ensemble_figs, figs_of, page_figs, reserved_figs, with_entry_first}
pub use Rattle.fib_carousel.specs.Carried.{AreSendable, EnsembleIsCarried, IsPageable, IsSendable, PageSetsArePageable}
pub use Rattle.fib_carousel.specs.Carried.{PagesAreHeard, PagesAreValid, PagesKeepReserve}
pub use Rattle.fib_carousel.specs.Greedy.{packing}
pub use Rattle.fib_carousel.specs.Packing.{entries_in_fib, entries_where, same_head}
pub use Rattle.fib_carousel.specs.Pages.{EachInAPage, PageIsFibs, fib_entries, first_fib, later_fibs, page_after}
pub use Rattle.fib_carousel.specs.Pages.{page_entries, page_set, rounds}
pub use Rattle.fib_codec.proofs.Uniqueness.{one_fib}
pub use Rattle.fib_codec.specs.Grammar.{Fig, IsFib, IsValid, OneList, Open, Other, fig_of, is_long, is_next}
pub use Rattle.fib_codec.specs.Heard.{IsEnsembleHeardInRow, IsHeardInRow, IsInFig, fib_at}
pub use Rattle.fib_codec.specs.Layouts.{KeepsReserve, frame_fibs, layout_mode, reserved_fibs, used_fibs}
pub use Rattle.fib_codec.specs.Modes.{count_step, fib_count}
pub use Rattle.fib_codec.specs.Ranges.{IsEnsembleInformation}
pub use Rattle.fib_codec.specs.Spelling.{Written, bit_of, entry_bytes, ext_of, fig_bytes, head_byte, head_of}
pub use Rattle.fib_codec.specs.Spelling.{is_long_entry}
pub use Rattle.fib_codec.specs.declared.frame_layout.FrameLayout.{FrameLayout}
pub use Rattle.fib_codec.specs.declared.frame_layout.FrameLayout.TheVariants.{ReserveOne, ReserveTwo, Whole}
pub use Rattle.fib_codec.specs.declared.modes.Mode.{Mode}
pub use Rattle.fib_codec.specs.declared.modes.Mode.TheVariants.{I, II}
pub use Rattle.fib_reader.specs.Laws.{EnsembleIsHeard}
pub use Rattle.fib_reader.specs.Listening.{Listening, Pictured, at_ensemble, awaiting, blank, has_room, hear_entries}
pub use Rattle.fib_reader.specs.Listening.{hear_entry, hear_fig, hear_figs, identifier_of, into, is_known, is_made}
pub use Rattle.fib_reader.specs.Listening.{kept, picture_of, pictured, swapped, untuned, where_heard}
pub use Rattle.fib_reader.specs.Picture.{Shows}
pub use Rattle.fib_reader.specs.Raw.{Raw, ensemble_in, raw_entry, raw_of}
pub use Rattle.mux_config.specs.Change.{bits_of, change_of, has_same_services, has_same_subs}
pub use Rattle.mux_config.specs.Configuration.{Configuration, IsAddressed, IsAscending, IsConfiguration, IsPlaced}
pub use Rattle.mux_config.specs.Configuration.{IsService, nothing, packet_key, service_key, sub_key}
pub use Rattle.mux_config.specs.Edits.{changed, edit_fault}
pub use Rattle.mux_config.specs.Sameness.{is_same_flag, is_same_list, is_same_packet, is_same_service, is_same_sub}
pub use Rattle.mux_config.specs.Sound.{IsSound}
pub use Rattle.mux_config.specs.declared.edit.Edit.TheVariants.{AddComponent, AddService, AddSub, RateSub}
pub use Rattle.mux_types.proofs.Walking.{each_at}
pub use Rattle.mux_types.specs.Entries.{EnsembleInformation}
pub use Rattle.mux_types.specs.Facts.{Marked, facts_of, marked, packet_entry, service_entries, service_entry}
pub use Rattle.mux_types.specs.Facts.{sub_entries, sub_entry}
pub use Rattle.mux_types.specs.declared.entry.Entry.{Entry}
pub use Rattle.plan_code.proofs.Bits.{contacts_change_alone, counters_change_alone}
pub use Rattle.plan_code.specs.Flags.{any_closed, any_open, is_closed, is_set, with_contact, with_counter}
pub use Rattle.plan_code.specs.Flags.{without_counter}
pub use Rattle.plan_code.specs.Machine.{IsAllowed, IsReady, State, StepIsAllowed, SwapsAtCount, SwapsInTime, advance}
pub use Rattle.plan_code.specs.Machine.{commit, counter_of, effect, effect_of, is_in_window, left_at, left_in, settle}
pub use Rattle.plan_code.specs.Machine.{step, suspend}
pub use Rattle.plan_code.specs.Program.{IsFrames, IsInstr, IsLine, IsProgram, Program, instr_at, label_at}
pub use Rattle.plan_code.specs.declared.flags.Contacts.{Contacts}
pub use Rattle.plan_code.specs.declared.flags.Counters.{Counters}
pub use Rattle.plan_code.specs.declared.hold.Hold.{Hold}
pub use Rattle.plan_code.specs.declared.hold.Hold.TheVariants.{Ended, Running, Waits, WaitsAny, WaitsContact, WaitsDay}
pub use Rattle.plan_code.specs.declared.hold.Hold.TheVariants.{WaitsSwap}
pub use Rattle.plan_code.specs.declared.instr.Instr.{Instr}
pub use Rattle.plan_code.specs.declared.instr.Instr.TheVariants.{CommitAt, CommitIn, End, Join, Jump, Loop, Set, Settle}
pub use Rattle.plan_code.specs.declared.instr.Instr.TheVariants.{Test, TestTime, Until, Wait, WaitAny, WaitContact}
pub use Rattle.plan_code.specs.declared.instr.Line.{Line}
pub use Rattle.plan_code.specs.declared.label.Label.{Label}
pub use Rattle.plan_code.specs.declared.label.Swap.{Swap}
pub use Rattle.plan_code.specs.declared.label.Swap.TheVariants.{Idle, Perhaps, Within}
pub use Rattle.plan_code.specs.declared.plan.Plan.{Plan}
pub use Rattle.mux_types.specs.declared.entry.Entry.TheVariants.{Ensemble as EnsembleOf}
pub use Rattle.plan_code.specs.declared.instr.Instr.TheVariants.{Edit as Edits}
pub use Rattle.plan_runs.specs.Announced.{AlwaysRuns, FrameRuns, HasHeader, HasThreeHeaders, IsAnnounced, IsFlagged}
pub use Rattle.plan_runs.specs.Announced.{IsHeaded, IsHeardInSome, IsHeardWhole, IsJoined, Runs, RunsJoin, heard_after}
pub use Rattle.plan_runs.specs.Announced.{heard_along, heard_before, heard_by, heard_left, heard_of, notice_begin}
pub use Rattle.plan_runs.specs.Announced.{notice_frames}
pub use Rattle.plan_runs.specs.Clock.{ContactsAreAsSet, FramesAreCounted, IsCounted, level_after}
pub use Rattle.plan_runs.specs.Firsts.{CarriesOut, IsFirstWhere, is_active}
pub use Rattle.plan_runs.specs.Frames.{BurstsAreOne, Executes, FrameIsAllowed, IsOneBurst, after_burst, after_frame}
pub use Rattle.plan_runs.specs.Frames.{announced_next, begins_phase, burst, burst_steps, ensemble_of, ensemble_sent}
pub use Rattle.plan_runs.specs.Frames.{frame_bytes, frame_steps, hold_after_frame, hold_after_swap, is_any_here, is_day}
pub use Rattle.plan_runs.specs.Frames.{is_due, is_first_noticed, is_here, is_noticed, is_running, left_after_frame}
pub use Rattle.plan_runs.specs.Frames.{low_of_swap, ready, sent_entries, sent_rounds, shown, shown_bytes, with_due_swap}
pub use Rattle.plan_runs.specs.Frames.{with_hold_ended, with_next_counts, with_swap}
pub use Rattle.plan_runs.specs.Headline.{AnnouncesOnly, FramesOfTypedCodeAreRight, HeadlineHolds, HeardIsKnown}
pub use Rattle.plan_runs.specs.Headline.{IsAnnouncedIn, KeepsCount, MeetsGuarantees, PeriodsAreWhole, SwapsAreAnnounced}
pub use Rattle.plan_runs.specs.Headline.{SwapsAt, SwapsComeAsAnnounced}
pub use Rattle.plan_runs.specs.LastSent.{AreLastSent, HeardWasSent}
pub use Rattle.plan_runs.specs.Listening.{HasCount, HearsAll, HearsFib, IsNeverFull, IsNotice, IsTunedBy}
pub use Rattle.plan_runs.specs.Listening.{IsUntilNextSwap, KnowsTheCurrent, KnowsTheNew, ListenersKnow, MakesNoSwap}
pub use Rattle.plan_runs.specs.Listening.{fibs_from, fibs_of}
pub use Rattle.plan_runs.specs.Phases.{SentBy}
pub use Rattle.plan_runs.specs.RightBytes.{BeginsNoPhase, FrameIsRight, FramesAreRight, IsEnsembleFig, IsEnsembleOf}
pub use Rattle.plan_runs.specs.RightBytes.{IsFlaggedBy, IsHeadedBy, IsHeardEachPeriod, IsNoHeader, IsOnePhase, IsRight}
pub use Rattle.plan_runs.specs.RightBytes.{IsUnheaded}
pub use Rattle.plan_runs.specs.Runs.{EventIsAllowed, IsEvent, IsReached, IsStart, RunIsAllowed, StartIsInRange, happens}
pub use Rattle.plan_runs.specs.Runs.{run, run_frames, run_states}
pub use Rattle.plan_runs.specs.SentHeaders.{HasHeaderOf, HeadersAreSent}
pub use Rattle.plan_runs.specs.Settings.{AgreeOnContacts, AreAllAlike, IsSetting, LastLevelsCount, Setting, last_level}
pub use Rattle.plan_runs.specs.Settings.{last_of, level_by, schedule, set_events}
pub use Rattle.plan_runs.specs.Swaps.{CommitsAreKept, IsCommit, IsOnStep, IsSwapAfterDelay, IsSwapAtCount}
pub use Rattle.plan_runs.specs.Swaps.{SwapsAreCommitted, SwapsAreOnSteps, SwapsChangeTheCurrent, SwapsWhereDue}
pub use Rattle.plan_runs.specs.TypedRuns.{CanBeSent, FramesCanBeSent, IsPlayed, ReachedIsKept, RunsWell}
pub use Rattle.plan_runs.specs.TypedRuns.{StartsAreReached, TypedCodeRuns}
pub use Rattle.plan_runs.specs.Waits.{HasClosed, HasCome, HasOpen, InstructionsSuspend, IsWaitOf, WaitsAreKept}
pub use Rattle.plan_runs.specs.Waits.{WaitsUntil}
pub use Rattle.plan_runs.specs.declared.event.Event.{Event}
pub use Rattle.plan_runs.specs.declared.event.Event.TheVariants.{Contact, Frame}
pub use Rattle.plan_runs.specs.declared.event.Start.{Start}
pub use Rattle.plan_verifier.proofs.OneVerdict.{codes_have_one_verdict, in_range, refused_if, typed_if}
pub use Rattle.plan_verifier.proofs.Samples.{code_from, code_under, counters, first_from_is, first_under_is, label}
pub use Rattle.plan_verifier.proofs.Samples.{line, line_is, lower_is, one_sub, one_sub_is, plan, sub_at_rate, with_sub}
pub use Rattle.plan_verifier.specs.Typing.{Arrives, CanCommit, CanEnter, FitsSwap, IsCertain, IsSafe, IsSurelyPending}
pub use Rattle.plan_verifier.specs.Typing.{IsTyping, Known, Reaches, after_pause, after_settle, after_wait, continues}
pub use Rattle.plan_verifier.specs.Typing.{known_after_swap, leaves, spent, target_of}
pub use Rattle.std.proofs.Common.{[], ◌%◌, ◌*◌, ◌++◌, ◌+◌, ◌-◌, ◌/◌, ◌<◌, ◌==◌, ◌^◌, ◌↔◌, ◌∙◌, ◌∷◌, ◌≡◌, ◌≢◌, ◌≤◌, ◌⊎◌}
pub use Rattle.std.proofs.Common.{Bool, Contains, List, None, Option, Some, ap, append_assoc, arith, cond, eqb, false}
pub use Rattle.std.proofs.Common.{inl, inr, is_some, le-ltb, leb, length, lt-ltb, ltb, map, refl, replicate, rules, set}
pub use Rattle.std.proofs.Common.{subst, suc, sym, take, true, zero, ℕ}
pub use Rattle.std.proofs.lemmas.Bool.{and_parts, eq-eqb, eqb-false, eqb-true, le-leb, leb-false, leb-true, ltb-false}
pub use Rattle.std.proofs.lemmas.Bool.{ltb-true, ne_eqb, or_cases, or_left, or_parts, or_right}
pub use Rattle.std.proofs.lemmas.List.{append-nil, drop-drop, get_or-set_other, get_or-set_same, length-map, length-set}
pub use Rattle.std.proofs.lemmas.List.{take-append-le}
pub use Rattle.std.proofs.lemmas.List.Elements.{Contains-append_cases, Contains-append_left, Contains-append_right}
pub use Rattle.std.proofs.lemmas.Nat.Bits.{bit_at-lt, bit_at-zero, same_from_bits_below}
pub use Rattle.std.proofs.lemmas.Option.{slice_get_within}
pub use Rattle.std.specs.Int.{bit_at}
pub use Rattle.std.specs.List.{AllByRecursion}
pub use Rattle.std.specs.Prelude.{◌||◌, IfSome, MatchBool, drop, find, flat_map, get_or, nat_le, nat_lt, not}
pub use Rattle.std.specs.Prelude.{option_map, slice_get, slice_index, slice_set}
