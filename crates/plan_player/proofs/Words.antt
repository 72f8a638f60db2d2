-- The words of the proofs, passed on from the modules that define them.
pub use Rattle.mux_types.specs.declared.entry.Entry.TheVariants.{Ensemble as EnsembleOf}
pub use Rattle.fib_carousel.proofs.Hearing.{page_fits, pages_are_valid}
pub use Rattle.fib_carousel.specs.Bytes.{ensemble_figs, figs_of, page_bytes, reserved_figs}
pub use Rattle.fib_carousel.specs.Carried.{IsPageable}
pub use Rattle.fib_carousel.specs.Kept.{IsKept}
pub use Rattle.fib_carousel.specs.Pages.{fib_entries, first_fib, later_fibs, page_after, page_set, page_set_of, rounds}
pub use Rattle.fib_carousel.specs.Walk.{IsAtPage, cursor_page}
pub use Rattle.fib_carousel.specs.declared.kept_page.KeptPage.{KeptPage}
pub use Rattle.fib_carousel.specs.declared.page_cursor.Cursor.{Cursor}
pub use Rattle.fib_codec.proofs.U16.{check_word_below, checked_len, word_checked}
pub use Rattle.fib_codec.specs.Layouts.{frame_fibs, layout_mode}
pub use Rattle.fib_codec.specs.Modes.{count_step, fib_count}
pub use Rattle.fib_codec.specs.Register.{after, after_all, later}
pub use Rattle.fib_codec.specs.Spelling.{Written, checked, entries_bytes, fib_bytes, figs_bytes, filled, head_byte}
pub use Rattle.fib_codec.specs.Spelling.{head_of, occurrence_bytes}
pub use Rattle.fib_codec.specs.declared.frame_layout.FrameLayout.{FrameLayout}
pub use Rattle.fib_codec.specs.declared.frame_layout.FrameLayout.TheVariants.{Whole}
pub use Rattle.fib_codec.specs.declared.modes.Mode.{Mode}
pub use Rattle.fib_codec.specs.declared.modes.Mode.TheVariants.{I}
pub use Rattle.mux_config.specs.Change.{bits_of, change_of}
pub use Rattle.mux_config.specs.Configuration.{Configuration, nothing}
pub use Rattle.mux_types.specs.Entries.{EnsembleInformation}
pub use Rattle.mux_types.specs.Facts.{Marked, marked}
pub use Rattle.mux_types.specs.declared.limits.TheConstants.{COUNTS}
pub use Rattle.plan_code.specs.Machine.{State, StepIsAllowed, effect, settle, step}
pub use Rattle.plan_code.specs.Program.{IsPlan, IsProgram, Program, label_at, line_at}
pub use Rattle.plan_code.specs.declared.hold.Hold.{Hold}
pub use Rattle.plan_code.specs.declared.hold.Hold.TheVariants.{Ended, Running, Waits, WaitsAny, WaitsContact, WaitsDay}
pub use Rattle.plan_code.specs.declared.hold.Hold.TheVariants.{WaitsSwap}
pub use Rattle.plan_code.specs.declared.instr.Instr.TheVariants.{End, Join, Settle, Until, Wait, WaitAny, WaitContact}
pub use Rattle.plan_code.specs.declared.instr.Line.{Line}
pub use Rattle.plan_code.specs.declared.limits.TheConstants.{FRAMES_A_DAY}
pub use Rattle.plan_code.specs.declared.plan.Plan.{Plan}
pub use Rattle.plan_player.specs.Delivery.{Delivered, Stopped, StoppedBy, frames_of, next_frame, played_bytes}
pub use Rattle.plan_player.specs.Phase.{HasChange, HasPage, IsFrameReady, IsGoing, IsInPhase, Keeps, KeepsChange}
pub use Rattle.plan_player.specs.Phase.{ShowsAs, ShowsBytes}
pub use Rattle.plan_player.specs.Playing.{IsAtStart, Playing, last_steps, played, start_fault}
pub use Rattle.plan_player.specs.Positions.{CanContinue, CanRun, Progress, state_of}
pub use Rattle.plan_player.specs.Quiet.{AreAway, AreCopied, AreQuiet, DayIsAway, HoldIsAway, IsQuiet}
pub use Rattle.plan_player.specs.Quiet.{QuietFramesAreCopied, SwapIsAway, counted_on}
pub use Rattle.plan_player.specs.Stretch.{AreAlike, AreRecounted, HasRounds, IsAlike, IsCut, IsPageReady, IsStretch}
pub use Rattle.plan_player.specs.Stretch.{ensemble_at, headed_at, header_of, hold_later, left_later}
pub use Rattle.plan_player.specs.declared.machine.sending.Header.{Header}
pub use Rattle.plan_player.specs.declared.phase_pages.PhasePages.{PhasePages}
pub use Rattle.plan_player.specs.declared.phase_pages.Sent.TheVariants.{Headed, Kept}
pub use Rattle.plan_runs.proofs.Between.{frame_goes, step_is, still_stops}
pub use Rattle.plan_runs.proofs.Facts.{Holds, IsCode, airs, code_of, happens_holds, played_holds}
pub use Rattle.plan_runs.proofs.Periods.{after_goes, after_up, sends}
pub use Rattle.plan_runs.proofs.Reached.{reached_is_kept, starts_are_reached}
pub use Rattle.plan_runs.proofs.Samples.{all_open, code, first_state, it_starts, label, line, one_sub_is, plan}
pub use Rattle.plan_runs.proofs.Samples.{start_at, unflagged_is, with_sub}
pub use Rattle.plan_runs.proofs.Tracked.{not_noticed, noticed, noticed_from, split_le}
pub use Rattle.plan_runs.proofs.TypedRuns.{typed_code_runs}
pub use Rattle.plan_runs.proofs.VectorsOfRuns.{first, join_traps, joins, one_instruction, second, waits}
pub use Rattle.plan_runs.specs.Announced.{notice_frames}
pub use Rattle.plan_runs.specs.Frames.{Executes, after_burst, after_frame, begins_phase, burst, burst_steps}
pub use Rattle.plan_runs.specs.Frames.{ensemble_of, ensemble_sent, frame_bytes, frame_steps, hold_after_frame, is_day}
pub use Rattle.plan_runs.specs.Frames.{is_due, is_first_noticed, is_here, is_noticed, is_running, left_after_frame}
pub use Rattle.plan_runs.specs.Frames.{low_of_swap, ready, sent_entries, sent_rounds, shown, shown_bytes, with_due_swap}
pub use Rattle.plan_runs.specs.Frames.{with_next_counts, with_swap}
pub use Rattle.plan_runs.specs.Runs.{IsStart, StartIsInRange, happens, run, run_frames}
pub use Rattle.plan_runs.specs.TypedRuns.{IsPlayed}
pub use Rattle.plan_runs.specs.declared.event.Event.{Event}
pub use Rattle.plan_runs.specs.declared.event.Event.TheVariants.{Contact, Frame}
pub use Rattle.plan_runs.specs.declared.event.Start.{Start}
pub use Rattle.plan_verifier.specs.Typing.{Arrives, IsTyped, IsTyping, Known}
pub use Rattle.std.proofs.Common.{[], ◌%◌, ◌&&◌, ◌*◌, ◌++◌, ◌+◌, ◌-◌, ◌/◌, ◌<◌, ◌==◌, ◌∙◌, ◌∷◌, ◌≡◌, ◌≤◌, Bool, IfErr}
pub use Rattle.std.proofs.Common.{IfOk, IfSome, List, None, OnOk, Option, Some, ap, append_assoc, ap₂, arith, cond}
pub use Rattle.std.proofs.Common.{drop, eqb, false, flat_map, get_or, inl, inr, length, length-append, length-drop}
pub use Rattle.std.proofs.Common.{length-set, length-take-le, ltb, map, refl, replicate, subst, suc, sym}
pub use Rattle.std.proofs.Common.{take, take-append-drop, true, zero, ℕ}
pub use Rattle.std.proofs.KnownBytes.{Appends-trans}
pub use Rattle.std.proofs.Math.Nat.{mod-add-mod, mod-eq_of_lt, mod-lt, mod_self, mul-le-mul_right}
pub use Rattle.std.proofs.Math.Nat.{mul-mod_left, mul_comm, suc-mul}
pub use Rattle.std.proofs.Math.Seq.{paste, take-add, take-append-add, take-take}
pub use Rattle.std.proofs.lemmas.Bool.{and_parts, eqb-false, eqb-true, ltb-false, ltb-true, ne_eqb, or_from}
pub use Rattle.std.proofs.lemmas.List.{append-nil, drop-take, drop_at, get_or-append_right, set-append_right}
pub use Rattle.std.proofs.lemmas.List.{take-append-le, take_at, take_more}
pub use Rattle.std.proofs.lemmas.List.Folds.{concat-append}
pub use Rattle.std.specs.Io.KnownBytes.{Appends}
pub use Rattle.std.specs.List.{concat, copy_within}
pub use Rattle.std.specs.Prelude.{◌||◌, Err, IsSome, Ok, Result, bit_xor, option_map, slice_get, slice_index_or}
pub use Rattle.std.specs.Prelude.{slice_set}
