-- The words of the proofs, passed on from the modules that define them.
pub use Rattle.std.proofs.Common.{[], ◌%◌, ◌++◌, ◌+◌, ◌-◌, ◌<◌, ◌==◌, ◌∙◌, ◌∷◌, ◌≡◌, ◌≢◌, ◌≤◌, ◌⊎◌}
pub use Rattle.std.proofs.Common.{Bool, List, None, Option, Some, ap, arith, cond, false, inl, inr, length, refl}
pub use Rattle.std.proofs.Common.{subst, suc, sym, true, zero, ℕ}
pub use Rattle.std.proofs.lemmas.Bool.{and_from, and_parts, cases_lt, eqb-true, false≢true, ne_eqb}
pub use Rattle.std.proofs.lemmas.List.{same_lists}
pub use Rattle.std.proofs.lemmas.Option.{get_or_from_slice_get, slice_get-get_or, slice_get_within}
pub use Rattle.std.specs.Prelude.{◌&&◌, ◌||◌, drop, get_or, is_some, map, option_map, replicate, slice_get, take}
pub use Rattle.fib_codec.specs.Layouts.{layout_mode}
pub use Rattle.fib_codec.specs.Modes.{count_step}
pub use Rattle.fib_codec.specs.declared.frame_layout.FrameLayout.TheVariants.{Whole}
pub use Rattle.fib_codec.specs.declared.modes.Mode.{Mode}
pub use Rattle.fib_codec.specs.declared.modes.Mode.TheVariants.{I, II, III, IV}
pub use Rattle.mux_config.proofs.Same.{list_itself, list_same, packet_itself, packet_same, service_itself, service_same}
pub use Rattle.mux_config.proofs.Same.{sub_itself, sub_same}
pub use Rattle.mux_types.specs.Configuration.{Configuration}
pub use Rattle.mux_types.specs.declared.numbers.Sid.TheVariants.{Short}
pub use Rattle.mux_types.specs.declared.parts.Sub.{Sub}
pub use Rattle.mux_types.specs.Sameness.{is_same_list, is_same_packet, is_same_service, is_same_sub}
pub use Rattle.plan_code.specs.Machine.{IsLeastFrom, SwapsInTime, left_in}
pub use Rattle.plan_code.specs.declared.flags.Contacts.{Contacts}
pub use Rattle.plan_code.specs.declared.plan.Plan.{Plan}
pub use Rattle.plan_runs.specs.declared.event.Event.{Event}
pub use Rattle.plan_runs.specs.declared.event.Event.TheVariants.{Contact, Frame}
pub use Rattle.plan_runs.specs.declared.event.Start.{Start}
pub use Rattle.plan_runs.specs.Frames.{is_due, left_after_frame}
pub use Rattle.schedule_front.specs.Tree.{Overlay, Tree}
pub use Rattle.schedule_front.specs.declared.tree.Test.{Test}
pub use Rattle.schedule_front.specs.declared.tree.Test.TheVariants.{Contact as OnContact, Time as OnTime}
pub use Rattle.script_front.specs.declared.tree.Item.{Item}
pub use Rattle.schedule_runs.specs.Due.{condition_holds, due, test_holds, wanted}
pub use Rattle.schedule_runs.specs.Machine.{Airing, ComesToOne, PerformsAll, PerformsFrame, SchedulesComeToOne, TakesUp}
pub use Rattle.schedule_runs.specs.Machine.{after_counts, after_swap, announced, begins, due_in, step_of, with_level}
pub use Rattle.schedule_runs.specs.Kept.{AreFrames, ChangesAt, Commits, HasNextOnStep, IsDueThroughout, IsFrame, IsFree}
pub use Rattle.schedule_runs.specs.Kept.{IsKept, IsNextOnStep, IsNoticeOnStep, IsOnStep}
pub use Rattle.schedule_runs.specs.Kept.{IsOnTime, IsPunctual, SchedulesAreKept, Swaps, WasCommitted, WhatComesWasDue}
pub use Rattle.schedule_runs.specs.Kept.{WhatStaysDueComes, WhatTheClockChangesIsPunctual, frame_count, on_air}
pub use Rattle.schedule_runs.proofs.Small.{absurd_none, some_is}
