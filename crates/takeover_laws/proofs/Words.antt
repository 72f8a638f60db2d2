-- The words of the proofs, passed on from the modules that define them.
pub use Rattle.std.proofs.Common.{[], ◌%◌, ◌*◌, ◌++◌, ◌+◌, ◌-◌, ◌/◌, ◌<◌, ◌==◌, ◌∙◌, ◌∷◌, ◌≡◌, ◌≤◌, ◌⊎◌, Bool, List}
pub use Rattle.std.proofs.Common.{None, Option, Some, ap, append_assoc, arith, cond, false, inl, inr, length, map}
pub use Rattle.std.proofs.Common.{refl, rules, subst, suc, sym, true, zero, ℕ}
pub use Rattle.std.proofs.Math.Nat.{le-div_iff_mul-le, mod-eq_of_lt, mod-le, suc-mod, suc-mul}
pub use Rattle.std.proofs.lemmas.Bool.{cases_lt, eqb-true, false≢true}
pub use Rattle.std.proofs.lemmas.List.{length-map, length_push}
pub use Rattle.std.proofs.lemmas.Nat.{and_le_l, or_lt, pow_below}
pub use Rattle.std.proofs.lemmas.Option.{slice_get-map}
pub use Rattle.std.specs.List.{AllByRecursion}
pub use Rattle.std.specs.Prelude.{◌^◌, find, if◌then◌else◌, nat_lt, option_map, replicate, slice_get, slice_set}
pub use Rattle.fib_codec.specs.Layouts.{layout_mode}
pub use Rattle.fib_codec.specs.Modes.{count_step}
pub use Rattle.mux_config.specs.Edits.{changed}
pub use Rattle.mux_config.specs.declared.edit.Edit.{Edit}
pub use Rattle.mux_types.specs.Configuration.{Configuration, IsConfiguration}
pub use Rattle.plan_code.specs.Flags.{is_closed, with_contact}
pub use Rattle.plan_code.specs.Machine.{State, commit, counter_of, effect, effect_of, is_in_window, left_in, settle}
pub use Rattle.plan_code.specs.Machine.{step, suspend}
pub use Rattle.plan_code.specs.Program.{IsProgram, Program, instr_at, label_at}
pub use Rattle.plan_code.specs.declared.flags.Contacts.{Contacts}
pub use Rattle.plan_code.specs.declared.hold.Hold.{Hold}
pub use Rattle.plan_code.specs.declared.hold.Hold.TheVariants.{Running, Waits, WaitsSwap}
pub use Rattle.plan_code.specs.declared.instr.Instr.{Instr}
pub use Rattle.plan_code.specs.declared.instr.Instr.TheVariants.{End, Join as Joins, Jump, Loop, Settle, Test}
pub use Rattle.plan_code.specs.declared.instr.Instr.TheVariants.{TestTime}
pub use Rattle.plan_code.specs.declared.instr.Line.{Line}
pub use Rattle.plan_code.specs.declared.label.Label.{Label}
pub use Rattle.plan_code.specs.declared.plan.Plan.{Plan}
pub use Rattle.plan_runs.specs.Frames.{after_burst, after_frame, burst, frame_bytes, hold_after_frame}
pub use Rattle.plan_runs.specs.Frames.{hold_after_swap, is_due, is_first_noticed, is_here, is_running}
pub use Rattle.plan_runs.specs.Frames.{left_after_frame, ready, shown, shown_bytes, with_due_swap, with_hold_ended}
pub use Rattle.plan_runs.specs.Frames.{with_next_counts, with_swap}
pub use Rattle.plan_runs.specs.Runs.{IsEvent, IsStart, StartIsInRange, happens, run, run_frames}
pub use Rattle.plan_runs.specs.declared.event.Event.{Event}
pub use Rattle.plan_runs.specs.declared.event.Event.TheVariants.{Contact, Frame}
pub use Rattle.plan_runs.specs.declared.event.Start.{Start}
pub use Rattle.plan_takeover.specs.Takeover.{IsTakeover, beginning, leading, moved, moved_line}
pub use Rattle.script_compiler.specs.Alternatives.{instr_of_act}
pub use Rattle.script_config.specs.Differences.{edits_between}
pub use Rattle.script_config.specs.Frames.{FitFrames}
pub use Rattle.script_config.specs.Plan.{committed, paced, pause_after, plan_acts}
pub use Rattle.script_config.specs.Sequences.{Transform, after}
pub use Rattle.script_front.specs.declared.tree.Act.{Act}
pub use Rattle.script_front.specs.declared.tree.Act.TheVariants.{CommitIn, Edit as Edits, Join, Wait}
pub use Rattle.takeover_laws.specs.Moved.{IsMovedBy, PlansPlayOn, PlayAlike, lead}
pub use Rattle.takeover_laws.specs.TakingOver.{BeginsWith, HandsOver, MakesNoSwap, PlansTakeOver, PlansTakeOverInTime}
pub use Rattle.takeover_laws.specs.TakingOver.{TakesOver, frame_count, most_before, start_in}
