-- The words of the proofs, passed on from the modules that define them.
pub use Rattle.mux_config.proofs.Sounding.{sound_found, sound_told}
pub use Rattle.mux_config.specs.Configuration.{Configuration, IsAscending, IsConfiguration, IsPlaced, nothing}
pub use Rattle.mux_config.specs.Sound.{IsSound, first_fault}
pub use Rattle.mux_config.specs.declared.edit.Edit.TheVariants.{AddComponent, AddPacket, AddService, AddSub, DropSub}
pub use Rattle.mux_types.proofs.Elements.{contains_cases, contains_first, contains_later, contains_none, each_contains}
pub use Rattle.plan_code.specs.Program.{IsEdit, IsInstr, IsLabel, IsLine, IsPlan, IsProgram, Program, instr_at}
pub use Rattle.plan_code.specs.Program.{label_at, label_key}
pub use Rattle.plan_code.specs.declared.flags.Counters.{Counters}
pub use Rattle.plan_code.specs.declared.instr.Instr.{Instr}
pub use Rattle.plan_code.specs.declared.instr.Instr.TheVariants.{CommitAt, CommitIn, End, Join, Jump, Loop, Settle}
pub use Rattle.plan_code.specs.declared.instr.Instr.TheVariants.{Test, TestTime, Until, Wait, WaitAny, WaitContact}
pub use Rattle.plan_code.specs.declared.instr.Line.{Line}
pub use Rattle.plan_code.specs.declared.label.Label.{Label}
pub use Rattle.plan_code.specs.declared.label.Swap.{Swap}
pub use Rattle.plan_code.specs.declared.label.Swap.TheVariants.{Idle, Perhaps, Within}
pub use Rattle.plan_code.specs.declared.plan.Plan.{Plan}
pub use Rattle.plan_code.specs.declared.instr.Instr.TheVariants.{Edit as Edits}
pub use Rattle.plan_verifier.specs.declared.cause.Cause.TheVariants.{Config as OfConfig, Edit as OfEdit}
pub use Rattle.plan_verifier.specs.Causes.{◌orelse◌, CommitRefused, FlowRefused, Where, WhereSome}
pub use Rattle.plan_verifier.specs.Flows.{FitsFlow, Flow, HasItsCounter, after_instr, flow_of, held, known_at}
pub use Rattle.plan_verifier.specs.Flows.{known_with, left_over, set_after}
pub use Rattle.plan_verifier.specs.Held.{flow_of_label, known_of}
pub use Rattle.plan_verifier.specs.Indexed.{AreAt, IsAt, IsTracked, IsWithin, configuration_at, fit_indices, flow_at}
pub use Rattle.plan_verifier.specs.Indexed.{has_swapped, indices_after, indices_of, moved_indices, swapped_indices}
pub use Rattle.plan_verifier.specs.Refusals.{CodesHaveOneVerdict, EntryRefused, FitsLabel, HasOneVerdict, InstrRefused}
pub use Rattle.plan_verifier.specs.Refusals.{InstructionRefused, IsFirstPast, IsRefused, IsRefusedAt, IsSafeBelow}
pub use Rattle.plan_verifier.specs.Refusals.{IsTypingBelow, JumpRefused, KnownRefused, LabelRefused, OpenedRefused}
pub use Rattle.plan_verifier.specs.Refusals.{OpeningRefused, PcRefused, TakenRefused, left_before, left_by}
pub use Rattle.plan_verifier.specs.Rules.{CanCommit, FitsSwap, HasConfigurationsOf, HasRoom, IsCertain, IsSurelyPending}
pub use Rattle.plan_verifier.specs.Rules.{after_pause, after_settle, after_wait, known_after_swap, perhaps_swapped}
pub use Rattle.plan_verifier.specs.Rules.{rested}
pub use Rattle.plan_verifier.specs.Tests.{cause_if, cause_of, commit_cause, fits_swap, has_configurations_of}
pub use Rattle.plan_verifier.specs.Tests.{has_room_for_notice, is_certain, is_idle, is_same, is_surely_pending}
pub use Rattle.plan_verifier.specs.Tests.{is_swap_count, satisfies}
pub use Rattle.plan_verifier.specs.Typing.{Arrives, CanEnter, Declares, Fits, HasOpening, IsAfter, IsFine, IsInitial}
pub use Rattle.plan_verifier.specs.Typing.{IsLabelTyped, IsOpening, IsSafe, IsTyped, IsTyping, Known, Reaches}
pub use Rattle.plan_verifier.specs.Typing.{continues, leaves, pages_alone, spent, target_of}
pub use Rattle.plan_verifier.specs.Walking.{◌first_or◌, PassesInstr, declared_by, entered, entry_cause, flow_cause}
pub use Rattle.plan_verifier.specs.Walking.{includes, instr_cause, instr_or_end, is_fit, is_initial, jump_cause}
pub use Rattle.plan_verifier.specs.Walking.{known_at_pc, known_cause, known_if_reached, label_cause, on_entry}
pub use Rattle.plan_verifier.specs.Walking.{opening_cause, opening_known, or_after, passed_on, past_end, past_label}
pub use Rattle.plan_verifier.specs.Walking.{refusal_of, refused_at, taken, target_cause, unless, walk, whole_cause}
pub use Rattle.plan_verifier.specs.declared.cause.Cause.{Cause}
pub use Rattle.plan_verifier.specs.declared.cause.Cause.TheVariants.{Cost, FallsOff, JoinIdle, Mismatch, Notice}
pub use Rattle.plan_verifier.specs.declared.cause.Cause.TheVariants.{Pending, Round, Table, Target}
pub use Rattle.plan_verifier.specs.declared.fitting.Condition.TheVariants.{NextTwice}
pub use Rattle.plan_verifier.specs.declared.indices.IndexedFlow.{IndexedFlow}
pub use Rattle.plan_verifier.specs.declared.indices.Indices.{Indices}
pub use Rattle.plan_verifier.specs.declared.refusal.Refusal.{Refusal}
pub use Rattle.std.proofs.Common.{[], ◌&&◌, ◌*◌, ◌++◌, ◌+◌, ◌-◌, ◌<◌, ◌==◌, ◌||◌, ◌↔◌, ◌∙◌, ◌∷◌, ◌≡◌, ◌≢◌, ◌≤◌, ◌⊎◌}
pub use Rattle.std.proofs.Common.{Bool, Contains, Err, IfErr, IfSome, IsTrue, List, None, Ok, OnOk, Option, Result}
pub use Rattle.std.proofs.Common.{Some, ap, arith, drop, eqb, false, find, if◌then◌else◌, inl, inr, length, nat_le}
pub use Rattle.std.proofs.Common.{nat_lt, not, option_map, refl, slice_get, subst, suc, sym, true, zero, ℕ}
pub use Rattle.std.proofs.lemmas.Bool.{and_from, and_parts, both_ways, cases_lt, eqb-true, false_from_ne_true}
pub use Rattle.std.proofs.lemmas.Bool.{false≢true, not-false, not-true, or_cases, or_left, or_right}
pub use Rattle.std.proofs.lemmas.Option.{get_or_from_slice_get, none-some, slice_get-get_or, slice_get_past}
pub use Rattle.std.proofs.lemmas.Option.{slice_get_within}
