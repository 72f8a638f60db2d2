-- The words of the proofs, passed on from the modules that define them.
pub use Rattle.mux_config.specs.Configuration.{Configuration, IsConfiguration}
pub use Rattle.mux_config.specs.Sound.{IsSound, first_fault}
pub use Rattle.mux_config.specs.declared.edit.Edit.TheVariants.{AddSub}
pub use Rattle.mux_config.specs.declared.fault.EditFault.TheVariants.{IdUsed}
pub use Rattle.plan_code.proofs.Bits.{contacts_change_alone, counters_change_alone}
pub use Rattle.plan_code.specs.Flags.{is_in, is_set, with_contact, without_counter}
pub use Rattle.plan_code.specs.Machine.{IsAllowed, State, StepIsAllowed, effect, effect_of, settle, step}
pub use Rattle.plan_code.specs.Program.{AreBounds, IsInstr, IsLabel, IsLine, IsPlan, IsProgram, Program, instr_at}
pub use Rattle.plan_code.specs.Program.{label_at, label_key}
pub use Rattle.plan_code.specs.declared.flags.Contacts.{Contacts}
pub use Rattle.plan_code.specs.declared.hold.Hold.{Hold}
pub use Rattle.plan_code.specs.declared.hold.Hold.TheVariants.{Ended, Running, Waits}
pub use Rattle.plan_code.specs.declared.instr.Instr.{Instr}
pub use Rattle.plan_code.specs.declared.instr.Instr.TheVariants.{CommitAt, CommitIn, Edit, End, Join, Jump, Loop, Set}
pub use Rattle.plan_code.specs.declared.instr.Instr.TheVariants.{Settle, Test, TestTime, Until, Wait, WaitAny}
pub use Rattle.plan_code.specs.declared.instr.Instr.TheVariants.{WaitContact}
pub use Rattle.plan_code.specs.declared.instr.Line.{Line}
pub use Rattle.plan_code.specs.declared.label.Label.{Label}
pub use Rattle.plan_code.specs.declared.label.Swap.{Swap}
pub use Rattle.plan_code.specs.declared.label.Swap.TheVariants.{Idle, Perhaps, Within}
pub use Rattle.plan_code.specs.declared.plan.Plan.{Plan}
pub use Rattle.plan_runs.specs.Frames.{Executes, FrameIsAllowed, after_burst, after_frame, is_due, is_first_noticed}
pub use Rattle.plan_runs.specs.Frames.{is_here, is_running, ready, shown, with_due_swap, with_hold_ended, with_swap}
pub use Rattle.plan_runs.specs.declared.event.Event.TheVariants.{Contact, Frame}
pub use Rattle.plan_runs.specs.declared.event.Start.{Start}
pub use Rattle.plan_verifier.proofs.Samples.{first_is, label, one_sub, plan, sub}
pub use Rattle.plan_verifier.proofs.Verdicts.{slice_there}
pub use Rattle.plan_verifier.specs.Causes.{CommitRefused, FlowRefused, WhereSome}
pub use Rattle.plan_verifier.specs.Flows.{FitsFlow, Flow, after_instr, known_at, known_with, left_over, merged, rests}
pub use Rattle.plan_verifier.specs.Flows.{set_after, widest}
pub use Rattle.plan_verifier.specs.Indexed.{AreAt, IsTracked, flow_at}
pub use Rattle.plan_verifier.specs.Rules.{FitsSwap, IsFine, Known, after_pause, after_settle, after_wait, continues}
pub use Rattle.plan_verifier.specs.Rules.{known_after_swap, leaves, pages_alone, perhaps_swapped, spent, suspends}
pub use Rattle.plan_verifier.specs.Rules.{target_of}
pub use Rattle.plan_verifier.specs.declared.cause.Cause.{Cause}
pub use Rattle.plan_verifier.specs.declared.cause.Cause.TheVariants.{Cost, Count, JoinIdle, Mismatch, NoChange, Notice}
pub use Rattle.plan_verifier.specs.declared.cause.Cause.TheVariants.{Pending, Round, SwapUncertain, Table}
pub use Rattle.script_compiler.specs.Alternatives.{AlternativesAreKept, contacts_in, frames_in, instr_of_act, is_for}
pub use Rattle.script_compiler.specs.Alternatives.{is_level, moment_in, no_contacts, test_of, with_alternative}
pub use Rattle.script_compiler.specs.Alternatives.{with_alternatives, with_level}
pub use Rattle.script_compiler.specs.Compiled.{Added, AreFine, AreLabelsOf, CostsItsNeeds, IsAccepted, IsCodeOf}
pub use Rattle.script_compiler.specs.Compiled.{IsInTable, IsLabelOf, ScriptsHaveOneCode, Tabled, beginning, body_of}
pub use Rattle.script_compiler.specs.Compiled.{first_counters, instrs_of, lines_of_placed, nested, opening_of}
pub use Rattle.script_compiler.specs.Compiled.{placed_instrs, with_items}
pub use Rattle.script_compiler.specs.Compiling.{CanCompile, Compiled, Compiles, Fails, block_in, statement_in}
pub use Rattle.script_compiler.specs.Costs.{CanReach, CanRevisit, ClosesCycle, HasCostAt, IsCostRefused, IsCostlyAt}
pub use Rattle.script_compiler.specs.Costs.{IsFirst, IsOver}
pub use Rattle.script_compiler.specs.Emission.{ClosesIf, ClosesLoop, Emits, Forks, IsAfterBranches, Left, StartsElse}
pub use Rattle.script_compiler.specs.Emission.{aimed_at, facts_of, has_no_instr, jumping, line_of_instr, points_of}
pub use Rattle.script_compiler.specs.Emission.{tables, way}
pub use Rattle.script_compiler.specs.Fingerprint.{Listed, component_number, mix, mix_all, packet_bits, print_of}
pub use Rattle.script_compiler.specs.Fingerprint.{service_bits, sub_bits}
pub use Rattle.script_compiler.specs.FrameCosts.{IsAcceptedButForCosts, IsFrameCost, LongestPathIsLeastBudget, RunsTo}
pub use Rattle.script_compiler.specs.Judged.{BranchesAgree, FitsEntry, IsDone, IsJudged, Reached, WaysAgree}
pub use Rattle.script_compiler.specs.Limits.{IsWithin, Passes}
pub use Rattle.script_compiler.specs.Longest.{Priced, longest, need_at, need_to}
pub use Rattle.script_compiler.specs.Meaning.{IsFineToDo, Performs, PerformsAll, PerformsEvent, PerformsFrame}
pub use Rattle.script_compiler.specs.Meaning.{PlaysAsItReads, Reading, Scene, ScenesSuffice, ScriptsPlayAsTheyRead}
pub use Rattle.script_compiler.specs.Meaning.{acts, begins, closes, first_done, followed, holds, opens, reading}
pub use Rattle.script_compiler.specs.Meaning.{scene_of, state_of_scene}
pub use Rattle.script_compiler.specs.Need.{HasPath, IsNeed, IsWithinBudget, StepsTo}
pub use Rattle.script_compiler.specs.Pool.{AreBelow, AreInPool, Extends, IsDistinct, IsInPool, PooledTable}
pub use Rattle.script_compiler.specs.Pool.{UnpricedPool, point_in}
pub use Rattle.script_compiler.specs.Reaching.{GrowsBy, IsAt, IsExpanded, IsIn, Searched, trues}
pub use Rattle.script_compiler.specs.Refusals.{IfLimit, IfLimitAt, IfMismatchAt, IfRefused, IsLimitAt, IsRefusal}
pub use Rattle.script_compiler.specs.Refused.{IsItemRefused, IsMismatch, IsOpeningRefused, IsRefused, IsRefusedAfter}
pub use Rattle.script_compiler.specs.Refused.{IsRefusedIn, IsUnreached}
pub use Rattle.script_compiler.specs.Room.{AreNew, HasRoomFor, IsDeepAtMost, Leaves, named_by}
pub use Rattle.script_compiler.specs.Scheme.{PlacedInstr, all_places, alone, at_label, falls_out, head, join, meet}
pub use Rattle.script_compiler.specs.Scheme.{onward, placed_instr, places, point_after, unpriced_label, unpriced_labels}
pub use Rattle.script_compiler.specs.Scheme.{without_label}
pub use Rattle.script_compiler.specs.Space.{CanEmit, Covers, HasCounters, HasSpace, HasTable, IsCovered, IsInLimits}
pub use Rattle.script_compiler.specs.Space.{Keeps, LacksSpace, count_of_labels, names_of}
pub use Rattle.script_compiler.specs.Unpriced.{AreInTable, AreShallow, UnpricedTable, configuration_at, priced_label}
pub use Rattle.script_compiler.specs.Unpriced.{unpriced_in}
pub use Rattle.script_compiler.specs.Working.{Lines, Points, Work}
pub use Rattle.script_compiler.specs.declared.context.BlockFacts.{BlockFacts}
pub use Rattle.script_compiler.specs.declared.context.Context.{Context}
pub use Rattle.script_compiler.specs.declared.fault.CodeLimit.{CodeLimit}
pub use Rattle.script_compiler.specs.declared.fault.CodeLimit.TheVariants.{Configurations, Counters, Instructions}
pub use Rattle.script_compiler.specs.declared.fault.CodeLimit.TheVariants.{Labels}
pub use Rattle.script_compiler.specs.declared.fault.CompileFault.{CompileFault}
pub use Rattle.script_compiler.specs.declared.fault.CompileFault.TheVariants.{Limit, Memory, Refused}
pub use Rattle.script_compiler.specs.declared.flow.ProgramPoint.{ProgramPoint}
pub use Rattle.script_compiler.specs.declared.flow.UnpricedLabel.{UnpricedLabel}
pub use Rattle.script_compiler.specs.declared.short.IndexedLabel.{IndexedLabel}
pub use Rattle.script_compiler.specs.declared.short.IndexedPoint.{IndexedPoint}
pub use Rattle.script_front.specs.Block.{Before, Block, apply, basic, before, block_of, either, forever, named_at}
pub use Rattle.script_front.specs.Block.{nothing, repeat, statement_step, stop, table_of, when, whole}
pub use Rattle.script_front.specs.Tree.{IsScript, Tree}
pub use Rattle.script_front.specs.declared.alternatives.Alternative.{Alternative}
pub use Rattle.script_front.specs.declared.tree.Act.{Act}
pub use Rattle.script_front.specs.declared.tree.Condition.{Condition}
pub use Rattle.script_front.specs.declared.tree.Item.{Item}
pub use Rattle.script_front.specs.declared.tree.Statement.{Statement}
pub use Rattle.script_front.specs.declared.tree.Statement.TheOpen.{Statement-F}
pub use Rattle.std.proofs.Common.{[], ◌&&◌, ◌*◌, ◌++◌, ◌+◌, ◌-◌, ◌<◌, ◌==◌, ◌||◌, ◌∙◌, ◌∷◌, ◌≡◌, ◌≢◌, ◌≤◌, ◌⊎◌, Bool}
pub use Rattle.std.proofs.Common.{Contains, Err, Global, IsSome, List, None, Ok, Option, Result, Some, Vec, add-one, ap}
pub use Rattle.std.proofs.Common.{append-nil, append_assoc, arith, drop, drop-cons, false, get_or, if◌then◌else◌, inl}
pub use Rattle.std.proofs.Common.{inr, is_some, length, length-append, map, max, refl, rules, slice_get, subst, suc}
pub use Rattle.std.proofs.Common.{sym, take, true, zero, ℕ}
pub use Rattle.std.proofs.Math.Seq.{get_or-append_seam, set-append_seam}
pub use Rattle.std.proofs.lemmas.Bool.{cases_lt, eq-eqb, eqb-true, false≢true, le-ltb, lt-ltb}
pub use Rattle.std.proofs.lemmas.Bool.Decides.{eqb_tells, nat_tests}
pub use Rattle.std.proofs.lemmas.List.{append_cancel_left, at_drop_all, drop_all, get_or-set_other, get_or-set_same}
pub use Rattle.std.proofs.lemmas.List.{get_or_append_left, get_or_past, get_or_push, length-map, length-set}
pub use Rattle.std.proofs.lemmas.List.{length-take, length_push, map_more}
pub use Rattle.std.proofs.lemmas.Option.{get_or_from_slice_get, same_Some, slice_get-get_or, slice_get-map}
pub use Rattle.std.proofs.lemmas.Option.{slice_get_past, slice_get_within}
pub use Rattle.std.proofs.lemmas.Result.{err_from_is_err_and}
pub use Rattle.std.specs.List.{AllByRecursion, list_any}
pub use Rattle.std.specs.Option.{option_to_list}
pub use Rattle.std.specs.Prelude.{IfErr, IfOk, IfSome, OnOk, find, nat_lt, option_map, slice_index, slice_set}
