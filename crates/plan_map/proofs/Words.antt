-- The words of the proofs, passed on from the modules that define them.
pub use Rattle.mux_config.specs.Edits.{changed}
pub use Rattle.mux_types.proofs.Elements.{contains_cases, contains_first, contains_later, contains_none}
pub use Rattle.mux_types.specs.Configuration.{Configuration, IsConfiguration, IsPlaced, nothing}
pub use Rattle.mux_types.specs.declared.parts.Sub.{Sub}
pub use Rattle.plan_code.specs.Machine.{IsAllowed, State, effect, is_in_window, settle, step}
pub use Rattle.plan_code.specs.Program.{Program, instr_at, label_at}
pub use Rattle.plan_code.specs.declared.instr.Instr.{Instr}
pub use Rattle.plan_code.specs.declared.instr.Instr.TheVariants.{CommitAt, CommitIn, Edit, End, Join, Jump, Loop}
pub use Rattle.plan_code.specs.declared.instr.Instr.TheVariants.{Settle, Test, TestTime, Until, Wait, WaitAny}
pub use Rattle.plan_code.specs.declared.instr.Instr.TheVariants.{WaitContact}
pub use Rattle.plan_code.specs.declared.instr.Line.{Line}
pub use Rattle.plan_code.specs.declared.label.Label.{Label}
pub use Rattle.plan_code.specs.declared.label.Swap.TheVariants.{Idle, Perhaps, Within}
pub use Rattle.plan_code.specs.declared.plan.Plan.{Plan}
pub use Rattle.plan_map.specs.declared.lead.Lead.TheVariants.{Begin as Beginning, Wait as Waited}
pub use Rattle.plan_code.specs.declared.instr.Instr.TheVariants.{Edit as Edits}
pub use Rattle.plan_map.specs.Committed.{CommitsAreRows, CommitsAt, FramesSendRows, HasCommit, IsCommitted, IsOfCommit}
pub use Rattle.plan_map.specs.Committed.{IsShown, OpensWith, RowsAreCommits, RunsBeginWithTheFirst, SendsRows}
pub use Rattle.plan_map.specs.Committed.{commits_before}
pub use Rattle.plan_map.specs.Layout.{IsClash, Occurs, Serves, clash_of, clash_with, clashes, first_clash, first_with}
pub use Rattle.plan_map.specs.Layout.{in_order, is_refused, is_served, listed, place_of, places, row_subs, shares}
pub use Rattle.plan_map.specs.Layout.{subs_of}
pub use Rattle.plan_map.specs.Leads.{after, lead_of, ways_from}
pub use Rattle.plan_map.specs.Rows.{commits_from, declared_by, known_next, left_by, opening_of, or_else, row_at}
pub use Rattle.plan_map.specs.Rows.{rows_of, unless_at_fault}
pub use Rattle.plan_map.specs.declared.lead.Reached.{Reached}
pub use Rattle.plan_map.specs.declared.lead.Ways.{Ways}
pub use Rattle.plan_map.specs.declared.lead.Ways.TheVariants.{One}
pub use Rattle.plan_map.specs.declared.rows.Row.{Row}
pub use Rattle.plan_map.specs.declared.rows.RowKind.TheVariants.{Begin, Commit}
pub use Rattle.plan_runs.proofs.Between.{step_is}
pub use Rattle.plan_runs.proofs.Lookups.{get_some}
pub use Rattle.plan_runs.specs.Frames.{Executes, FrameIsAllowed, after_burst, burst, is_due, is_first_noticed, is_here}
pub use Rattle.plan_runs.specs.Frames.{is_noticed, left_after_frame, ready, shown, with_due_swap, with_swap}
pub use Rattle.plan_runs.specs.Runs.{EventIsAllowed, IsStart, RunIsAllowed, happens, run}
pub use Rattle.plan_runs.specs.Swaps.{IsCommit}
pub use Rattle.plan_runs.specs.TypedRuns.{IsPlayed, TypedCodeRuns}
pub use Rattle.plan_runs.specs.declared.event.Event.{Event}
pub use Rattle.plan_runs.specs.declared.event.Event.TheVariants.{Contact, Frame}
pub use Rattle.plan_runs.specs.declared.event.Start.{Start}
pub use Rattle.plan_verifier.proofs.Tabled.{contains_at, found, mapped, unlabelled}
pub use Rattle.plan_verifier.specs.Typing.{Arrives, IsFine, IsSafe, IsTyping, Known, after_pause, after_settle}
pub use Rattle.plan_verifier.specs.Typing.{after_wait, known_after_swap, leaves, perhaps_swapped, spent, target_of}
pub use Rattle.std.proofs.Common.{[], ◌++◌, ◌+◌, ◌-◌, ◌<◌, ◌==◌, ◌||◌, ◌∙◌, ◌∷◌, ◌≡◌, ◌≤◌, ◌⊎◌, Bool, List, None}
pub use Rattle.std.proofs.Common.{Option, Some, ap, append-nil, append_assoc, arith, cond, drop, false, get_or}
pub use Rattle.std.proofs.Common.{if◌then◌else◌, inl, inr, length, ltb, not, option_map, refl, slice_get, subst, suc}
pub use Rattle.std.proofs.Common.{sym, take, true, zero, ℕ}
pub use Rattle.std.proofs.lemmas.Bool.{cases_lt, eq-eqb, eqb-true, le-ltb, lt-ltb, ne_eqb, not-false}
pub use Rattle.std.proofs.lemmas.List.{drop_all, drop_more, take_more}
pub use Rattle.std.proofs.lemmas.Option.{same_Some, slice_get_within}
pub use Rattle.std.specs.List.{AllByRecursion, filter, flat_map, list_any, range_with_len}
pub use Rattle.std.specs.Prelude.{IfSome, nat_lt}
