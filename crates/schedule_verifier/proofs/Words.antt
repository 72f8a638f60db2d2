-- The words of the proofs, passed on from the modules that define them.
pub use Rattle.std.proofs.Common.{[], ◌%◌, ◌*◌, ◌++◌, ◌+◌, ◌-◌, ◌/◌, ◌<◌, ◌==◌, ◌^◌, ◌↔◌, ◌∙◌, ◌∷◌, ◌≡◌, ◌≢◌, ◌≤◌, ◌⊎◌}
pub use Rattle.std.proofs.Common.{Bool, Contains, List, None, Option, Some, ap, append_assoc, arith, cond, eqb, false}
pub use Rattle.std.proofs.Common.{inl, inr, is_some, le-ltb, leb, length, lt-ltb, ltb, map, refl, replicate, rules, set}
pub use Rattle.std.proofs.Common.{subst, suc, sym, take, true, zero, ℕ}
pub use Rattle.std.proofs.lemmas.Bool.{and_parts, cases_lt, eq-eqb, eqb-false, eqb-true, le-leb, leb-false, leb-true}
pub use Rattle.std.proofs.lemmas.Bool.{ltb-false}
pub use Rattle.std.proofs.lemmas.Bool.{ltb-true, ne_eqb, or_cases, or_left, or_parts, or_right}
pub use Rattle.std.specs.List.{AllByRecursion, list_all, list_any}
pub use Rattle.std.specs.Prelude.{◌||◌, ◌&&◌, IfSome, drop, find, get_or, nat_le, nat_lt, not, option_map, slice_get}
pub use Rattle.mux_types.specs.Configuration.{Configuration}
pub use Rattle.mux_types.specs.Sameness.{is_same_flag}
pub use Rattle.mux_config.specs.Edits.{changed, edit_fault}
pub use Rattle.fib_codec.specs.Layouts.{layout_mode}
pub use Rattle.fib_codec.specs.Modes.{count_step}
pub use Rattle.plan_code.specs.declared.flags.Contacts.{Contacts}
pub use Rattle.plan_code.specs.declared.hold.Hold.{Hold}
pub use Rattle.plan_code.specs.declared.hold.Hold.TheVariants.{Running, Waits, WaitsDay, WaitsContact, WaitsAny}
pub use Rattle.plan_code.specs.declared.hold.Hold.TheVariants.{WaitsSwap, Ended}
pub use Rattle.plan_code.specs.declared.instr.Instr.{Instr}
pub use Rattle.plan_code.specs.declared.instr.Instr.TheVariants.{Wait, Until, WaitContact, WaitAny, CommitIn, CommitAt}
pub use Rattle.plan_code.specs.declared.instr.Instr.TheVariants.{Join, Settle, End, Edit as Edits, Test, TestTime}
pub use Rattle.plan_code.specs.declared.instr.Instr.TheVariants.{Jump, Set, Loop}
pub use Rattle.plan_code.specs.declared.label.Label.{Label}
pub use Rattle.plan_code.specs.declared.plan.Plan.{Plan}
pub use Rattle.plan_code.specs.Flags.{is_closed, any_closed, any_open, with_contact}
pub use Rattle.plan_code.specs.Machine.{State, IsAllowed, IsReady, StepIsAllowed, effect, effect_of, step, left_in}
pub use Rattle.plan_code.specs.Machine.{is_in_window, frames_until, commit, suspend}
pub use Rattle.plan_code.specs.Program.{Program, IsProgram, instr_at, label_at}
pub use Rattle.plan_verifier.specs.Typing.{IsTyped}
pub use Rattle.plan_runs.specs.declared.event.Event.{Event}
pub use Rattle.plan_runs.specs.declared.event.Event.TheVariants.{Contact, Frame}
pub use Rattle.plan_runs.specs.declared.event.Start.{Start}
pub use Rattle.plan_runs.specs.Frames.{Executes, FrameIsAllowed, is_running, is_due, is_day, is_here, is_any_here}
pub use Rattle.plan_runs.specs.Frames.{ready, with_due_swap, with_swap, with_hold_ended, hold_after_swap, shown}
pub use Rattle.plan_runs.specs.Frames.{after_burst, after_frame, hold_after_frame, left_after_frame, is_first_noticed}
pub use Rattle.plan_runs.specs.Frames.{with_next_counts}
pub use Rattle.plan_runs.specs.Runs.{IsEvent, IsStart, RunIsAllowed, StartIsInRange, happens, run}
pub use Rattle.plan_runs.specs.TypedRuns.{IsPlayed}
pub use Rattle.schedule_front.specs.Tree.{Tree, Overlay}
pub use Rattle.schedule_runs.specs.Due.{due, wanted, with_overlays, condition_holds, test_holds, edits_of, opening_of}
pub use Rattle.schedule_runs.specs.Machine.{Airing, airing_of, after_swap, announced, TakesUp, after_counts}
pub use Rattle.schedule_runs.specs.Machine.{PerformsFrame, PerformsEvent, PerformsAll, with_level}
pub use Rattle.schedule_verifier.specs.Certificate.{Names, is_rest, ReturnsFrom, IsTop, GoesOn, Moment, IsAway}
pub use Rattle.schedule_verifier.specs.Certificate.{IsBefore, Keeps, Rests, Stays, Changes, LeadsBy, Leads}
pub use Rattle.schedule_verifier.specs.Certificate.{IsKeptFrom, IsCertified}
pub use Rattle.schedule_verifier.specs.Playing.{begun, PlaysAlong, PlaysAsScheduled, CertifiedCodesPlay}
pub use Rattle.std.specs.Int.{bit_at}
pub use Rattle.std.specs.Int.RustNames.{bit_or}
pub use Rattle.plan_code.specs.declared.limits.TheConstants.{FRAMES_A_DAY}
pub use Rattle.schedule_verifier.specs.Certificate.{Lasts, LeadsOn, moment}
pub use Rattle.schedule_verifier.specs.Regions.{Covers, Decides, IfYes, Throughout, both, either, everything}
pub use Rattle.schedule_verifier.specs.Regions.{first_part}
pub use Rattle.schedule_verifier.specs.Regions.{second_part, earlier}
pub use Rattle.schedule_verifier.specs.declared.region.Region.{Region}
pub use Rattle.schedule_verifier.specs.declared.region.Question.{Question}
pub use Rattle.schedule_verifier.specs.declared.region.Question.TheVariants.{Contact as OfContact, Day}
pub use Rattle.schedule_verifier.specs.declared.region.Answer.{Answer}
pub use Rattle.schedule_verifier.specs.declared.region.Answer.TheVariants.{Yes, No, Ask}
pub use Rattle.schedule_verifier.specs.Walks.{Comes, Passes, WalksTo, branch_of}
pub use Rattle.schedule_verifier.specs.declared.walk.Step.{Step}
pub use Rattle.schedule_verifier.specs.declared.walk.Step.TheVariants.{To, Leaf, Ask as AskFirst, Fails}
pub use Rattle.script_config.specs.Sequences.{after}
pub use Rattle.schedule_front.specs.Tree.{alternatives_of, overlay_of}
