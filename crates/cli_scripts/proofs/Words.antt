-- The words of the proofs, passed on from the modules that define them.
pub use Rattle.cli_scripts.specs.Compiled.{FindsCompiled, IsCompiled, IsCompiledFrom, IsReason, IsRefusedFrom}
pub use Rattle.cli_scripts.specs.Compiled.{IsUncompiled}
pub use Rattle.cli_scripts.specs.FileTexts.{IsReadOf}
pub use Rattle.cli_scripts.specs.Naming.{HearsNamed, ended_named}
pub use Rattle.cli_scripts.specs.Planned.{IsPlanFault, IsPlanText}
pub use Rattle.cli_scripts.specs.ScriptFrame.{GivesFrame}
pub use Rattle.cli_scripts.specs.ScriptOfStream.{HasScript, IsScriptText, clamped}
pub use Rattle.cli_scripts.specs.Success.{Compiles, Diffs, FramesScript, HasPlan, HasScriptOpening, IsAcceptedFile}
pub use Rattle.cli_scripts.specs.Success.{TellsScript, Verifies, count_of}
pub use Rattle.cli_scripts.specs.declared.compile.Compiled.{Compiled}
pub use Rattle.cli_scripts.specs.declared.compile.ScriptRefusal.{ScriptRefusal}
pub use Rattle.cli_scripts.specs.declared.compile.ScriptRefusal.TheVariants.{Memory, Script}
pub use Rattle.cli_scripts.specs.declared.frame_script.FrameScriptRequest.{FrameScriptRequest}
pub use Rattle.cli_scripts.specs.declared.listen_script.ListenScriptRequest.{ListenScriptRequest}
pub use Rattle.cli_scripts.specs.declared.listen_script.Named.{Named}
pub use Rattle.cli_streams.proofs.Hearing.{ends, fibs_on, piece_ends, piece_has_ended}
pub use Rattle.cli_streams.specs.Stream.{HearsTheStream, ended, fibs_of_stream, unheard}
pub use Rattle.cli_streams.specs.declared.listen.Heard.{Heard}
pub use Rattle.console.specs.declared.exit.Status.TheVariants.{Done, Faulty, Misused, Refused}
pub use Rattle.mux_config.specs.Configuration.{Configuration, IsConfiguration}
pub use Rattle.plan_code.specs.declared.instr.Instr.TheVariants.{End}
pub use Rattle.plan_code.specs.declared.plan.Plan.{Plan}
pub use Rattle.plan_verifier.specs.Flows.{Flow, after_instr, known_at}
pub use Rattle.plan_verifier.specs.Rules.{IsFine, continues, pages_alone, suspends, target_of}
pub use Rattle.script_compiler.specs.Compiled.{Added, AreFine, IsAccepted, Tabled, beginning, body_of, instrs_of}
pub use Rattle.script_compiler.specs.Compiled.{lines_of_placed, nested, opening_of, placed_instrs, with_items}
pub use Rattle.script_compiler.specs.Judged.{IsJudged}
pub use Rattle.script_compiler.specs.Need.{HasPath, IsWithinBudget}
pub use Rattle.script_compiler.specs.Scheme.{PlacedInstr, all_places, alone, at_label, instr_of_act, onward}
pub use Rattle.script_compiler.specs.Scheme.{placed_instr, places, point_after, unpriced_label, unpriced_labels}
pub use Rattle.script_compiler.specs.Scheme.{without_label}
pub use Rattle.script_config.specs.Ensembles.{NamesAfter, named_by_figs}
pub use Rattle.script_config.specs.Frames.{FitFrames, ends_frame}
pub use Rattle.script_config.specs.Openings.{IsSoundOpening, Opens}
pub use Rattle.script_config.specs.Plain.{IsPlain, acts_from}
pub use Rattle.script_config.specs.declared.opening.Opening.{Opening}
pub use Rattle.script_front.specs.Block.{Block, block_of, nothing, table_of}
pub use Rattle.script_front.specs.Tree.{IsScript, Tree}
pub use Rattle.script_front.specs.declared.tree.Act.{Act}
pub use Rattle.script_front.specs.declared.tree.Act.TheVariants.{CommitAt, CommitIn, Join, Settle, Until, Wait, WaitAny}
pub use Rattle.script_front.specs.declared.tree.Act.TheVariants.{WaitContact}
pub use Rattle.std.proofs.Common.{[], ◌%◌, ◌*◌, ◌++◌, ◌+◌, ◌-◌, ◌<◌, ◌==◌, ◌∙◌, ◌∷◌, ◌≡◌, ◌≢◌, ◌≤◌, ◌⊎◌, Bool, Err}
pub use Rattle.std.proofs.Common.{IfOk, IfSome, IsSome, IsUtf8, List, None, Ok, OnOk, Option, Result, Some, ap}
pub use Rattle.std.proofs.Common.{append_assoc, arith, drop, false, if◌then◌else◌, inl, inr, length, length-append}
pub use Rattle.std.proofs.Common.{length-take, min, refl, subst, suc, sym, take, take-take, take_all, true, zero, ℕ}
pub use Rattle.std.proofs.KnownBytes.{Appends-kept, Consumes-trans, Consumes-whole}
pub use Rattle.std.proofs.lemmas.Bool.{cases_lt, false≢true}
pub use Rattle.std.proofs.lemmas.Result.{IfOk-weaker}
pub use Rattle.std.specs.Io.KnownBytes.{Appends, Consumes, IsAtEnd, Keeps}
