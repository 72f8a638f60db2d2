-- The words of the proofs, passed on from the modules that define them.
pub use Rattle.mux_config.specs.Configuration.{Configuration, nothing}
pub use Rattle.plan_code.specs.Program.{Program}
pub use Rattle.plan_code.specs.declared.limits.TheConstants.{FRAMES_A_DAY}
pub use Rattle.plan_player.proofs.Joining.{few_delivered, few_stopped, joined, length_replicate, stopped_before}
pub use Rattle.plan_player.proofs.Joining.{stopped_later}
pub use Rattle.plan_player.specs.Delivery.{Delivered, Stopped, frames_of, played_bytes}
pub use Rattle.plan_player.specs.Playing.{IsAtStart, Playing, played, start_fault}
pub use Rattle.plan_runs.specs.declared.event.Event.{Event}
pub use Rattle.plan_session.specs.Commands.{IsCommand, command_lexemes}
pub use Rattle.plan_session.specs.Events.{IsStep, events_of, events_of_step, first_lexeme, step_lexemes}
pub use Rattle.plan_session.specs.FirstFaults.{ReportsFirstFault, cut_of, reported_fault}
pub use Rattle.plan_session.specs.ItemFaults.{Begins, BeginsItem, HasItemFault, HasOneItemFault, IsAtomNext, IsBrace}
pub use Rattle.plan_session.specs.ItemFaults.{IsDigits, IsFaultAfter, IsNoChange, IsNoLevel, IsNoNumber, IsWrongAfter}
pub use Rattle.plan_session.specs.ItemFaults.{IsWrongItem, ReportsCommandFault, ReportsItemFault, ReportsStepFault}
pub use Rattle.plan_session.specs.ItemFaults.{WantsNumber, end_position, fault_at, named_fault, position_or_end}
pub use Rattle.plan_session.specs.ItemFaults.{word_at}
pub use Rattle.plan_session.specs.Items.{AreUnique, HasLexemes, HoldsItems, HoldsOneListOf}
pub use Rattle.plan_session.specs.Keywords.{keyword_text}
pub use Rattle.plan_session.specs.Listing.{FindsItem, HasFaultLeft, HasNoTokens, Lists, ListsCommands, ListsSteps}
pub use Rattle.plan_session.specs.Listing.{PassesItem, ReadsItem, TakesCommand, TakesItem, TakesStep, all_added}
pub use Rattle.plan_session.specs.Listing.{as_lexemes, lexemes_left, preceded}
pub use Rattle.plan_session.specs.Playback.{CanStart, IsBeginFault, IsPlayFault, IsPlayback, IsRunFault, IsSessionOf}
pub use Rattle.plan_session.specs.Playback.{IsStarted, IsTypedFileOf, Opened, Request, asked, start_of}
pub use Rattle.plan_session.specs.declared.command.Command.{Command}
pub use Rattle.plan_session.specs.declared.command.Command.TheVariants.{Break, Clear, Next, Run, Show}
pub use Rattle.plan_session.specs.declared.commands.Keyword.{Keyword}
pub use Rattle.plan_session.specs.declared.event_fault.EventFault.{EventFault}
pub use Rattle.plan_session.specs.declared.event_fault.EventFault.TheVariants.{Byte, Expected, Memory, Number}
pub use Rattle.plan_session.specs.declared.item_fault.Wrong.{Wrong}
pub use Rattle.plan_session.specs.declared.run_fault.RunFault.TheVariants.{Code, Events, Write}
pub use Rattle.plan_session.specs.declared.step.Step.{Step}
pub use Rattle.plan_session.specs.declared.step.Step.TheVariants.{Contact, Frames}
pub use Rattle.script_tokens.proofs.Keys.{one_level}
pub use Rattle.script_tokens.specs.Bytes.{first_position, kind_of, position_after, position_past, token_at}
pub use Rattle.script_tokens.specs.Lexing.{added, fits, lexed}
pub use Rattle.script_tokens.specs.Reading.{AreWithin, lexemes_of}
pub use Rattle.script_tokens.specs.Scanning.{Advances, FindsNext, IsPlaceIn, Scan, bytes_left, tokens_left}
pub use Rattle.script_tokens.specs.Spelling.{level_text}
pub use Rattle.script_tokens.specs.declared.fault.ScriptFault.{ScriptFault}
pub use Rattle.script_tokens.specs.declared.token.Inside.TheVariants.{Nothing}
pub use Rattle.script_tokens.specs.declared.token.Kind.{Kind}
pub use Rattle.script_tokens.specs.declared.token.Kind.TheVariants.{Bad, Blank, Brace, Hash, Letter, LineEnd}
pub use Rattle.script_tokens.specs.declared.token.Place.{Place}
pub use Rattle.script_tokens.specs.declared.token.TheConstants.{NO_LIMITS}
pub use Rattle.script_tokens.specs.declared.token.Token.{Token}
pub use Rattle.std.proofs.Common.{[], ◌*◌, ◌++◌, ◌+◌, ◌-◌, ◌<◌, ◌∙◌, ◌∷◌, ◌≡◌, ◌≢◌, ◌≤◌, ◌⊎◌, Bool, List, None, Ok}
pub use Rattle.std.proofs.Common.{Option, Some, add-one, ap, append-nil, append_assoc, arith, drop, false, flat_map}
pub use Rattle.std.proofs.Common.{get_or, inl, inr, length, length-append, refl, replicate, rules, subst, sym, take}
pub use Rattle.std.proofs.Common.{true, ℕ}
pub use Rattle.std.proofs.Math.Seq.{drop-append_seam, drop-cons, take-add, take-append_seam}
pub use Rattle.std.proofs.lemmas.Bool.{and_parts, le-leb, leb-true}
pub use Rattle.std.proofs.lemmas.Fmt.{decimal_digit, decimal_injective, decimal_nonempty, digits_decimal}
pub use Rattle.std.proofs.lemmas.Result.{IfErr-weaker, IfOk-weaker, err_from_is_err_and}
pub use Rattle.std.specs.Fmt.{decimal}
pub use Rattle.std.specs.Io.KnownBytes.{Appends, Consumes, Keeps, append_known}
pub use Rattle.std.specs.List.{AllByRecursion}
pub use Rattle.std.specs.Prelude.{Err, IfSome, IsUtf8, Result, codes, slice_get, slice_range}
pub use Rattle.std.specs.Str.{IsValidUpTo, all_ascii_digits, all_scalars, encode_utf8_all}
