-- The words of the proofs, passed on from the modules that define them.
pub use Rattle.plan_code.specs.Program.{IsEdit, IsPlan}
pub use Rattle.plan_code.specs.declared.plan.Plan.{Plan}
pub use Rattle.schedule_front.specs.Alike.{AreAlike, PrintedSchedulesAreRead, SchedulesHaveTheirOwnTokens}
pub use Rattle.schedule_front.specs.Alike.{TextsAreOfOneSchedule, said_by}
pub use Rattle.schedule_front.specs.Denoting.{Denotes, IsNoSchedule, IsScheduleOf}
pub use Rattle.schedule_front.specs.Parsing.{HasMore, HasMoreAlternatives, HasMoreTests, HasOneMore, ReadsCondition}
pub use Rattle.schedule_front.specs.Parsing.{ReadsEdits, ReadsOverlay}
pub use Rattle.schedule_front.specs.Parsing.{ReadsOverlays, ReadsTests, SchedulesAreRead, SpellsTree}
pub use Rattle.schedule_front.specs.Printing.{edits_lines, first_lexemes, overlay_lines, overlays_lines, tree_lines}
pub use Rattle.schedule_front.specs.Readers.{Edits, OverlayRead, Overlays, Tests, after_edits, after_overlays, edit_of}
pub use Rattle.schedule_front.specs.Readers.{unless_ended}
pub use Rattle.schedule_front.specs.Readers.{edit_on, edits_from, edits_if, tests_read}
pub use Rattle.schedule_front.specs.Spelled.{EditsOn, HasLines, OverlaysOn, and_lexemes, condition_lexemes}
pub use Rattle.schedule_front.specs.Spelled.{edits_lexemes, or_lexemes, overlays_lexemes, schedule_lexemes}
pub use Rattle.schedule_front.specs.Spelled.{test_lexemes, tests_lexemes, tree_lexemes}
pub use Rattle.schedule_front.specs.Tree.{AreEdits, AreTests, IsCondition, IsOverlay, IsSchedule, IsTest, Overlay, Tree}
pub use Rattle.schedule_front.specs.Tree.{alternatives_of, counted, overlay_of, test_count}
pub use Rattle.schedule_front.specs.declared.tree.Overlay.{Overlay as OverlayCode}
pub use Rattle.schedule_front.specs.declared.tree.OverlayEdit.{OverlayEdit}
pub use Rattle.schedule_front.specs.declared.tree.Test.TheVariants.{Contact, Time}
pub use Rattle.schedule_front.specs.declared.tree.Test.{Test}
pub use Rattle.script_front.specs.Alike.{added_by}
pub use Rattle.script_front.specs.Denoting.{HasLexemes, lexemes_in}
pub use Rattle.script_front.specs.Printing.{Line, closing, each_after, header_lines, indent, items_lines, line}
pub use Rattle.script_front.specs.Printing.{line_text, spaced, text_of_lines}
pub use Rattle.script_front.specs.Readers.{header_at, items_at}
pub use Rattle.script_front.specs.Spelled.{ItemsOn, braced, edit_lexemes, header_lexemes, items_lexemes, name_at}
pub use Rattle.script_front.specs.Tree.{AreNamedApart, IsItem}
pub use Rattle.script_front.specs.declared.tree.Item.{Item}
pub use Rattle.script_tokens.proofs.Combining.{below, both_law, either_given, finish, keyed_given, keyed_law}
pub use Rattle.script_tokens.proofs.Combining.{made_found, made_given, not_after, other_next, values_are_read}
pub use Rattle.script_tokens.proofs.FirstKeywords.{item_found, keyword_again, statement_found, statement_given}
pub use Rattle.script_tokens.proofs.Taking.{after_begins, after_itself, bind_some, next_begins, next_itself}
pub use Rattle.script_tokens.proofs.Wording.{AreWords, IsWord, decimal_word, keyword_text, name_word, time_word_word}
pub use Rattle.script_tokens.specs.Bytes.{first_position}
pub use Rattle.script_tokens.specs.First.{edit_keyword, statement_keyword, statement_of}
pub use Rattle.script_tokens.specs.Keywords.{IsName, letters}
pub use Rattle.script_tokens.specs.Reading.{AreOnScriptLines, Input, ReadsAsSpelled, Spelled, after, both, built}
pub use Rattle.script_tokens.specs.Reading.{first_item, first_statement, giving, is_next, keyed, lexemes_of, line_of}
pub use Rattle.script_tokens.specs.Reading.{line_of_left, lines_of, ◌>>=◌}
pub use Rattle.script_tokens.specs.Spelling.{level_text, time_text}
pub use Rattle.script_tokens.specs.Taking.{number_at, time_at}
pub use Rattle.script_tokens.specs.Texts.{AreTokens, Piece, script_limits, text_of, tokens_of}
pub use Rattle.script_tokens.specs.declared.first_keyword.EditKeyword.{EditKeyword}
pub use Rattle.script_tokens.specs.declared.first_keyword.StatementKeyword.{StatementKeyword}
pub use Rattle.script_tokens.specs.declared.token.Token.{Token}
pub use Rattle.std.proofs.Common.{Bool, List, None, Option, Some, [], add-one, ap, append_assoc, arith, drop, false}
pub use Rattle.std.proofs.Common.{get_or, if◌then◌else◌, inl, inr, length, length-append, map, refl, rules}
pub use Rattle.std.proofs.Common.{string_bytes, subst, suc, sym, true, zero, ℕ, ◌++◌, ◌+◌, ◌-◌, ◌<◌, ◌∙◌, ◌∷◌, ◌≡◌, ◌≢◌}
pub use Rattle.std.proofs.Common.{◌≤◌, ◌⊎◌}
pub use Rattle.std.proofs.Math.Seq.{drop-cons}
pub use Rattle.std.proofs.lemmas.List.Elements.{All-nil, All-push}
pub use Rattle.std.proofs.lemmas.List.Quantifiers.{all_pairs_push}
pub use Rattle.std.proofs.lemmas.List.{append-nil, drop_all}
pub use Rattle.std.proofs.lemmas.List.{length-map, map-append}
pub use Rattle.std.proofs.Common.{take}
pub use Rattle.std.proofs.lemmas.Result.{err_from_is_err_and}
pub use Rattle.std.specs.Fmt.{decimal}
pub use Rattle.std.specs.Global.{Global}
pub use Rattle.std.specs.List.{All, AllByRecursion}
pub use Rattle.std.specs.Prelude.{Vec, codes}
pub use Rattle.std.specs.Str.{bytes_eq}
