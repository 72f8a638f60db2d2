-- The words of the laws of readings, passed on.
pub use Rattle.fib_codec.specs.Layouts.{layout_mode}
pub use Rattle.fib_codec.specs.declared.frame_layout.FrameLayout.{FrameLayout}
pub use Rattle.fib_codec.specs.declared.frame_layout.FrameLayout.TheVariants.{ReserveOne, ReserveTwo, Whole}
pub use Rattle.fib_codec.specs.declared.modes.Mode.{Mode}
pub use Rattle.fib_codec.specs.declared.modes.Mode.TheVariants.{I, II, III, IV}
pub use Rattle.mux_config.specs.Configuration.{IsComponent, IsSid}
pub use Rattle.mux_config.specs.declared.edit.Edit.{Edit}
pub use Rattle.mux_config.specs.declared.edit.Edit.TheVariants.{AddComponent, AddPacket, AddService, AddSub}
pub use Rattle.mux_config.specs.declared.edit.Edit.TheVariants.{DropComponent, DropPacket, DropService, DropSub}
pub use Rattle.mux_config.specs.declared.edit.Edit.TheVariants.{MoveSub, RateSub}
pub use Rattle.mux_types.specs.declared.numbers.Sid.{Sid}
pub use Rattle.mux_types.specs.declared.parts.Carrier.{Carrier}
pub use Rattle.mux_types.specs.declared.parts.Component.{Component}
pub use Rattle.mux_types.specs.declared.parts.Component.TheVariants.{Sound, Stream}
pub use Rattle.plan_code.specs.Program.{IsCarrier, IsEdit, IsNewPacket, IsNewSub, IsPlan}
pub use Rattle.plan_code.specs.declared.plan.Plan.{Plan}
pub use Rattle.script_front.specs.Alike.{ScriptsHaveTheirOwnTokens, TextsAreOfOneScript, added_by, said_by, unlined}
pub use Rattle.script_front.specs.Block.{Before, Block, and_then, apply, basic, before, block_of, either, forever}
pub use Rattle.script_front.specs.Block.{nothing, repeat, statement_step, stop, when, whole}
pub use Rattle.script_front.specs.BlockReader.{Content, Defined, Passage, Statements, after_blocks, at_end, block_at}
pub use Rattle.script_front.specs.BlockReader.{body_at, content_of, definitions_at, new_if, put, statement_from, stops}
pub use Rattle.script_front.specs.Denoting.{Denotes, HasLexemes, IsNoScript, IsScriptOf, lexemes_in}
pub use Rattle.script_front.specs.Parsing.{HasMore, ReadsBlock, ReadsDefinition, ReadsDefinitions, ReadsItems}
pub use Rattle.script_front.specs.Parsing.{ReadsNone, ReadsNoneAfter, ReadsStatement, ScriptsAreRead, SpellsTree}
pub use Rattle.script_front.specs.Parsing.{bodies}
pub use Rattle.script_front.specs.Printing.{IsPut, Line, block_lines, closing, defined_lines, definition_lines}
pub use Rattle.script_front.specs.Printing.{each_after, header_lines, if_lexemes, indent, items_lines, limits_line}
pub use Rattle.script_front.specs.Printing.{line, line_text, spaced, text_of_lines, tree_lines}
pub use Rattle.script_front.specs.Readers.{Items, act_from, after_items, allowed, allowed_at, alternatives_from}
pub use Rattle.script_front.specs.Readers.{condition_at, dropping, header_at, item_from, item_on, items_at, items_from}
pub use Rattle.script_front.specs.Readers.{items_if, moment_at, packet_of, sub_of, wait_for, waiting, waiting_at}
pub use Rattle.script_front.specs.Spelled.{BlockOn, DefinedOn, HasLines, ItemsOn, act_lexemes, alternative_lexemes}
pub use Rattle.script_front.specs.Spelled.{alternatives_lexemes, begin_lexemes, block_lexemes, braced, carried_lexemes}
pub use Rattle.script_front.specs.Spelled.{carrier_lexemes, condition_lexemes, defined_lexemes, edit_lexemes}
pub use Rattle.script_front.specs.Spelled.{groups_text, header_lexemes, items_lexemes, limits_lexemes, mode_lexemes}
pub use Rattle.script_front.specs.Spelled.{moment_lexemes, name_at, or_lexemes, reserve_lexemes, tree_lexemes}
pub use Rattle.script_front.specs.Spelled.{within_lexemes}
pub use Rattle.script_front.specs.Tree.{Adds, AllFit, AreNamedApart, IsAct, IsCondition, IsInBounds, IsItem, IsScript}
pub use Rattle.script_front.specs.Tree.{Tree, counted, counted_in}
pub use Rattle.script_front.specs.Waits.{AreAlternatives, IsAlternative, IsMoment, is_moment, is_frames, may_follow}
pub use Rattle.script_front.specs.Waits.{moment_frame}
pub use Rattle.script_front.specs.declared.alternatives.Alternative.{Alternative}
pub use Rattle.script_front.specs.declared.moment.MomentForm.TheVariants.{At, Early}
pub use Rattle.script_front.specs.declared.tree.Act.{Act}
pub use Rattle.script_front.specs.declared.tree.Act.TheVariants.{CommitAt, CommitIn, Join, Settle, Until, Wait, WaitAny}
pub use Rattle.script_front.specs.declared.tree.Act.TheVariants.{WaitContact}
pub use Rattle.script_front.specs.declared.tree.Condition.{Condition}
pub use Rattle.script_front.specs.declared.tree.Condition.TheVariants.{Contact, Time}
pub use Rattle.script_front.specs.declared.tree.Item.{Item}
pub use Rattle.script_front.specs.declared.tree.Statement.{Statement}
pub use Rattle.script_front.specs.declared.tree.Statement.TheFolds.{fold-roll-Statement, fold_out-Statement}
pub use Rattle.script_front.specs.declared.tree.Statement.TheFolds.{ind-Statement, map-Statement}
pub use Rattle.script_tokens.proofs.Combining.{below, both_law, either_given, finish, from_one, keyed_given, keyed_law}
pub use Rattle.script_tokens.proofs.Combining.{made_found, made_given, not_after, other_next, values_are_read}
pub use Rattle.script_tokens.proofs.FirstKeywords.{item_again, item_found, item_given, keyword_again, statement_found}
pub use Rattle.script_tokens.proofs.FirstKeywords.{statement_given}
pub use Rattle.script_tokens.proofs.Taking.{after_begins, after_itself, bind_some, next_begins, next_itself, not_next}
pub use Rattle.script_tokens.proofs.Wording.{AreWords, IsWord, decimal_word, hex_word_word, keyword_text, name_word}
pub use Rattle.script_tokens.proofs.Wording.{profile_word_word, sid_word_word, time_word_word}
pub use Rattle.script_tokens.specs.Bytes.{first_position, kind_of, position_after, position_past}
pub use Rattle.script_tokens.specs.First.{act_keyword, component_keyword, edit_keyword, item_keyword, item_of}
pub use Rattle.script_tokens.specs.First.{statement_keyword, statement_of}
pub use Rattle.script_tokens.specs.Keywords.{IsName, letters}
pub use Rattle.script_tokens.specs.Reading.{◌>>=◌, AreOnScriptLines, Input, ReadsAsSpelled, Spelled, after, both, built}
pub use Rattle.script_tokens.specs.Reading.{first_item, first_statement, giving, is_next, keyed, lexemes_of, line_of}
pub use Rattle.script_tokens.specs.Reading.{line_of_left, lines_of}
pub use Rattle.script_tokens.specs.Spelling.{hex_byte, hex_text, level_text, profile_text, sid_text, time_text}
pub use Rattle.script_tokens.specs.Taking.{eid_at, level_at, name_next, number_at, profile_at, sid_at, time_at}
pub use Rattle.script_tokens.specs.Texts.{AreTokens, Piece, atom, blank, brace, comment, script_limits}
pub use Rattle.script_tokens.specs.Texts.{text_of, tokens_of}
pub use Rattle.script_tokens.specs.declared.first_keyword.ActKeyword.{ActKeyword}
pub use Rattle.script_tokens.specs.declared.first_keyword.ItemKeyword.{ItemKeyword}
pub use Rattle.script_tokens.specs.declared.first_keyword.StatementKeyword.{StatementKeyword}
pub use Rattle.script_tokens.specs.declared.token.Kind.TheVariants.{Blank, Brace, LineEnd}
pub use Rattle.script_tokens.specs.declared.token.Token.{Token}
pub use Rattle.std.proofs.Common.{[], ◌*◌, ◌++◌, ◌+◌, ◌-◌, ◌<◌, ◌==◌, ◌^◌, ◌||◌, ◌∙◌, ◌∷◌, ◌≡◌, ◌≢◌, ◌≤◌, ◌⊎◌, Bool}
pub use Rattle.std.proofs.Common.{List, None, Option, Some, add-one, ap, append_assoc, arith, cond, drop, false, get_or}
pub use Rattle.std.proofs.Common.{if◌then◌else◌, inl, inr, is_some, le-ltb, length, length-append, lt-ltb, map, not}
pub use Rattle.std.proofs.Common.{refl, replicate, rules, set, slice_get, slice_range, string_bytes, subst, suc, sym}
pub use Rattle.std.proofs.Common.{take, true, zero, ℕ}
pub use Rattle.std.proofs.Math.Seq.{drop-append_seam, drop-cons, set-append_seam, take-append_seam}
pub use Rattle.std.proofs.lemmas.List.{append-nil, drop_all}
pub use Rattle.std.proofs.lemmas.List.Elements.{All-nil, All-push}
pub use Rattle.std.proofs.lemmas.List.Quantifiers.{all_pairs_push, position-Some}
pub use Rattle.std.proofs.lemmas.Result.{err_from_is_err_and}
pub use Rattle.std.proofs.lemmas.Slice.Eq.{bytes_eq-Decides}
pub use Rattle.std.specs.Fmt.{decimal, digits, format_spec, padded_integral}
pub use Rattle.std.specs.Global.{Global}
pub use Rattle.std.specs.List.{All, AllByRecursion, filter, list_any, position_or_len}
pub use Rattle.std.specs.Prelude.{IfSome, Ok, Result, Vec, codes, position, slice_index_or}
pub use Rattle.std.specs.Str.{bytes_eq}
