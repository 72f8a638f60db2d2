-- The words of the proofs, passed on from the modules that define them.
pub use Rattle.mux_config.specs.Configuration.{IsSid}
pub use Rattle.mux_eep.specs.Sizes.{Profile}
pub use Rattle.mux_eep.specs.declared.sizes.EepSet.{EepSet}
pub use Rattle.mux_eep.specs.declared.sizes.EepSet.TheVariants.{A, B}
pub use Rattle.mux_types.specs.declared.numbers.Sid.{Sid}
pub use Rattle.mux_types.specs.declared.numbers.Sid.TheVariants.{Long, Short}
pub use Rattle.script_tokens.specs.Bytes.{first_position, kind_numbered, kind_of, position_after, position_past}
pub use Rattle.script_tokens.specs.Bytes.{token_at}
pub use Rattle.script_tokens.specs.Keywords.{IsName, IsNoKeyword, Lexeme, has_name_letters, is_lower, is_name_byte}
pub use Rattle.script_tokens.specs.Keywords.{keywords, letters, lexeme_among, text, the, word_of}
pub use Rattle.script_tokens.specs.Lexing.{InOrder, IsQuiet, Pushes, added, atom_ended, fits, inside_after, is_bad}
pub use Rattle.script_tokens.specs.Lexing.{lexed, made, tokens_before}
pub use Rattle.script_tokens.specs.Reading.{◌>>=◌, AreLastOf, AreOnScriptLines, AreWithin, BeginsWith}
pub use Rattle.script_tokens.specs.Reading.{FirstKeywordsAreFound, Input, Reads, ReadsAsSpelled, Spelled, both, built}
pub use Rattle.script_tokens.specs.Reading.{either, first_item, first_statement, giving, is_next, key_of, keyed}
pub use Rattle.script_tokens.specs.Reading.{lexemes_of, line_of_left, lines_of, shown_lines}
pub use Rattle.script_tokens.specs.Scanning.{FindsFirst, FindsNext, Fits, IsPlaceIn, Scan, role_of, tokens_left}
pub use Rattle.script_tokens.specs.Spelling.{hex_byte, hex_digit, hex_long, hex_text, level_text, profile_text}
pub use Rattle.script_tokens.specs.Spelling.{set_letter, sid_text, time_text, two_digits}
pub use Rattle.script_tokens.specs.Taking.{ValuesAreRead, digit_of, four_of, is_bare, is_eid, is_name, is_number}
pub use Rattle.script_tokens.specs.Taking.{is_profile, is_sid, is_time, number_at, number_of, profile_of, set_of}
pub use Rattle.script_tokens.specs.Taking.{sid_of, time_of, two_of}
pub use Rattle.script_tokens.specs.Texts.{AreLetters, AreText, AreTokens, CanPrecede, HaveNoLineEnd, IsCutInto, Piece}
pub use Rattle.script_tokens.specs.Texts.{TextsAreCut, TokensFit, atom, blank, brace, comment, script_limits, text_of}
pub use Rattle.script_tokens.specs.Texts.{tokens_of}
pub use Rattle.script_tokens.specs.declared.fault.ScriptFault.{ScriptFault}
pub use Rattle.script_tokens.specs.declared.fault.ScriptFault.TheVariants.{Byte, Limit, Memory}
pub use Rattle.script_tokens.specs.declared.keyword.Keyword.{Keyword}
pub use Rattle.script_tokens.specs.declared.keyword.Keyword.TheVariants.{Address, Apply, At, Audio, Begin, Budget}
pub use Rattle.script_tokens.specs.declared.keyword.Keyword.TheVariants.{Carry, CloseBrace, Closed, Commit, Component}
pub use Rattle.script_tokens.specs.declared.keyword.Keyword.TheVariants.{Contact, Data, Define, Drop, Early, Eep, Else}
pub use Rattle.script_tokens.specs.declared.keyword.Keyword.TheVariants.{End, Ensemble, Forever, Groups, If, In, Join}
pub use Rattle.script_tokens.specs.declared.keyword.Keyword.TheVariants.{Mode, Move, Notice, Open, OpenBrace, Or}
pub use Rattle.script_tokens.specs.declared.keyword.Keyword.TheVariants.{Packet, Period, Rate, Raw, Repeat, Reserve}
pub use Rattle.script_tokens.specs.declared.keyword.Keyword.TheVariants.{Service, Settle, Sub, Time, To, TypeWord}
pub use Rattle.script_tokens.specs.declared.keyword.Keyword.TheVariants.{Until, Wait, Schedule, Overlay, While, And}
pub use Rattle.script_tokens.specs.declared.token.Inside.{Inside}
pub use Rattle.script_tokens.specs.declared.token.Inside.TheVariants.{Atom, Comment, Nothing}
pub use Rattle.script_tokens.specs.declared.token.Kind.{Kind}
pub use Rattle.script_tokens.specs.declared.token.Kind.TheVariants.{Bad, Blank, Brace, Hash, Letter, LineEnd}
pub use Rattle.script_tokens.specs.declared.token.Limits.{Limits}
pub use Rattle.script_tokens.specs.declared.token.Place.{Place}
pub use Rattle.script_tokens.specs.declared.token.Token.{Token}
pub use Rattle.std.proofs.Common.{[], ◌%◌, ◌&&◌, ◌*◌, ◌++◌, ◌+◌, ◌-◌, ◌/◌, ◌<◌, ◌==◌, ◌^◌, ◌||◌, ◌∙◌, ◌∷◌, ◌≡◌, ◌≢◌}
pub use Rattle.std.proofs.Common.{◌≤◌, ◌⊎◌, Bool, List, Ok, Some, add-one, ap, append_assoc, arith, cond, drop, false}
pub use Rattle.std.proofs.Common.{get_or, if◌then◌else◌, inl, inr, le-ltb, length, lt-ltb, min, nat_le, refl, rules}
pub use Rattle.std.proofs.Common.{slice_get, subst, suc, sym, take, true, zero, ℕ}
pub use Rattle.std.proofs.Math.Nat.{min-eq_left, pow-le-pow_right, pow-succ'}
pub use Rattle.std.proofs.Math.Seq.{drop-cons}
pub use Rattle.std.proofs.lemmas.Bool.{and_parts, cases_lt, eqb-true, false≢true, le-leb}
pub use Rattle.std.proofs.lemmas.Bool.Decides.{nat_tests}
pub use Rattle.std.proofs.lemmas.Fmt.{decimal-digits_value, decimal_injective, decimal_nonempty, digits_decimal}
pub use Rattle.std.proofs.lemmas.Fmt.{digits_value-decimal, first_decimal, length-decimal-le}
pub use Rattle.std.proofs.lemmas.List.{append-nil, drop_all, drop_at, take_at}
pub use Rattle.std.proofs.lemmas.Result.{err_from_is_err_and}
pub use Rattle.std.proofs.lemmas.Slice.Eq.{bytes_eq-Decides}
pub use Rattle.std.specs.Char.{is_ascii_digit}
pub use Rattle.std.specs.Fmt.{decimal}
pub use Rattle.std.specs.Prelude.{Err, IfSome, None, OnErr, Option, Result, slice_index_or}
pub use Rattle.std.specs.Str.{IsUtf8, all_ascii_digits, bytes_eq}
