use Rattle.schedule_front.proofs.Words.{◌∙◌, AreOnScriptLines, Input, List, Token, ap, err_from_is_err_and, lexemes_of}
use Rattle.schedule_front.proofs.Words.{lines_of, subst, sym, ℕ}
use Rattle.script_front.proofs.ReadingScripts.{none_spelled as no_script_spelled}
use Rattle.schedule_front.proofs.ReadingSchedules.{none_spelled}
use Rattle.schedule_front.proofs.Sources.{no_tokens}
use Rattle.schedule_front.proofs.parser.parse_source.Goals as goal

pub returns-in_err-tokens-clause-none : goal.returns-in_err-tokens-clause-none
returns-in_err-tokens-clause-none c =
    let r = err_from_is_err_and c.from_residual.result c.from_residual.ensures.1 in
    rw (r.1, r.2) (λ ne. no_tokens _ (c.in_err-tokens.ensures.none ne))

pub returns-in_err-found-clause-none : goal.returns-in_err-found-clause-none
returns-in_err-found-clause-none c =
    let lexemes = ap (λ (i : Input). i.lexemes) c.new-reader.ensures.reads
    ∙ ap (λ (t : List ℕ). lexemes_of t c.deref.result.now) c.as_bytes.ensures.value
    ∙ ap (λ (ts : List Token). lexemes_of c.args.text.now ts) c.deref.ensures.value in
    let on_lines = subst AreOnScriptLines (sym c.deref.ensures.value) c.in_ok-tokens.ensures.lines in
    let lines = c.new-reader.ensures.lines on_lines ∙ ap lines_of c.deref.ensures.value in
    let r = err_from_is_err_and c.from_residual-in_err-found.result c.from_residual-in_err-found.ensures.1 in
    let none = no_script_spelled c.args.text.now c.in_ok-tokens.tokens.items c.new-reader.result
    c.in_ok-tokens.ensures.tokens lexemes lines (c.in_ok-is_schedule.ensures.yes c.if-is_schedule.true) in
    rw (r.1, r.2) (λ ne. (none, c.in_err-found.ensures.none ne))

pub returns-in_err-found-2-clause-none : goal.returns-in_err-found-2-clause-none
returns-in_err-found-2-clause-none c =
    let lexemes = ap (λ (i : Input). i.lexemes) c.new-reader.ensures.reads
    ∙ ap (λ (t : List ℕ). lexemes_of t c.deref.result.now) c.as_bytes.ensures.value
    ∙ ap (λ (ts : List Token). lexemes_of c.args.text.now ts) c.deref.ensures.value in
    let on_lines = subst AreOnScriptLines (sym c.deref.ensures.value) c.in_ok-tokens.ensures.lines in
    let lines = c.new-reader.ensures.lines on_lines ∙ ap lines_of c.deref.ensures.value in
    let r = err_from_is_err_and c.from_residual-in_err-found-2.result c.from_residual-in_err-found-2.ensures.1 in
    let none = none_spelled c.args.text.now c.in_ok-tokens.tokens.items c.new-reader.result
    c.in_ok-tokens.ensures.tokens lexemes lines (c.in_ok-is_schedule.ensures.no c.if-is_schedule.false) in
    rw (r.1, r.2) (λ ne. (c.in_err-found-2.ensures.none ne, none))
