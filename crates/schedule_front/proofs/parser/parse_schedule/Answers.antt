use Rattle.schedule_front.proofs.Words.{◌∙◌, AreOnScriptLines, Input, List, Token, ap, err_from_is_err_and}
use Rattle.schedule_front.proofs.Words.{first_position, lexemes_of, lines_of, subst, sym, tokens_of, ℕ}
use Rattle.schedule_front.proofs.Denoting.{is_schedule, are_tokens}
use Rattle.schedule_front.proofs.ReadingSchedules.{schedule_given, none_spelled}
use Rattle.schedule_front.proofs.parser.parse_schedule.Goals as goal

pub returns-clause-schedule : goal.returns-clause-schedule
returns-clause-schedule c =
    let lexemes = ap (λ (i : Input). i.lexemes) c.new-reader.ensures.reads
    ∙ ap (λ (t : List ℕ). lexemes_of t c.deref.result.now) c.as_bytes.ensures.value
    ∙ ap (λ (ts : List Token). lexemes_of c.args.text.now ts) c.deref.ensures.value in
    let on_lines = subst AreOnScriptLines (sym c.deref.ensures.value) c.in_ok-tokens.ensures.lines in
    let lines = c.new-reader.ensures.lines on_lines ∙ ap lines_of c.deref.ensures.value in
    let spelled = (schedule_given c.new-reader.result c.in_ok-found.found c.in_ok-found.ensures.read).1 in
    is_schedule c.args.text.now c.in_ok-tokens.tokens.items c.in_ok-found.found c.in_ok-tokens.ensures.tokens
    (sym lexemes ∙ spelled.spells) (rw (← lines) spelled.lined)

pub returns-in_err-tokens-clause-none : goal.returns-in_err-tokens-clause-none
returns-in_err-tokens-clause-none c =
    let r = err_from_is_err_and c.from_residual.result c.from_residual.ensures.1 in
    rw (r.1, r.2) (λ ne t is s. c.in_err-tokens.ensures.none ne (tokens_of first_position s.pieces) (are_tokens _ t s))

pub returns-in_err-found-clause-none : goal.returns-in_err-found-clause-none
returns-in_err-found-clause-none c =
    let lexemes = ap (λ (i : Input). i.lexemes) c.new-reader.ensures.reads
    ∙ ap (λ (t : List ℕ). lexemes_of t c.deref.result.now) c.as_bytes.ensures.value
    ∙ ap (λ (ts : List Token). lexemes_of c.args.text.now ts) c.deref.ensures.value in
    let on_lines = subst AreOnScriptLines (sym c.deref.ensures.value) c.in_ok-tokens.ensures.lines in
    let lines = c.new-reader.ensures.lines on_lines ∙ ap lines_of c.deref.ensures.value in
    let r = err_from_is_err_and c.from_residual-in_err-found.result c.from_residual-in_err-found.ensures.1 in
    rw (r.1, r.2) (λ ne. none_spelled c.args.text.now c.in_ok-tokens.tokens.items c.new-reader.result
    c.in_ok-tokens.ensures.tokens lexemes lines (c.in_err-found.ensures.none ne))
