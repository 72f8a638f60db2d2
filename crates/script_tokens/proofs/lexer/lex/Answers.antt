use Rattle.script_tokens.proofs.Words.{err_from_is_err_and, script_limits}
use Rattle.script_tokens.proofs.Pieces.{not_cut}
use Rattle.script_tokens.proofs.lexer.lex.Goals as goal

pub returns-in_err-tokens-clause-none : goal.returns-in_err-tokens-clause-none
returns-in_err-tokens-clause-none c =
    let p = err_from_is_err_and c.from_residual.result c.from_residual.ensures.1 in
    rw (p.1, p.2) (λ ne tokens h. not_cut script_limits c.args.text.now c.in_err-tokens.field-0.0
    (c.in_err-tokens.ensures.fault ne) tokens h.1)
