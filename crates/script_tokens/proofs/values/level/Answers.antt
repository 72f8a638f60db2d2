use Rattle.script_tokens.proofs.Atoms.{told}
use Rattle.script_tokens.proofs.Keys.{no_level}
use Rattle.script_tokens.proofs.values.level.Goals as goal

pub returns-in_err-expect-clause-none : goal.returns-in_err-expect-clause-none
returns-in_err-expect-clause-none c =
    told c.from_residual.result
    (no_level c.args.reader.now.lexemes (λ rest e. c.is_next.ensures.none c.if-is_next.false rest e)
    (λ rest e. c.in_err-expect.ensures.none rest e))
