use Rattle.script_tokens.proofs.Atoms.{told, no_name}
use Rattle.script_tokens.proofs.Wording.{name_letters_of, name_utf8}
use Rattle.script_tokens.proofs.Taking.{no_name_next}
use Rattle.script_tokens.proofs.values.name.Goals as goal

pub returns-in_err-atom-clause-other : goal.returns-in_err-atom-clause-other
returns-in_err-atom-clause-other c =
    told c.from_residual.result
    (no_name_next c.args.reader.now.lexemes (λ name rest is e.
    c.in_err-atom.ensures.none name rest (name_letters_of name is) e))

pub returns-then-not-is_name-clause-other : goal.returns-then-not-is_name-clause-other
returns-then-not-is_name-clause-other c =
    no_name_next c.args.reader.now.lexemes
    (no_name c.args.reader.now.lexemes c.in_ok-atom.atom.now c.in_ok-atom.ensures.begins
    (c.is_name.ensures.none c.if-not-is_name.true))

pub returns-in-Err-clause-other : goal.returns-in-Err-clause-other
returns-in-Err-clause-other c =
    absurd (c.in-Err.ensures.cases.0 (name_utf8 _ (c.is_name.ensures.formed c.if-not-is_name.false)))
