use Rattle.script_tokens.proofs.Words.{◌∙◌, ◌∷◌, List, ap, arith, ℕ}
use Rattle.script_tokens.proofs.Atoms.{decimal_below, decimal_above}
use Rattle.script_tokens.proofs.Taking.{onward, number_next}
use Rattle.script_tokens.proofs.values.decimal.Goals as goal

pub returns-then-value-low-clause-none : goal.returns-then-value-low-clause-none
returns-then-value-low-clause-none c = λ n rest from to small e.
    let b = c.in_ok-atom.ensures.begins in
    let found = c.in-Some.ensures.found in
    decimal_below c.args.reader.now.lexemes c.in-Some.value n c.args.low b.rest rest found.1 small c.if-value-low.true
    from (b.begins ∙ ap (λ (w : List ℕ). w ∷ b.rest) found.0) e

pub returns-then-value-high-clause-none : goal.returns-then-value-high-clause-none
returns-then-value-high-clause-none c = λ n rest from to small e.
    let b = c.in_ok-atom.ensures.begins in
    let found = c.in-Some.ensures.found in
    decimal_above c.args.reader.now.lexemes c.in-Some.value n c.args.high b.rest rest found.1 small c.if-value-high.true
    to (b.begins ∙ ap (λ (w : List ℕ). w ∷ b.rest) found.0) e

pub returns-clause-read : goal.returns-clause-read
returns-clause-read c =
    let found = c.in-Some.ensures.found in
    let next = number_next c.args.low c.args.high c.in-Some.value c.in_ok-atom.atom.now c.args.reader.now.lexemes
    c.in_ok-atom.ensures.begins found.0 found.1 (omega arith) (omega arith) in (
      onward _ c.in-Some.value c.args.reader.now.lexemes c.advance.new.self.lexemes next c.advance.ensures.lexemes,
      c.advance.ensures.lines,
    )
