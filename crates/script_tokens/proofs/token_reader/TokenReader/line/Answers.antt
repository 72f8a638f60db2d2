use Rattle.script_tokens.proofs.Words.{◌∙◌, Input, ap, length, line_of_left, sym}
use Rattle.script_tokens.proofs.Ending.{next_line}
use Rattle.script_tokens.proofs.token_reader.TokenReader.line.Goals as goal

pub returns-in-Some : goal.returns-in-Some
returns-in-Some c = λ some.
    c.shown_line.ensures ∙ next_line c.self.inside.text.now c.self.inside.all.now c.self.inside.tokens.now
    c.in-Some.first.now c.self.invariant.2 (sym c.in-Some.ensures.value)
    ∙ ap (λ (i : Input). line_of_left i.lines (length i.lexemes)) c.self.view_is
