use Rattle.script_tokens.proofs.Words.{◌∙◌, Input, ap, line_of_left, sym}
use Rattle.script_tokens.proofs.Ending.{last_line}
use Rattle.script_tokens.proofs.token_reader.TokenReader.last_line.Goals as goal

pub returns-in-Some : goal.returns-in-Some
returns-in-Some c =
    c.shown_line.ensures ∙ last_line c.self.inside.all.now c.in-Some.last.now (sym c.in-Some.ensures.value)
    ∙ ap (λ (i : Input). line_of_left i.lines 1) c.self.view_is
