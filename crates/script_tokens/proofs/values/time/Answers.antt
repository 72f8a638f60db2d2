use Rattle.script_tokens.proofs.Taking.{onward, time_next}
use Rattle.script_tokens.proofs.values.time.Goals as goal

pub returns-in-Some : goal.returns-in-Some
returns-in-Some c =
    let next = time_next c.in-Some.time c.in_ok-atom.atom.now c.args.reader.now.lexemes c.in_ok-atom.ensures.begins
    c.in-Some.ensures.spells c.in-Some.ensures.range in (
      onward _ c.in-Some.time c.args.reader.now.lexemes c.advance.new.self.lexemes next c.advance.ensures.lexemes,
      c.advance.ensures.lines,
    )
