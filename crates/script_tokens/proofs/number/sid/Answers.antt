use Rattle.script_tokens.proofs.Words.{◌∙◌}
use Rattle.script_tokens.proofs.Numerals.{eight_bytes}
use Rattle.script_tokens.proofs.number.sid.Goals as goal

pub returns-in_ok-long-in-len8-clause-spells : goal.returns-in_ok-long-in-len8-clause-spells
returns-in_ok-long-in-len8-clause-spells c = eight_bytes c.args.atom.now c.in-len8.len_at_least c.in-len8.len_below
    ∙ c.in_ok-long-in-len8.ensures.spells
