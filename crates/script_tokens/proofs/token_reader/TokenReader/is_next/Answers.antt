use Rattle.script_tokens.proofs.Taking.{next_is}
use Rattle.script_tokens.proofs.token_reader.TokenReader.is_next.Goals as goal

pub returns-clause-is : goal.returns-clause-is
returns-clause-is c = next_is c.finds.result c.args.keyword c.args.self.now.lexemes c.finds.ensures.begins
    c.finds.ensures.none
