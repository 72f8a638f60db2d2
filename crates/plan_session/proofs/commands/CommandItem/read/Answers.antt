use Rattle.plan_session.proofs.Words.{refl}
use Rattle.plan_session.proofs.CommandLexemes.{no_command}
use Rattle.plan_session.proofs.WrongCommands.{no_command_left, no_command_begins}
use Rattle.plan_session.proofs.commands.CommandItem.read.Goals as goal

pub returns-in_default-keyword_of-clause-none : goal.returns-in_default-keyword_of-clause-none
returns-in_default-keyword_of-clause-none c = λ s rest is e.
    no_command c.args.reader.now.lexemes c.in-Some.word.now c.in-Some.ensures.rest c.in-Some.ensures.begins
    c.in_default-keyword_of.ensures.none s rest e

pub returns-in_default-clause-wrong : goal.returns-in_default-clause-wrong
returns-in_default-clause-wrong c = no_command_left c.args.reader.now.lexemes _ c.in_default.ensures refl refl

pub returns-in_default-keyword_of-clause-wrong : goal.returns-in_default-keyword_of-clause-wrong
returns-in_default-keyword_of-clause-wrong c =
    no_command_begins _ _ _ _ c.in-Some.ensures.begins c.in_default-keyword_of.ensures.none refl refl
