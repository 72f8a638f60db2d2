use Rattle.plan_session.proofs.Words.{IsCommand, command_lexemes}
use Rattle.plan_session.proofs.ItemTexts.{holds_one_list}
use Rattle.plan_session.proofs.CommandLexemes.{one_command, some_words}
use Rattle.plan_session.proofs.laws.one_list_of_commands.Goals as goal

pub returns : goal.returns
returns c = holds_one_list command_lexemes IsCommand one_command some_words
