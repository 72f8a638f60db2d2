use Rattle.plan_session.proofs.CommandLexemes.{one_command}
use Rattle.plan_session.proofs.commands.CommandItem.uniqueness.Goals as goal

pub returns-clause-unique : goal.returns-clause-unique
returns-clause-unique c = one_command
