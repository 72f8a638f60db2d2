use Rattle.plan_session.proofs.Words.{IsCommand, command_lexemes}
use Rattle.plan_session.proofs.FaultLaws.{has_one_fault}
use Rattle.plan_session.proofs.laws.one_command_fault.Goals as goal

pub returns : goal.returns
returns c = has_one_fault command_lexemes IsCommand
