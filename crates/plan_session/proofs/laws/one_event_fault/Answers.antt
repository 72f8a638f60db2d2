use Rattle.plan_session.proofs.Words.{IsStep, step_lexemes}
use Rattle.plan_session.proofs.FaultLaws.{has_one_fault}
use Rattle.plan_session.proofs.laws.one_event_fault.Goals as goal

pub returns : goal.returns
returns c = has_one_fault step_lexemes IsStep
