use Rattle.plan_session.proofs.StepLexemes.{one_step}
use Rattle.plan_session.proofs.events.StepItem.uniqueness.Goals as goal

pub returns-clause-unique : goal.returns-clause-unique
returns-clause-unique c = one_step
