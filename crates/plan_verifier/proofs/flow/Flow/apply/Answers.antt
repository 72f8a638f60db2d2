use Rattle.plan_verifier.proofs.Finding.{answers_refused}
use Rattle.plan_verifier.proofs.flow.Flow.apply.Goals as goal

pub returns-clause-refused : goal.returns-clause-refused
returns-clause-refused g c = answers_refused _ _ _ _ c.run.ensures.cause
