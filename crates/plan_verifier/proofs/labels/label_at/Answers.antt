use Rattle.plan_verifier.proofs.Answering.{label_within}
use Rattle.plan_verifier.proofs.labels.label_at.Goals as goal

pub returns-clause-within : goal.returns-clause-within
returns-clause-within c = label_within _ _ _ c.label_at.ensures.formed c.label_at.ensures.value
