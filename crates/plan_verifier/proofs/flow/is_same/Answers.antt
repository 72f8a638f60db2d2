use Rattle.plan_verifier.proofs.DecidingFlows.{same_services, other_subs}
use Rattle.plan_verifier.proofs.flow.is_same.Goals as goal

pub returns-then-has_same_subs-clause-same : goal.returns-then-has_same_subs-clause-same
returns-then-has_same_subs-clause-same g c =
    same_services _ _ _ _ c.has_same_subs.ensures.value c.has_same_services.ensures c.if-has_same_subs.true

pub returns-else-has_same_subs-clause-same : goal.returns-else-has_same_subs-clause-same
returns-else-has_same_subs-clause-same g c = other_subs _ _ _ c.has_same_subs.ensures.value c.if-has_same_subs.false
