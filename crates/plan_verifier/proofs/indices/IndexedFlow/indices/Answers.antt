use Rattle.plan_verifier.proofs.Words.{configuration_at, refl}
use Rattle.plan_verifier.proofs.Moving.{is_there}
use Rattle.plan_verifier.proofs.indices.IndexedFlow.indices.Goals as goal

pub returns-clause-at : goal.returns-clause-at
returns-clause-at c = λ table within. (
  is_there table c.args.self.now.current (configuration_at table c.args.self.now.current) within.0 refl,
  is_there table c.args.self.now.next (configuration_at table c.args.self.now.next) within.1 refl,
)
