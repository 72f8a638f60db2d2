use Rattle.plan_runs.proofs.Bursts.{bursts_are_one}
use Rattle.plan_runs.proofs.laws.bursts.Goals as goal

pub returns : goal.returns
returns c = bursts_are_one
