use Rattle.plan_runs.proofs.Joined.{runs_join}
use Rattle.plan_runs.proofs.laws.runs.Goals as goal

pub returns : goal.returns
returns c = runs_join
