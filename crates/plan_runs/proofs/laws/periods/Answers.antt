use Rattle.plan_runs.proofs.Periods.{periods_are_whole}
use Rattle.plan_runs.proofs.Right.{page_laws}
use Rattle.plan_runs.proofs.laws.periods.Goals as goal

pub returns : goal.returns
returns c = periods_are_whole page_laws
