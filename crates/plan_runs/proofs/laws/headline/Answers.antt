use Rattle.plan_runs.proofs.Headline.{headline_holds}
use Rattle.plan_runs.proofs.Right.{page_laws}
use Rattle.plan_runs.proofs.laws.headline.Goals as goal

pub returns : goal.returns
returns c = headline_holds page_laws
