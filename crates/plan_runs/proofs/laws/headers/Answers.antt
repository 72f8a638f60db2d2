use Rattle.plan_runs.proofs.Right.{page_laws}
use Rattle.plan_runs.proofs.Headline.{headers_are_sent}
use Rattle.plan_runs.proofs.laws.headers.Goals as goal

pub returns : goal.returns
returns c = headers_are_sent page_laws
