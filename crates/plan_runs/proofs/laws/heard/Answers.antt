use Rattle.plan_runs.proofs.LastSent.{heard_was_sent}
use Rattle.plan_runs.proofs.laws.heard.Goals as goal

pub returns : goal.returns
returns c = heard_was_sent
