use Rattle.plan_runs.proofs.Headline.{frames_can_be_sent}
use Rattle.plan_runs.proofs.laws.pages_in_turn.Goals as goal

pub returns : goal.returns
returns c = frames_can_be_sent
