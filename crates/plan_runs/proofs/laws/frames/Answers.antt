use Rattle.plan_runs.proofs.Headline.{frames_are_right}
use Rattle.plan_runs.proofs.Right.{page_laws}
use Rattle.plan_runs.proofs.laws.frames.Goals as goal

pub returns : goal.returns
returns c = frames_are_right page_laws
