use Rattle.stream_monitor.proofs.OneOutcome.{one_outcome}
use Rattle.stream_monitor.proofs.laws.outcomes.Goals as goal

pub returns : goal.returns
returns c = one_outcome
