use Rattle.stream_monitor.proofs.Framings.{one_framing}
use Rattle.stream_monitor.proofs.laws.framing.Goals as goal

pub returns : goal.returns
returns c = one_framing
