use Rattle.stream_laws.proofs.Framing.{runs_are_framed}
use Rattle.stream_laws.proofs.laws.frames.Goals as goal

pub returns : goal.returns
returns c = runs_are_framed c.one_list.ensures c.ensemble.ensures c.headline.ensures c.runs.ensures
