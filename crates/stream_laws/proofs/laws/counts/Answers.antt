use Rattle.stream_laws.proofs.Words.{page_laws}
use Rattle.stream_laws.proofs.Counting.{runs_are_counted}
use Rattle.stream_laws.proofs.laws.counts.Goals as goal

pub returns : goal.returns
returns c = runs_are_counted page_laws
