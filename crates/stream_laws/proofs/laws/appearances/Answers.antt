use Rattle.stream_laws.proofs.Words.{is_of_appearance}
use Rattle.stream_laws.proofs.NoFault.{long_runs}
use Rattle.stream_laws.proofs.laws.appearances.Goals as goal

pub returns : goal.returns
returns c = long_runs is_of_appearance c.findings.ensures
