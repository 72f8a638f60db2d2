use Rattle.stream_laws.proofs.Words.{is_of_silence}
use Rattle.stream_laws.proofs.NoFault.{long_runs}
use Rattle.stream_laws.proofs.laws.silence.Goals as goal

pub returns : goal.returns
returns c = long_runs is_of_silence c.findings.ensures
