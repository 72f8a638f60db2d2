use Rattle.stream_laws.proofs.Words.{is_of_repetition, refl}
use Rattle.stream_laws.proofs.NoFault.{free_runs}
use Rattle.stream_laws.proofs.laws.repetition.Goals as goal

pub returns : goal.returns
returns c = free_runs is_of_repetition (record { appeared = λ name. refl; silent = λ name. refl }) c.findings.ensures
