use Rattle.stream_laws.proofs.Words.{is_of_flags, refl}
use Rattle.stream_laws.proofs.NoFault.{free_runs}
use Rattle.stream_laws.proofs.laws.flags.Goals as goal

pub returns : goal.returns
returns c = free_runs is_of_flags (record { appeared = λ name. refl; silent = λ name. refl }) c.findings.ensures
