use Rattle.stream_laws.proofs.Words.{is_of_times, refl}
use Rattle.stream_laws.proofs.NoFault.{free_runs}
use Rattle.stream_laws.proofs.laws.announcements.Goals as goal

pub returns : goal.returns
returns c = free_runs is_of_times (record { appeared = λ name. refl; silent = λ name. refl }) c.findings.ensures
