use Rattle.stream_laws.proofs.NoFault.{runs_agree}
use Rattle.stream_laws.proofs.laws.agreement.Goals as goal

pub returns : goal.returns
returns c = runs_agree c.findings.ensures
