use Rattle.mux_config.proofs.FaultsTold.{faults_tell}
use Rattle.mux_config.proofs.laws.faults.Goals as goal

pub returns : goal.returns
returns c = faults_tell
