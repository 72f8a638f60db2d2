use Rattle.stream_laws.proofs.NoFault.{runs_are_faultless}
use Rattle.stream_laws.proofs.laws.no_false_alarm.Goals as goal

pub returns : goal.returns
returns c = runs_are_faultless c.findings.ensures
