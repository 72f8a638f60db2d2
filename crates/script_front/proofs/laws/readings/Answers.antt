use Rattle.script_front.proofs.ReadingScripts.{scripts_are_read}
use Rattle.script_front.proofs.laws.readings.Goals as goal

pub returns : goal.returns
returns c = scripts_are_read
