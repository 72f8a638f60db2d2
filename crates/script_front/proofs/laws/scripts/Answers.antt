use Rattle.script_front.proofs.ReadingScripts.{scripts_alike}
use Rattle.script_front.proofs.laws.scripts.Goals as goal

pub returns : goal.returns
returns c = scripts_alike
