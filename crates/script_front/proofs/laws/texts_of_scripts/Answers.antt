use Rattle.script_front.proofs.ReadingScripts.{one_script}
use Rattle.script_front.proofs.laws.texts_of_scripts.Goals as goal

pub returns : goal.returns
returns c = one_script
