use Rattle.script_compiler.proofs.Scenes.{scenes_suffice}
use Rattle.script_compiler.proofs.laws.scenes.Goals as goal

pub returns : goal.returns
returns c = scenes_suffice
