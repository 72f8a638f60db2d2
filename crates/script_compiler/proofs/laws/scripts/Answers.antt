use Rattle.script_compiler.proofs.Playing.{scripts_play}
use Rattle.script_compiler.proofs.laws.scripts.Goals as goal

pub returns : goal.returns
returns c = scripts_play
