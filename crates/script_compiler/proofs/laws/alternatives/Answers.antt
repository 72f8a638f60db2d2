use Rattle.script_compiler.proofs.KeptAlternatives.{alternatives_are_kept}
use Rattle.script_compiler.proofs.laws.alternatives.Goals as goal

pub returns : goal.returns
returns c = alternatives_are_kept
