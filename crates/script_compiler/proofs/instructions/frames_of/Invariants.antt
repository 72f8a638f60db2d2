use Rattle.script_compiler.proofs.Words.{◌≡◌, drop, frames_in}
use Rattle.script_compiler.proofs.instructions.frames_of.Given as goal

abbrev pub invariant-loop-alternative : goal.invariant-loop-alternative
invariant-loop-alternative l = frames_in (drop l.alternative-index l.alternatives) ≡ frames_in l.alternatives
