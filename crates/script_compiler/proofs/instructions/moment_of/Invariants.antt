use Rattle.script_compiler.proofs.Words.{◌≡◌, drop, moment_in}
use Rattle.script_compiler.proofs.instructions.moment_of.Given as goal

abbrev pub invariant-loop-alternative : goal.invariant-loop-alternative
invariant-loop-alternative l = moment_in (drop l.alternative-index l.alternatives) ≡ moment_in l.alternatives
