use Rattle.script_compiler.proofs.Words.{◌≡◌, first_counters}
use Rattle.script_compiler.proofs.labels.first_counters.Given as goal

abbrev pub invariant-loop-number : goal.invariant-loop-number
invariant-loop-number l = l.set ≡ first_counters l.number
