use Rattle.script_config.proofs.Words.{drop}
use Rattle.script_config.proofs.Named.{LeadsOn}
use Rattle.script_config.proofs.ensembles.eid_after.Given as goal

abbrev pub invariant-loop-fib : goal.invariant-loop-fib
invariant-loop-fib l = LeadsOn (drop l.fib-index l.fibs) l.eid l.fibs l.fn.before
