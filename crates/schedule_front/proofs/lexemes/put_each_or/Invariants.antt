use Rattle.schedule_front.proofs.Words.{string_bytes}
use Rattle.schedule_front.proofs.PrintedConditions.{OrPrinted}
use Rattle.schedule_front.proofs.lexemes.put_each_or.Given as goal

abbrev pub invariant-loop-tests : goal.invariant-loop-tests
invariant-loop-tests l = OrPrinted (string_bytes l.fn.out) (string_bytes l.out) l.alternatives l.tests-index
