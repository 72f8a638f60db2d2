use Rattle.schedule_front.proofs.Words.{string_bytes}
use Rattle.schedule_front.proofs.PrintedConditions.{AndPrinted}
use Rattle.schedule_front.proofs.lexemes.put_each_and.Given as goal

abbrev pub invariant-loop-test : goal.invariant-loop-test
invariant-loop-test l = AndPrinted (string_bytes l.fn.out) (string_bytes l.out) l.tests l.test-index
