use Rattle.schedule_verifier.proofs.Holding.{AscendTo}
use Rattle.schedule_verifier.proofs.combinations.ascend.Given as goal

abbrev pub invariant-loop-index : goal.invariant-loop-index
invariant-loop-index l = AscendTo l.sets l.index
