use Rattle.schedule_verifier.proofs.Holding.{HoldTo}
use Rattle.schedule_verifier.proofs.combinations.each_can_hold.Given as goal

abbrev pub invariant-loop-index : goal.invariant-loop-index
invariant-loop-index l = HoldTo l.schedule l.sets l.index
