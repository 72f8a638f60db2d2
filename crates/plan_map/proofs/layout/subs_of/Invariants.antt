use Rattle.plan_map.proofs.Places.{SubsSoFar}
use Rattle.plan_map.proofs.layout.subs_of.Given as goal

abbrev pub invariant-loop-row : goal.invariant-loop-row
invariant-loop-row l = SubsSoFar l.subs.items l.rows l.row-index
