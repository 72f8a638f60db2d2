use Rattle.plan_timeline.proofs.Words.{◌+◌, ◌≤◌, Went, found}
use Rattle.plan_timeline.proofs.swaps.next_in_step.Given as goal

abbrev pub invariant-loop-at : goal.invariant-loop-at
invariant-loop-at g l = record {
  room : l.at.frame + l.at.left ≤ 18446744073709551615;
  went : Went l.initial.player l.initial.at l.player l.at (found l.swap);
}

abbrev pub decreases-loop-at : goal.decreases-loop-at
decreases-loop-at g l = l.at.left
