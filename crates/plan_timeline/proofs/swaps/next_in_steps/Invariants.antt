use Rattle.plan_timeline.proofs.Words.{◌+◌, ◌<◌, ◌≡◌, ◌≤◌, IfSome, Plays, bytes_left, found}
use Rattle.std.specs.Prelude.{IfNone}
use Rattle.plan_timeline.proofs.swaps.next_in_steps.Given as goal

abbrev pub invariant-loop-swap : goal.invariant-loop-swap
invariant-loop-swap g l = record {
  room : l.at.frame + l.at.left ≤ 18446744073709551615;
  forward : l.initial.at.frame ≤ l.at.frame;
  onward : IfSome l.swap (λ w. l.initial.at.frame < l.at.frame);
  end : IfNone l.swap (l.at.left ≡ 0);
  plays : Plays l.initial.player l.initial.at l.initial.steps l.player l.at l.steps (found l.swap);
}

abbrev pub decreases-loop-swap : goal.decreases-loop-swap
decreases-loop-swap g l = bytes_left l.steps
