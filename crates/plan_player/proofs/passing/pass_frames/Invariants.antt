use Rattle.plan_player.proofs.Words.{◌-◌, ◌≡◌, ◌≤◌, AreQuiet, Frame, played, replicate}
use Rattle.plan_player.proofs.passing.pass_frames.Given as goal

abbrev pub invariant-loop-done : goal.invariant-loop-done
invariant-loop-done g l = record {
  within : l.done ≤ l.quiet;
  plan : l.plan ≡ l.player.code.plan;
  still : AreQuiet l.player.code (l.quiet - l.done) l.player.state;
  state : l.player ≡ played l.initial.player (replicate l.done Frame);
}

abbrev pub decreases-loop-done : goal.decreases-loop-done
decreases-loop-done g l = l.quiet - l.done
