use Rattle.plan_player.proofs.Words.{◌-◌, ◌≡◌, ◌≤◌, AreQuiet, Delivered, Frame, false, replicate}
use Rattle.plan_player.proofs.frames.play_quiet.Given as goal

abbrev pub invariant-loop-done : goal.invariant-loop-done
invariant-loop-done g l = record {
  within : l.done ≤ l.count;
  plan : l.plan ≡ l.player.code.plan;
  quiet : AreQuiet l.player.code (l.count - l.done) l.player.state;
  delivered : Delivered l.initial.player l.player (replicate l.done Frame) (g.K.Sink.taken l.initial.sink)
      (g.K.Sink.taken l.sink) l.done;
  works : g.K.Sink.has_failed l.sink ≡ false;
}

abbrev pub decreases-loop-done : goal.decreases-loop-done
decreases-loop-done g l = l.count - l.done
