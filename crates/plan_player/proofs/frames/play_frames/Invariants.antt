use Rattle.plan_player.proofs.Words.{◌-◌, ◌≡◌, ◌≤◌, Delivered, Frame, false, replicate}
use Rattle.plan_player.proofs.frames.play_frames.Given as goal

abbrev pub invariant-loop-done : goal.invariant-loop-done
invariant-loop-done g l = record {
  within : l.done ≤ l.count;
  delivered : Delivered l.initial.player l.player (replicate l.done Frame) (g.K.Sink.taken l.initial.sink)
      (g.K.Sink.taken l.sink) l.done;
  works : g.K.Sink.has_failed l.sink ≡ false;
}

abbrev pub decreases-loop-done : goal.decreases-loop-done
decreases-loop-done g l = l.count - l.done
