use Rattle.plan_live.proofs.Words.{◌-◌, ◌≡◌, ◌≤◌, Frame, Went, replicate, streams_at}
use Rattle.plan_live.proofs.frames.play_frames.Given as goal

-- the frames so far
abbrev pub invariant-loop-done : goal.invariant-loop-done
invariant-loop-done g l = record {
  within : l.done ≤ l.count;
  went : Went l.options.skip l.initial.player l.initial.made (replicate l.done Frame) l.player l.made
      (streams_at g.E.Ends.left g.E.Ends.written l.initial.ends)
      (streams_at g.E.Ends.left g.E.Ends.written l.ends);
  moments : g.E.Ends.moments l.ends ≡ g.E.Ends.moments l.initial.ends;
}

abbrev pub decreases-loop-done : goal.decreases-loop-done
decreases-loop-done g l = l.count - l.done
