use Rattle.plan_live.proofs.Words.{◌≡◌, Went, events_of, streams_at, take}
use Rattle.plan_live.proofs.frames.play_steps.Given as goal

-- the steps so far
abbrev pub invariant-loop-step : goal.invariant-loop-step
invariant-loop-step g l = record {
  went : Went l.options.skip l.initial.player l.initial.made (events_of (take l.step-index l.steps)) l.player l.made
      (streams_at g.E.Ends.left g.E.Ends.written l.initial.ends)
      (streams_at g.E.Ends.left g.E.Ends.written l.ends);
  moments : g.E.Ends.moments l.ends ≡ g.E.Ends.moments l.initial.ends;
}
