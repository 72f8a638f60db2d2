use Rattle.plan_live.proofs.Words.{◌≡◌, Going, IsPrompt, streams_at, true}
use Rattle.plan_live.proofs.driving.drive.Given as goal

-- the lines so far
abbrev pub invariant-loop-number : goal.invariant-loop-number
invariant-loop-number g l = record {
  going : Going l.options.skip l.initial.player
      (streams_at g.E.Ends.left g.E.Ends.written l.initial.ends)
      (streams_at g.E.Ends.left g.E.Ends.written l.ends) l.player l.made;
  flushed : g.E.Ends.is_flushed l.ends ≡ true;
  prompt : IsPrompt l.options.skip l.initial.player
      (streams_at g.E.Ends.left g.E.Ends.written l.initial.ends)
      (g.E.Ends.moments l.initial.ends) (g.E.Ends.moments l.ends);
}
