use Rattle.plan_live.proofs.Words.{◌≡◌}
use Rattle.plan_live.proofs.frames.report_notes.Given as goal

-- messages leave the input and the output as they are
abbrev pub invariant-loop-note : goal.invariant-loop-note
invariant-loop-note g l = record {
  moments : g.E.Ends.moments l.ends ≡ g.E.Ends.moments l.initial.ends;
  written : g.E.Ends.written l.ends ≡ g.E.Ends.written l.initial.ends;
  left : g.E.Ends.left l.ends ≡ g.E.Ends.left l.initial.ends;
}
