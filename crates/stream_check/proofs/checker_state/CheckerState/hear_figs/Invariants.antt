use Rattle.stream_check.proofs.Words.{figs_sent, length}
use Rattle.stream_check.proofs.Loops.{IsOnItsWay}
use Rattle.stream_check.proofs.checker_state.CheckerState.hear_figs.Given as goal

abbrev pub invariant-loop-fig : goal.invariant-loop-fig
invariant-loop-fig g l =
    IsOnItsWay l.at (figs_sent l.first l.initial.figs) (figs_sent l.is_first l.figs) l.initial.self
    (g.R.Report.reported l.initial.report) l.self (g.R.Report.reported l.report)

abbrev pub decreases-loop-fig : goal.decreases-loop-fig
decreases-loop-fig g l = length l.figs
