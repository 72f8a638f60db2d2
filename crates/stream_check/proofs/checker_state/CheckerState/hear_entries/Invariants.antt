use Rattle.stream_check.proofs.Words.{entries_sent, length}
use Rattle.stream_check.proofs.Loops.{IsOnItsWay}
use Rattle.stream_check.proofs.checker_state.CheckerState.hear_entries.Given as goal

abbrev pub invariant-loop-entry : goal.invariant-loop-entry
invariant-loop-entry g l =
    IsOnItsWay l.at (entries_sent l.first l.next l.initial.entries) (entries_sent l.first l.next l.entries)
    l.initial.self (g.R.Report.reported l.initial.report) l.self (g.R.Report.reported l.report)

abbrev pub decreases-loop-entry : goal.decreases-loop-entry
decreases-loop-entry g l = length l.entries
