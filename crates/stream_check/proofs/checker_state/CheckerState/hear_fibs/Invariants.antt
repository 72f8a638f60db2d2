use Rattle.stream_check.proofs.Words.{IsLater, Reading, fibs_sent, frame_sent, length, map}
use Rattle.stream_check.proofs.Loops.{IsOnItsWay}
use Rattle.stream_check.proofs.checker_state.CheckerState.hear_fibs.Given as goal

abbrev pub invariant-loop-fib : goal.invariant-loop-fib
invariant-loop-fib g l =
    IsLater l.initial.self l.self
    × ((r : Reading) → IsOnItsWay l.at (frame_sent (map r.read l.fibs)) (fibs_sent l.is_first (map r.read l.rest))
    l.initial.self (g.R.Report.reported l.initial.report) l.self (g.R.Report.reported l.report))

abbrev pub decreases-loop-fib : goal.decreases-loop-fib
decreases-loop-fib g l = length l.rest
