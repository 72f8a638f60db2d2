-- The findings so far were told.
use Rattle.stream_monitor.proofs.Words.{◌++◌, ◌≡◌, Line, List, LogsLines, finding_lines, length}
use Rattle.stream_monitor.proofs.check.tell_findings.Given as goal

abbrev pub invariant-loop-finding : goal.invariant-loop-finding
invariant-loop-finding g l =
    (log : List Line) × LogsLines (g.M.Monitor.log l.initial.monitor) (g.M.Monitor.log l.monitor) log
    × (log ++ finding_lines l.rest ≡ finding_lines l.findings)
    × (g.M.Monitor.left l.monitor ≡ g.M.Monitor.left l.initial.monitor)

abbrev pub decreases-loop-finding : goal.decreases-loop-finding
decreases-loop-finding g l = length l.rest
