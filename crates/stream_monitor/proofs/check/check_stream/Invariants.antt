-- The FIBs so far are checked, and their lines were told.
use Rattle.stream_monitor.proofs.Words.{ChecksSoFar}
use Rattle.stream_monitor.proofs.check.check_stream.Given as goal

abbrev pub invariant-loop : goal.invariant-loop
invariant-loop g l =
    ChecksSoFar l.options (g.M.Monitor.left l.fn.monitor) (g.M.Monitor.left l.monitor) l.state
    (g.M.Monitor.log l.monitor)
