use Rattle.stream_monitor.proofs.Steps.{frame_ends}
use Rattle.stream_monitor.proofs.check.end_frame.Goals as goal

pub returns-clause-ends : goal.returns-clause-ends
returns-clause-ends g c =
    frame_ends c.args.options c.args.state.now c.decided.result c.totals_of-totals.result
    (g.M.Monitor.log c.args.monitor.now) (g.M.Monitor.log c.tell_due.new.monitor) c.end_of.result
    c.totals_of-totals.ensures c.decided.ensures c.in_ok-tell_due.ensures.log c.end_of.ensures.value
