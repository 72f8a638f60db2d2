use Rattle.stream_monitor.proofs.Words.{◌∙◌}
use Rattle.stream_monitor.proofs.Counting.{counted_all}
use Rattle.stream_monitor.proofs.tally.counted.Goals as goal

pub returns : goal.returns
returns c =
    c.sum_of.ensures ∙ counted_all c.args.start c.args.findings.now c.loop-finding.rest.now c.loop-finding.swaps
    c.loop-finding.faults c.in_default.ensures.cases c.loop-finding.invariant.0 c.loop-finding.invariant.1
