-- With the findings that are left, the numbers are those with all findings.
use Rattle.stream_monitor.proofs.Words.{◌+◌, ◌≡◌, faults_in, length, swaps_in, u64_saturate}
use Rattle.stream_monitor.proofs.tally.counted.Given as goal

abbrev pub invariant-loop-finding : goal.invariant-loop-finding
invariant-loop-finding l =
    (u64_saturate (l.swaps + swaps_in l.rest) ≡ u64_saturate (l.fn.start.swaps + swaps_in l.findings))
    × (u64_saturate (l.faults + faults_in l.rest) ≡ u64_saturate (l.fn.start.faults + faults_in l.findings))

abbrev pub decreases-loop-finding : goal.decreases-loop-finding
decreases-loop-finding l = length l.rest
