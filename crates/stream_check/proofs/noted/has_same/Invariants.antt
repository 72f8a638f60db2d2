use Rattle.stream_check.proofs.Words.{◌≡◌, is_same, length, list_any}
use Rattle.stream_check.proofs.noted.has_same.Given as goal

abbrev pub invariant-loop-other : goal.invariant-loop-other
invariant-loop-other l = list_any (is_same l.contradiction) l.rest ≡ list_any (is_same l.contradiction) l.others

abbrev pub decreases-loop-other : goal.decreases-loop-other
decreases-loop-other l = length l.rest
