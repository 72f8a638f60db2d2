use Rattle.stream_check.proofs.Words.{◌≡◌, Reading, first_of_frame, length, map}
use Rattle.stream_check.proofs.frame.first_of_fibs.Given as goal

abbrev pub invariant-loop-fib : goal.invariant-loop-fib
invariant-loop-fib l = (r : Reading) → first_of_frame (map r.read l.rest) ≡ first_of_frame (map r.read l.fibs)

abbrev pub decreases-loop-fib : goal.decreases-loop-fib
decreases-loop-fib l = length l.rest
