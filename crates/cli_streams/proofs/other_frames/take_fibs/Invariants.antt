use Rattle.cli_streams.proofs.Words.{◌≡◌, Reading, after_taking, drop}
use Rattle.cli_streams.proofs.other_frames.take_fibs.Given as goal

-- taking the FIGs of the remaining FIBs from here gives what taking those of all gives from the start
abbrev pub invariant-loop-fib : goal.invariant-loop-fib
invariant-loop-fib l = (r : Reading) → after_taking r (drop l.fib-index l.fib-items) l.merger
    ≡ after_taking r l.fib-items l.initial.merger
