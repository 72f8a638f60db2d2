use Rattle.fib_reader.proofs.Words.{◌+◌, ◌≡◌, figs_fault, length}
use Rattle.fib_reader.proofs.FaultSteps.{LeadsToFig}
use Rattle.fib_reader.proofs.checking.figs_fault_of.Given as goal

abbrev pub invariant-loop-rest : goal.invariant-loop-rest
invariant-loop-rest l = record {
  place : l.at + length l.rest ≡ length l.bytes;
  same : LeadsToFig l.at l.rest (figs_fault (length l.bytes) 0 l.bytes);
}

abbrev pub decreases-loop-rest : goal.decreases-loop-rest
decreases-loop-rest l = length l.rest
