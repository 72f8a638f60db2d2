use Rattle.fib_reader.proofs.Words.{◌+◌, ◌≡◌, entries_fault, length, number_of}
use Rattle.fib_reader.proofs.FaultSteps.{LeadsTo}
use Rattle.fib_reader.proofs.checking.entries_fault_of.Given as goal

abbrev pub invariant-loop-rest : goal.invariant-loop-rest
invariant-loop-rest l = record {
  place : l.at + length l.rest ≡ l.offset + length l.bytes;
  same : LeadsTo (number_of l.extension) l.long l.at l.rest
      (entries_fault (length l.bytes) (number_of l.extension) l.long l.offset l.bytes);
}

abbrev pub decreases-loop-rest : goal.decreases-loop-rest
decreases-loop-rest l = length l.rest
