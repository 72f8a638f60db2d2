-- Each FIB has exactly one reading.
use Rattle.stream_check.proofs.Words.{◌≡◌, ◌⊎◌, Err, Fib, Fig, IsFib, List, None, Ok, Reading, Reads, Result, Some, inl}
use Rattle.stream_check.proofs.Words.{inr, refl, ℕ}
use Rattle.fib_reader.specs.declared.fault.FibFault.{FibFault}
use Rattle.fib_reader.specs.Faults.{IsFibFault}
use Rattle.fib_reader.specs.Laws.{FaultOrFigs, FigsOrFault}

abbrev whole : List Fig → Result (List Fig) FibFault
whole figs = Ok figs

abbrev damaged_by : FibFault → Result (List Fig) FibFault
damaged_by fault = Err fault

pub read_whole : (bytes : List ℕ) (figs : List Fig) → IsFib bytes figs
    → ((fs : List Fig) → IsFib bytes fs → whole figs ≡ whole fs) → (fib : Fib) → Reads bytes fib → Some figs ≡ fib
read_whole bytes figs is every None damaged = absurd (damaged figs is)
read_whole bytes figs is every (Some fs) read = let one = every fs read in cc

pub read_damaged : (bytes : List ℕ) (fault : FibFault)
    → ((fs : List Fig) → IsFib bytes fs → damaged_by fault ≡ whole fs) → (fib : Fib) → Reads bytes fib → None ≡ fib
read_damaged bytes fault every None damaged = refl
read_damaged bytes fault every (Some fs) read = let one = every fs read in absurd cc

-- a reading of all FIBs exists
pub all_read : FaultOrFigs → FigsOrFault → Reading
all_read apart either = record {
  read = λ bytes. read_of bytes (either bytes);
  right = λ bytes. right_of bytes (either bytes);
}
  where
    read_of : (bytes : List ℕ) → ((figs : List Fig) × IsFib bytes figs) ⊎ ((fault : FibFault) × IsFibFault bytes fault)
        → Fib
    read_of bytes (inl good) = Some good.0
    read_of bytes (inr bad) = None

    right_of : (bytes : List ℕ) (is : ((figs : List Fig) × IsFib bytes figs)
        ⊎ ((fault : FibFault) × IsFibFault bytes fault)) → Reads bytes (read_of bytes is)
    right_of bytes (inl good) = good.1
    right_of bytes (inr bad) = λ figs is. apart bytes figs bad.0 is bad.1
