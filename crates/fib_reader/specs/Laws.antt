-- Laws of reading FIBs.
use Rattle.std.specs.Prelude.{◌≡◌, ◌≤◌, ℕ, ◌++◌, ◌⊎◌, List, map, flat_map, take, length}
use Rattle.mux_types.specs.Entries.{EnsembleInformation}
use Rattle.mux_types.specs.declared.entry.Entry.TheVariants.{Ensemble as EnsembleOf}
use Rattle.std.specs.List.{AllByRecursion}
use Rattle.fib_codec.specs.Spelling.{Written, IsWritten, figs_bytes, fib_bytes}
use Rattle.fib_codec.specs.Grammar.{Fig, IsFib, fig_of, fig_spelled}
use Rattle.fib_codec.specs.Ranges.{IsEnsembleInformation}
use Rattle.fib_reader.specs.declared.fault.FibFault.{FibFault}
use Rattle.fib_reader.specs.Faults.{IsFibFault}
use Rattle.fib_reader.specs.Raw.{raw_entry, ensemble_in}

-- bytes that are a FIB have no fault
abbrev pub FaultOrFigs : Type 0
FaultOrFigs = (bytes : List ℕ) (figs : List Fig) (fault : FibFault) → IsFib bytes figs → IsFibFault bytes fault → ⊥

-- and bytes that are not a FIB have one
abbrev pub FigsOrFault : Type 0
FigsOrFault = (bytes : List ℕ) → ((figs : List Fig) × IsFib bytes figs) ⊎ ((fault : FibFault) × IsFibFault bytes fault)

-- and only one
abbrev pub OneFault : Type 0
OneFault = (bytes : List ℕ) (one other : FibFault) → IsFibFault bytes one → IsFibFault bytes other → one ≡ other

-- the bytes of the FIGs of a FIB, concatenated, are the front of its thirty data bytes
abbrev pub FigsAreTheFront : Type 0
FigsAreTheFront =
    (bytes : List ℕ) (figs : List Fig) → IsFib bytes figs → (rest : List ℕ)
    × (take 30 bytes ≡ flat_map fig_spelled figs ++ rest)

-- ensemble information is decoded to what was sent
abbrev pub EnsembleIsHeard : Type 0
EnsembleIsHeard = (e : EnsembleInformation) → IsEnsembleInformation e → ensemble_in (raw_entry (EnsembleOf e)) ≡ e

-- a FIB that was written has no fault, and the FIGs that are read are those that were written
abbrev pub WrittenIsGood : Type 0
WrittenIsGood =
    (figs : List Written) (fault : FibFault) → AllByRecursion IsWritten figs → length (figs_bytes figs) ≤ 30
    → IsFibFault (fib_bytes figs) fault → ⊥

abbrev pub WrittenIsRead : Type 0
WrittenIsRead =
    (figs : List Written) (read : List Fig) → AllByRecursion IsWritten figs → length (figs_bytes figs) ≤ 30
    → IsFib (fib_bytes figs) read → read ≡ map fig_of figs
