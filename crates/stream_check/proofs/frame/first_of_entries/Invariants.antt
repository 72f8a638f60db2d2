use Rattle.stream_check.proofs.Words.{◌≡◌, first_raw, length}
use Rattle.stream_check.proofs.frame.first_of_entries.Given as goal

abbrev pub invariant-loop-entry : goal.invariant-loop-entry
invariant-loop-entry l = first_raw l.entries ≡ first_raw l.initial.entries

abbrev pub decreases-loop-entry : goal.decreases-loop-entry
decreases-loop-entry l = length l.entries
