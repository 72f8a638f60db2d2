use Rattle.stream_check.proofs.Words.{◌≡◌, are_same, length, raws}
use Rattle.stream_check.proofs.heard_table.have_same_entries.Given as goal

abbrev pub invariant-loop-entry : goal.invariant-loop-entry
invariant-loop-entry l = are_same (raws l.rest) (raws l.others_rest) ≡ are_same (raws l.entries) (raws l.others)

abbrev pub decreases-loop-entry : goal.decreases-loop-entry
decreases-loop-entry l = length l.rest
