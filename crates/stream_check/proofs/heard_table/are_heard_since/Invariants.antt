use Rattle.stream_check.proofs.Words.{◌≡◌, length, list_all, nat_lt}
use Rattle.stream_check.proofs.heard_table.are_heard_since.Given as goal

abbrev pub invariant-loop-entry : goal.invariant-loop-entry
invariant-loop-entry l = list_all (λ h. nat_lt l.since h.at) l.rest ≡ list_all (λ h. nat_lt l.since h.at) l.entries

abbrev pub decreases-loop-entry : goal.decreases-loop-entry
decreases-loop-entry l = length l.rest
