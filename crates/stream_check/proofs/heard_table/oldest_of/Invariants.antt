use Rattle.stream_check.proofs.Words.{◌≤◌, AllByRecursion, Heard, length, ℕ}
use Rattle.stream_check.proofs.heard_table.oldest_of.Given as goal

-- a time before which none of the rest and none of those seen was last heard is one for all entries
abbrev pub invariant-loop-entry : goal.invariant-loop-entry
invariant-loop-entry l = (n : ℕ) → n ≤ l.oldest → AllByRecursion (λ (h : Heard). n ≤ h.at) l.rest
    → AllByRecursion (λ (h : Heard). n ≤ h.at) l.entries

abbrev pub decreases-loop-entry : goal.decreases-loop-entry
decreases-loop-entry l = length l.rest
