use Rattle.stream_check.proofs.Words.{◌≡◌, is_named, length, list_any, raws}
use Rattle.stream_check.proofs.heard_table.has_named.Given as goal

abbrev pub invariant-loop-entry : goal.invariant-loop-entry
invariant-loop-entry l = list_any (is_named l.mention) (raws l.rest) ≡ list_any (is_named l.mention) (raws l.entries)

abbrev pub decreases-loop-entry : goal.decreases-loop-entry
decreases-loop-entry l = length l.rest
