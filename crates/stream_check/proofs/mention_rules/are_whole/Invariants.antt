use Rattle.stream_check.proofs.Words.{◌≡◌, are_whole, length, mentions_of}
use Rattle.stream_check.proofs.mention_rules.are_whole.Given as goal

abbrev pub invariant-loop-rest : goal.invariant-loop-rest
invariant-loop-rest l = are_whole (mentions_of l.ext l.long l.rest) ≡ are_whole (mentions_of l.ext l.long l.entries)

abbrev pub decreases-loop-rest : goal.decreases-loop-rest
decreases-loop-rest l = length l.rest
