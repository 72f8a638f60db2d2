use Rattle.stream_check.proofs.Words.{◌≡◌, length, overlap, raws}
use Rattle.stream_check.proofs.subs.overlap.Given as goal

abbrev pub invariant-loop-sub : goal.invariant-loop-sub
invariant-loop-sub l = overlap (raws l.rest) ≡ overlap (raws l.subs)

abbrev pub decreases-loop-sub : goal.decreases-loop-sub
decreases-loop-sub l = length l.rest
