use Rattle.stream_check.proofs.Words.{◌≡◌, length, past_end, raws}
use Rattle.stream_check.proofs.subs.past_end.Given as goal

abbrev pub invariant-loop-sub : goal.invariant-loop-sub
invariant-loop-sub l = past_end (raws l.rest) ≡ past_end (raws l.subs)

abbrev pub decreases-loop-sub : goal.decreases-loop-sub
decreases-loop-sub l = length l.rest
