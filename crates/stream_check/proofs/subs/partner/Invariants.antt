use Rattle.stream_check.proofs.Words.{◌≡◌, length, partner, raws}
use Rattle.stream_check.proofs.subs.partner.Given as goal

abbrev pub invariant-loop-other : goal.invariant-loop-other
invariant-loop-other l = partner l.one (raws l.rest) ≡ partner l.one (raws l.others)

abbrev pub decreases-loop-other : goal.decreases-loop-other
decreases-loop-other l = length l.rest
