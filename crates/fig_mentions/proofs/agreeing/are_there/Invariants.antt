use Rattle.std.proofs.Common.{length}
use Rattle.fig_mentions.proofs.Rests.{IsLeft}
use Rattle.fig_mentions.proofs.agreeing.are_there.Given as goal

abbrev pub invariant-loop-rest : goal.invariant-loop-rest
invariant-loop-rest l = IsLeft l.picture l.ext l.long l.entries l.rest

abbrev pub decreases-loop-rest : goal.decreases-loop-rest
decreases-loop-rest l = length l.rest
