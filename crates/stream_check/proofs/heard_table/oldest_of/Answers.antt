use Rattle.stream_check.proofs.Words.{◌≤◌, Heard, arith}
use Rattle.stream_check.proofs.Waiting.{each_of_none}
use Rattle.stream_check.proofs.heard_table.oldest_of.Goals as goal

pub loop-entry-preserved : goal.loop-entry-preserved
loop-entry-preserved c =
    λ n le all. c.loop-entry.invariant n (omega (arith, le, c.earlier-oldest.ensures.first))
    (rw (c.in-Some.ensures.cases.0) (omega (arith, le, c.earlier-oldest.ensures.second, c.at.ensures), all))

pub returns : goal.returns
returns c = c.loop-entry.invariant c.loop-entry.oldest (omega (arith))
    (each_of_none (λ (h : Heard). c.loop-entry.oldest ≤ h.at) c.loop-entry.rest.now c.in_default.ensures.cases)
