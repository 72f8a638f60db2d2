use Rattle.schedule_verifier.proofs.Words.{arith}
use Rattle.schedule_verifier.proofs.Applying.{all_more, all_told}
use Rattle.schedule_verifier.proofs.conditions.all_hold.Goals as goal

pub loop-one-preserved : goal.loop-one-preserved
loop-one-preserved c =
    rw c.both-all.ensures
    (all_more _ _ _ _ c.args.tests.now c.loop-one.one-index c.one-item.result _ (omega (arith, c.loop-one-test.true))
    c.one-item.is c.loop-one.invariant c.holds.ensures)

pub returns : goal.returns
returns c =
    all_told _ _ _ c.args.tests.now c.loop-one.one-index (omega (arith, c.loop-one-test.false)) c.loop-one.invariant
