use Rattle.schedule_verifier.proofs.Leaving.{rests_known}
use Rattle.schedule_verifier.proofs.leaves.rests.Goals as goal

pub returns : goal.returns
returns c told =
    rests_known c.args.schedule.now c.args.code.now c.args.current.now c.args.next.now c.args.region.now c.args.pc
    c.args.closed c.args.opened c.args.until c.args.frames c.in-None.is
    (c.is_same.ensures.same.0 c.if-not-is_same.false) (c.is_away.ensures c.if-not-is_away.false)
    (c.goes_on.ensures c.if-not-goes_on.false) (c.lasts.ensures told)
