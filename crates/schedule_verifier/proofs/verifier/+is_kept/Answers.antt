use Rattle.schedule_verifier.proofs.Words.{LeadsOn, moment}
use Rattle.schedule_verifier.proofs.Regions.{by_parts}
use Rattle.schedule_verifier.proofs.verifier.+is_kept.Goals as goal

pub returns : goal.returns
returns t c told =
    by_parts c.in-Ask.question c.args.region.now
    (λ contacts day. LeadsOn (moment c.args.schedule.now c.args.code.now c.args.current.now contacts day) c.args.top
    c.args.current.now)
    (rw c.first-first.ensures at (c.is_kept.ensures c.if-not-is_kept.false))
    (rw c.second-second.ensures at (c.is_kept-2.ensures told))
