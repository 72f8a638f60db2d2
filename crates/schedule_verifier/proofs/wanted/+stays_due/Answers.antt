use Rattle.schedule_verifier.proofs.Words.{◌≡◌, due}
use Rattle.schedule_verifier.proofs.Regions.{by_parts}
use Rattle.schedule_verifier.proofs.wanted.+stays_due.Goals as goal

pub returns : goal.returns
returns t c told =
    by_parts c.in-Ask.question c.args.region.now
    (λ contacts day. due c.args.schedule.now contacts day ≡ c.args.config.now)
    (rw c.first-first.ensures at (c.stays_due.ensures c.if-not-stays_due.false))
    (rw c.second-second.ensures at (c.stays_due-2.ensures told))
