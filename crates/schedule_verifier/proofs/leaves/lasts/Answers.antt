use Rattle.schedule_verifier.proofs.Waiting.{lasts_always}
use Rattle.schedule_verifier.proofs.leaves.lasts.Goals as goal

pub returns-in-Some : goal.returns-in-Some
returns-in-Some c told = rw c.in-Some.is (c.lasts_until.ensures told)

pub returns-in-None : goal.returns-in-None
returns-in-None c told =
    rw c.in-None.is
    (lasts_always c.args.schedule.now c.args.config.now c.args.region.now c.args.closed c.args.opened
    (rw c.waiting-wait.ensures at (c.stays_due.ensures told)))
