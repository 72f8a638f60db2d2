use Rattle.schedule_verifier.proofs.Words.{◌<◌, ◌≤◌, FRAMES_A_DAY, arith}
use Rattle.schedule_verifier.proofs.Waiting.{lasts_around, lasts_straight}
use Rattle.schedule_verifier.proofs.leaves.lasts_until.Goals as goal

pub returns-then-region-end : goal.returns-then-region-end
returns-then-region-end c told =
    let low : c.args.until < FRAMES_A_DAY = omega (arith, c.get-end.ensures.value, c.get-end.ensures.in_range) in
    let ends : c.args.region.now.to ≤ c.args.until =
    omega (arith, c.get-end.ensures.value, c.if-region-end-2.false) in
    lasts_straight c.args.schedule.now c.args.config.now c.args.region.now c.args.closed c.args.opened c.args.until low
    ends (rw (c.waiting-wait.ensures, c.get-end.ensures.value) at (c.stays_due.ensures told))

pub returns : goal.returns
returns c told =
    let after : c.args.until < c.args.region.now.from =
    omega (arith, c.get-end.ensures.value, c.if-region-end.false, c.if-region-end-3.false) in
    lasts_around c.args.schedule.now c.args.config.now c.args.region.now c.args.closed c.args.opened c.args.until after
    (rw c.waiting-evening.ensures at (c.stays_due-2.ensures c.if-not-stays_due.false))
    (rw (c.waiting-morning.ensures, c.get-end.ensures.value) at (c.stays_due-3.ensures told))
