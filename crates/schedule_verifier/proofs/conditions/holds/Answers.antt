use Rattle.schedule_verifier.proofs.Words.{◌<◌, FRAMES_A_DAY, arith}
use Rattle.schedule_verifier.proofs.Applying.{time_decides}
use Rattle.script_front.specs.Times.{frame_at}
use Rattle.schedule_verifier.proofs.conditions.holds.Goals as goal

pub returns-in-Time : goal.returns-in-Time
returns-in-Time c =
    let from : frame_at c.in-Time.from < FRAMES_A_DAY =
    omega (arith, c.frame.ensures, c.earlier-from.ensures.in_range) in
    let to : frame_at c.in-Time.to < FRAMES_A_DAY =
    omega (arith, c.frame-in-Time.ensures, c.earlier-to.ensures.in_range) in
    let window = c.window.ensures in
    let decided = rw
    (c.earlier-from.ensures.value, c.frame.ensures, c.earlier-to.ensures.value, c.frame-in-Time.ensures)
    at window in
    rw c.in-Time.is (time_decides _ _ _ _ _ from to (omega (arith, c.ranges.notice)) decided)
