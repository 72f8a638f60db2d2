use Rattle.plan_player.proofs.Words.{◌+◌, ◌-◌, ◌≡◌, AreQuiet, Playing, arith, ℕ}
use Rattle.plan_player.proofs.Joining.{joined_frames, stopped_frames, few_frames}
use Rattle.plan_player.proofs.Stretches.{quiet_rest}
use Rattle.plan_player.proofs.frames.play_quiet.Goals as goal

pub overflow_add-result : goal.overflow_add-result
overflow_add-result g c =
    let few = few_frames _ _ (c.args.count - c.loop-done.done) _ _ _ _ c.in-Err.ensures.stopped in
    omega (arith, few, c.loop-done.invariant.within, c.ranges.count.fits)

pub returns-in-Err-clause-stopped : goal.returns-in-Err-clause-stopped
returns-in-Err-clause-stopped g c =
    stopped_frames _ _ _ _ _ _ c.loop-done.done c.args.count _ _ (omega (arith, c.loop-done.invariant.within))
    c.loop-done.invariant.delivered c.in-Err.ensures.stopped

pub loop-done-preserved : goal.loop-done-preserved
loop-done-preserved g c =
    let k : ℕ = c.loop-done.done in
    let left : ℕ = c.args.count - k in
    let made : ℕ = c.in-Ok.made in
    let mid : Playing = c.loop-done.player in
    let new : Playing = c.put_quiet.new.self in
    let before = c.loop-done.invariant in
    let h = c.in-Ok.ensures in
    let some = h.some in
    let rest = quiet_rest mid.code left made mid.state some.1 before.quiet in
    let fewer : left - made ≡ c.args.count - (k + made) = omega (arith, some.1, before.within) in
    let quiet : AreQuiet new.code (left - made) new.state = rw (h.done.state) rest in
    record {
      within = omega (arith, some.1, before.within);
      plan = rw (h.done.state) before.plan;
      quiet = rw (← fewer) quiet;
      delivered = joined_frames _ _ _ _ _ _ k made before.delivered h.done;
      works = h.works;
    }
