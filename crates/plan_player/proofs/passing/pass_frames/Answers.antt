use Rattle.plan_player.proofs.Words.{◌+◌, ◌-◌, ◌≡◌, AreQuiet, Playing, arith, ℕ}
use Rattle.plan_player.proofs.Joining.{played_frames}
use Rattle.plan_player.proofs.Stretches.{quiet_rest}
use Rattle.plan_player.proofs.passing.pass_frames.Goals as goal

pub loop-done-preserved : goal.loop-done-preserved
loop-done-preserved g c =
    let k : ℕ = c.loop-done.done in
    let left : ℕ = c.quiet_frames-quiet.result - k in
    let made : ℕ = c.pass_quiet-done.result in
    let mid : Playing = c.loop-done.player in
    let new : Playing = c.pass_quiet-done.new.self in
    let before = c.loop-done.invariant in
    let h = c.pass_quiet-done.ensures in
    let rest = quiet_rest mid.code left made mid.state h.some.1 before.still in
    let fewer : left - made ≡ c.quiet_frames-quiet.result - (k + made) = omega (arith, h.some.1, before.within) in
    let still : AreQuiet new.code (left - made) new.state = rw (h.state) rest in
    record {
      within = omega (arith, h.some.1, before.within);
      plan = rw (h.state) before.plan;
      still = rw (← fewer) still;
      state = played_frames c.args.player.now mid new k made before.state h.state;
    }

pub returns-clause-state : goal.returns-clause-state
returns-clause-state g c =
    let before = c.loop-done.invariant in
    let same : c.loop-done.done ≡ c.quiet_frames-quiet.result = omega (arith, before.within, c.loop-done-test.false) in
    rw (← same) before.state
