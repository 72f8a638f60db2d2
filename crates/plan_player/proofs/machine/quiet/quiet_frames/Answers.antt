use Rattle.plan_player.proofs.Words.{◌≤◌, State, SwapIsAway, arith, state_of, ℕ}
use Rattle.plan_player.proofs.Quiet.{fewer_swap, fewer_hold, are_quiet}
use Rattle.plan_player.proofs.machine.quiet.quiet_frames.Goals as goal

pub returns-clause-quiet : goal.returns-clause-quiet
returns-clause-quiet g c =
    let p = c.args.code.now in
    let s : State = state_of g.S.Store.content c.args.machine.now in
    let n : ℕ = c.min.result in
    let before_swap : n ≤ c.before_swap-swap.result = omega (arith, c.min.ensures, c.min-nearer.ensures) in
    let before_hold : n ≤ c.before_resuming-hold.result = omega (arith, c.min.ensures, c.min-nearer.ensures) in
    let swap : SwapIsAway p.plan.notice s.left c.before_swap-swap.result =
    rw (← c.plan-plan.ensures.value) c.before_swap-swap.ensures in
    are_quiet p s n (fewer_swap p.plan.notice s.left c.before_swap-swap.result n before_swap swap)
    (fewer_hold s s.hold c.before_resuming-hold.result n before_hold c.before_resuming-hold.ensures)
