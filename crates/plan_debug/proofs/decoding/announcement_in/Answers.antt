use Rattle.plan_debug.proofs.Headers.{announced_here}
use Rattle.plan_debug.proofs.decoding.announcement_in.Goals as goal

pub returns : goal.returns
returns c = λ plan s right.
    let h = c.announcement_in_fib.ensures in
    announced_here plan s c.args.frame.now c.in_ok-fib.fib.now c.announcement_in_fib.result right
    c.in_ok-fib.ensures.value h.headed h.unheaded
