use Rattle.stream_check.proofs.Words.{◌∙◌, sym}
use Rattle.stream_check.proofs.Seeing.{read_whole, read_damaged}
use Rattle.stream_check.proofs.frame.read.Goals as goal

pub returns-in-Ok : goal.returns-in-Ok
returns-in-Ok c = λ r. read_whole c.args.fib.now c.in-Ok.figs (c.in-Ok.ensures.figs)
    (λ fs is. sym c.in-Ok.is ∙ c.check.ensures.every fs is) (r.read c.args.fib.now) (r.right c.args.fib.now)

pub returns-in-Err : goal.returns-in-Err
returns-in-Err c = λ r. read_damaged c.args.fib.now c.in-Err.field-0
    (λ fs is. sym c.in-Err.is ∙ c.check.ensures.every fs is) (r.read c.args.fib.now) (r.right c.args.fib.now)
