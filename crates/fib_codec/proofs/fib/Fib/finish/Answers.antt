use Rattle.fib_codec.proofs.Words.{◌∙◌, ◌≡◌, ap, arith, checked, figs_bytes, filled, length}
use Rattle.fib_codec.proofs.Finished.{fib_is, valid_is}
use Rattle.fib_codec.proofs.fib.Fib.finish.Goals as goal

pub returns-clause-figs : goal.returns-clause-figs
returns-clause-figs c figs written appended =
    let bytes : c.self.inside.bytes ≡ figs_bytes figs = c.self.view_is ∙ appended in
    let whole : c.finish.result ≡ checked (filled (figs_bytes figs)) = rw (← bytes) c.finish.ensures.value in
    rw (whole) (fib_is figs written (omega (arith, c.self.invariant, ap length bytes)))

pub returns-clause-valid : goal.returns-clause-valid
returns-clause-valid c figs written appended ours =
    let bytes : c.self.inside.bytes ≡ figs_bytes figs = c.self.view_is ∙ appended in
    let whole : c.finish.result ≡ checked (filled (figs_bytes figs)) = rw (← bytes) c.finish.ensures.value in
    rw (whole) (valid_is figs written (omega (arith, c.self.invariant, ap length bytes)) ours)
