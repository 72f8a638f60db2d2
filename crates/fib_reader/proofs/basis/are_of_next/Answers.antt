use Rattle.fib_reader.proofs.Words.{◌∙◌, sym}
use Rattle.fib_reader.proofs.Remembering.{keeps_fig, keeps_other, keeps_figs, keeps_nothing}
use Rattle.fib_reader.proofs.basis.are_of_next.Goals as goal

pub loop-fig-preserved-in-Pictures : goal.loop-fig-preserved-in-Pictures
loop-fig-preserved-in-Pictures c =
    λ rest. c.loop-fig.invariant (rw (c.in-Some.ensures.steps)
    (keeps_figs c.in-Some.fig c.next.new.self (keeps_fig c.in-Some.fig c.in-Some-head.head
    (sym c.head.ensures ∙ c.in-Some-head.is) (sym c.of.ensures ∙ c.in-Pictures.is)) rest))

pub loop-fig-preserved : goal.loop-fig-preserved
loop-fig-preserved c =
    λ rest. c.loop-fig.invariant (rw (c.in-Some.ensures.steps)
    (keeps_figs c.in-Some.fig c.next.new.self (keeps_other c.in-Some.fig (sym c.head.ensures ∙ c.in_default-head.is))
    rest))

pub returns : goal.returns
returns c = λ yes. c.loop-fig.invariant (rw (c.in_default.ensures.steps.0) keeps_nothing)
