use Rattle.fib_reader.proofs.Words.{◌∙◌, ◌≡◌, Agrees, AllByRecursion, Basis, List, Raw, Some, hear_entry}
use Rattle.fib_reader.proofs.Words.{refl, subst, sym}
use Rattle.fib_reader.proofs.Remembering.{fig_lasts, other_lasts, figs_last}
use Rattle.fib_reader.proofs.receiver.Receiver.knows.Goals as goal

pub loop-fig-preserved-in-Some-head : goal.loop-fig-preserved-in-Some-head
loop-fig-preserved-in-Some-head c = λ x agrees rest.
    let head = c.in-Some-head.head in
    let known = subst (λ (raws : List Raw). AllByRecursion
    (λ raw. hear_entry head.next raw c.args.self.now ≡ Some c.args.self.now) raws) c.entries.ensures
    (c.knows_entries.ensures c.if-not-knows_entries.false) in
    let agree = subst (λ (b : Basis). Agrees b c.args.self.now x) c.of.ensures (c.and-basis.ensures.other _ x agrees) in
    c.loop-fig.invariant x (c.and-basis.ensures.one _ x agrees)
    (rw (c.in-Some.ensures.steps) (figs_last c.in-Some.fig c.next.new.self x
    (fig_lasts c.args.self.now x c.in-Some.fig head (sym c.head.ensures ∙ c.in-Some-head.is) known agree) rest))

pub loop-fig-preserved : goal.loop-fig-preserved
loop-fig-preserved c =
    λ x agrees rest. c.loop-fig.invariant x agrees (rw (c.in-Some.ensures.steps)
    (figs_last c.in-Some.fig c.next.new.self x (other_lasts c.in-Some.fig x (sym c.head.ensures ∙ c.in_default-head.is))
    rest))

pub returns : goal.returns
returns c = λ x agrees. c.loop-fig.invariant x agrees (rw (c.in_default.ensures.steps.0) refl)
