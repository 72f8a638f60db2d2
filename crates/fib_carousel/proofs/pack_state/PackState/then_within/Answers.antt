use Rattle.fib_carousel.proofs.Closing.{closed_within}
use Rattle.fib_carousel.proofs.pack_state.PackState.then_within.Goals as goal

pub returns-then-self-number-2-clause-within : goal.returns-then-self-number-2-clause-within
returns-then-self-number-2-clause-within c =
    closed_within c.args.layout c.args.shape c.args.number c.args.known c.args.self.now
    c.state_within-then-self-number-2.result c.if-self-eq-MOST_USED.true c.requires.some c.if-self-number-2.true
    c.requires.known c.state_within-then-self-number-2.ensures.within
