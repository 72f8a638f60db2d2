use Rattle.fib_codec.proofs.Words.{arith}
use Rattle.fib_codec.proofs.Lengths.{ext_small}
use Rattle.fib_codec.proofs.fib.Fib.try_fig.Goals as goal

pub begin_fig-requires-clause-ext : goal.begin_fig-requires-clause-ext
begin_fig-requires-clause-ext c =
    let small = ext_small c.args.head c.args.entries.now (c.is_formed.ensures.0 c.if-not-is_formed.false) in
    omega arith
