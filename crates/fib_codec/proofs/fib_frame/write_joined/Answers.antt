use Rattle.fib_codec.proofs.Words.{arith}
use Rattle.fib_codec.proofs.U16.{joined_into}
use Rattle.fib_codec.proofs.fib_frame.write_joined.Goals as goal

pub returns : goal.returns
returns g c =
    joined_into c.args.offset c.args.bytes.now c.args.fig.now c.args.plain.now c.join.new.fib _ c.seal.new.fib
    (omega (arith, c.requires.few, c.told-fig)) (omega (arith, c.told-plain)) c.join.ensures c.seal.ensures
