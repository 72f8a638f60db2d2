use Rattle.fib_codec.proofs.U16.{fib_len}
use Rattle.fib_codec.proofs.laws.fib_length.Goals as goal

pub returns : goal.returns
returns c bytes figs fib = fib_len bytes fib.0
