use Rattle.fib_codec.proofs.Finished.{fib_is, valid_is}
use Rattle.fib_codec.proofs.laws.written.Goals as goal

pub returns-clause-fib : goal.returns-clause-fib
returns-clause-fib c = fib_is

pub returns-clause-valid : goal.returns-clause-valid
returns-clause-valid c = valid_is
