use Rattle.fib_codec.proofs.Uniqueness.{one_fib}
use Rattle.fib_codec.proofs.laws.one_list.Goals as goal

pub returns : goal.returns
returns c = one_fib
