use Rattle.fib_codec.proofs.Finished.{entry_is}
use Rattle.fib_codec.proofs.Spelled.{entry_spelled}
use Rattle.fib_codec.proofs.Determined.{entry_told}
use Rattle.fib_codec.proofs.laws.spelling.Goals as goal

pub returns-clause-is_entry : goal.returns-clause-is_entry
returns-clause-is_entry c = entry_is

pub returns-clause-tells : goal.returns-clause-tells
returns-clause-tells c = entry_told

pub returns-clause-is_spelled : goal.returns-clause-is_spelled
returns-clause-is_spelled c = entry_spelled
