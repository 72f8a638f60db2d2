use Rattle.fib_reader.proofs.Words.{take}
use Rattle.fib_reader.proofs.Places.{front_of_figs}
use Rattle.fib_reader.proofs.laws.places.Goals as goal

pub returns : goal.returns
returns c = λ bytes figs is_fib. front_of_figs (take 30 bytes) figs is_fib.1
