use Rattle.fib_reader.proofs.Words.{refl}
use Rattle.fib_reader.proofs.Remembered.{nothing}
use Rattle.fib_reader.proofs.known_fibs.KnownFibs.forget.Goals as goal

pub returns : goal.returns
returns c = nothing _ refl refl
