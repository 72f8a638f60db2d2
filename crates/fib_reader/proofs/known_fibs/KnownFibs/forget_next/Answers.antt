use Rattle.fib_reader.proofs.Words.{refl}
use Rattle.fib_reader.proofs.Remembered.{of_current}
use Rattle.fib_reader.proofs.known_fibs.KnownFibs.forget_next.Goals as goal

pub returns : goal.returns
returns c = of_current _ _ refl refl refl
