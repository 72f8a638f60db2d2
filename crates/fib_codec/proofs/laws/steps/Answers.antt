use Rattle.fib_codec.proofs.Frames.{steps_divide}
use Rattle.fib_codec.proofs.laws.steps.Goals as goal

pub returns : goal.returns
returns c = steps_divide
