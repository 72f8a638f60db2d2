use Rattle.fib_codec.proofs.Sent.{heard_is_written}
use Rattle.fib_codec.proofs.laws.heard.Goals as goal

pub returns : goal.returns
returns c = heard_is_written
