use Rattle.fib_codec.proofs.Words.{◌∙◌}
use Rattle.fib_codec.proofs.Division.{word_checks}
use Rattle.fib_codec.proofs.crc.crc16.Goals as goal

pub returns : goal.returns
returns c = word_checks c.args.bytes.now c.bytes_step.result (c.bytes_step.ensures ∙ c.loop-rest.invariant)
