use Rattle.fib_codec.proofs.Words.{sym}
use Rattle.fib_codec.proofs.Linear.{one_byte}
use Rattle.fib_codec.proofs.crc.byte_step.Goals as goal

pub returns : goal.returns
returns c = rw (c.slice_0.ensures) (sym (one_byte c.args.register c.args.byte))
