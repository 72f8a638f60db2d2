use Rattle.fib_codec.proofs.Words.{◌≡◌, after_all, length}
use Rattle.fib_codec.proofs.crc.crc16.Given as goal

abbrev pub invariant-loop-rest : goal.invariant-loop-rest
invariant-loop-rest l = after_all l.rest l.register ≡ after_all l.bytes 65535

abbrev pub decreases-loop-rest : goal.decreases-loop-rest
decreases-loop-rest l = length l.rest
