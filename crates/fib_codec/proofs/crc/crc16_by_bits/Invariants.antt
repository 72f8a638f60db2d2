use Rattle.fib_codec.proofs.Words.{◌≡◌, after_all, drop}
use Rattle.fib_codec.proofs.crc.crc16_by_bits.Given as goal

abbrev pub invariant-loop-byte : goal.invariant-loop-byte
invariant-loop-byte l = after_all (drop l.byte-index l.bytes) l.register ≡ after_all l.bytes 65535
