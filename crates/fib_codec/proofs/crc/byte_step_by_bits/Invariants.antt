use Rattle.fib_codec.proofs.Words.{◌-◌, ◌≡◌, after}
use Rattle.fib_codec.proofs.crc.byte_step_by_bits.Given as goal

abbrev pub invariant-loop-index : goal.invariant-loop-index
invariant-loop-index l = after (8 - l.index) l.byte l.register ≡ after 8 l.byte l.fn.register
