use Rattle.fib_codec.proofs.Words.{◌∙◌, after_all, ap, drop_all, sym}
use Rattle.fib_codec.proofs.Division.{word_checks}
use Rattle.fib_codec.proofs.crc.crc16_by_bits.Goals as goal

pub returns : goal.returns
returns c =
    let done = drop_all c.loop-byte.byte-index c.args.bytes.now c.loop-byte-test.false in
    word_checks _ _ (ap (λ t. after_all t c.loop-byte.register) (sym done) ∙ c.loop-byte.invariant)
