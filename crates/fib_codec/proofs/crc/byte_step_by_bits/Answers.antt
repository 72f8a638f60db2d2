use Rattle.fib_codec.proofs.Words.{◌-◌, ◌∙◌, ◌≡◌, arith, sym}
use Rattle.fib_codec.proofs.Division.{after_more, after-zero}
use Rattle.fib_codec.proofs.crc.byte_step_by_bits.Goals as goal

pub loop-index-preserved : goal.loop-index-preserved
loop-index-preserved c =
    rw (c.step-register.ensures) (sym (after_more c.loop-index.index c.args.byte c.loop-index.register
    c.loop-index-test.true) ∙ c.loop-index.invariant)

pub returns : goal.returns
returns c =
    let end : 8 - c.loop-index.index ≡ 0 = omega arith in
    cc (after-zero c.args.byte c.loop-index.register, end, c.loop-index.invariant)
