use Rattle.fib_codec.proofs.Words.{◌∙◌, ap, bit_xor}
use Rattle.std.specs.Int.Bits.{xor_assoc}
use Rattle.fib_codec.proofs.TableRule.{six_bytes}
use Rattle.fib_codec.proofs.crc.six_step.Goals as goal

pub returns : goal.returns
returns c =
    let t0 = c.slice_0.result in
    let t1 = c.slice_1.result in
    let t2 = c.slice_2.result in
    let t3 = c.slice_3.result in
    let front = bit_xor c.slice_4.result c.slice_5.result in
    xor_assoc t0 (bit_xor t1 (bit_xor t2 t3)) front ∙ ap (bit_xor t0)
    (rw (← xor_assoc t2 t3 front) (xor_assoc t1 (bit_xor t2 t3) front))
    ∙ six_bytes c.args.register c.args.a c.args.b c.args.c c.args.d c.args.e c.args.f t0 t1 t2 t3 c.slice_4.result
    c.slice_5.result c.slice_0.ensures c.slice_1.ensures c.slice_2.ensures c.slice_3.ensures c.slice_4.ensures
    c.slice_5.ensures
