use Rattle.script_compiler.proofs.Words.{◌+◌, ◌∙◌, ap, arith, drop, mix, mix_all, packet_bits, sym}
use Rattle.script_compiler.proofs.Labelling.{mixed_more, mixed_end}
use Rattle.script_compiler.proofs.fingerprint.mixed_packets.Goals as goal

pub loop-place-preserved : goal.loop-place-preserved
loop-place-preserved c =
    let xs = c.args.tables.now.packets in
    ap (λ p. mix_all packet_bits p (drop (c.loop-place.place + 1) xs))
    (c.mix-print.ensures ∙ ap (λ w. mix c.loop-place.print w) c.packet_bits.ensures)
    ∙ mixed_more packet_bits c.loop-place.print xs c.loop-place.place c.packet_at.result c.packet_at.ensures.value
    ∙ c.loop-place.invariant

pub returns : goal.returns
returns c = sym (mixed_end packet_bits c.loop-place.print c.args.tables.now.packets c.loop-place.place
    (omega (arith, c.loop-place-test.false, c.loop-place.auto.place-end))) ∙ c.loop-place.invariant
