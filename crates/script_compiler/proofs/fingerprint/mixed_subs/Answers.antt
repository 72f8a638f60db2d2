use Rattle.script_compiler.proofs.Words.{◌+◌, ◌∙◌, ap, arith, drop, mix, mix_all, sub_bits, sym}
use Rattle.script_compiler.proofs.Labelling.{mixed_more, mixed_end}
use Rattle.script_compiler.proofs.fingerprint.mixed_subs.Goals as goal

pub loop-place-preserved : goal.loop-place-preserved
loop-place-preserved c =
    let xs = c.args.tables.now.subs in
    ap (λ p. mix_all sub_bits p (drop (c.loop-place.place + 1) xs))
    (c.mix-print.ensures ∙ ap (λ w. mix c.loop-place.print w) c.sub_bits.ensures)
    ∙ mixed_more sub_bits c.loop-place.print xs c.loop-place.place c.sub_at.result c.sub_at.ensures.value
    ∙ c.loop-place.invariant

pub returns : goal.returns
returns c = sym (mixed_end sub_bits c.loop-place.print c.args.tables.now.subs c.loop-place.place
    (omega (arith, c.loop-place-test.false, c.loop-place.auto.place-end))) ∙ c.loop-place.invariant
