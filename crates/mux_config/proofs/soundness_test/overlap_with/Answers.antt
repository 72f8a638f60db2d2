use Rattle.mux_config.proofs.Words.{◌∙◌, drop, overlap_with, sym}
use Rattle.mux_config.proofs.Overlaps.{with_found, with_more}
use Rattle.mux_config.proofs.soundness_test.overlap_with.Goals as goal

pub returns-then-overlaps : goal.returns-then-overlaps
returns-then-overlaps g c =
    let k = g.S.Store.content c.args.store.now in
    with_found c.args.sub.now k.subs c.loop-place.place c.sub_at-other.result
    (overlap_with c.args.sub.now (drop c.args.from k.subs)) c.loop-place.invariant c.sub_at-other.ensures.value
    (sym c.overlaps.ensures ∙ c.if-overlaps.true)

pub loop-place-preserved : goal.loop-place-preserved
loop-place-preserved g c =
    let k = g.S.Store.content c.args.store.now in
    with_more c.args.sub.now k.subs c.loop-place.place c.sub_at-other.result
    (overlap_with c.args.sub.now (drop c.args.from k.subs)) c.loop-place.invariant c.sub_at-other.ensures.value
    (sym c.overlaps.ensures ∙ c.if-overlaps.false)
