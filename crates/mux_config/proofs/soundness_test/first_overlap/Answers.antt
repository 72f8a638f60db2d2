use Rattle.mux_config.proofs.Words.{◌∙◌, first_overlap, sym}
use Rattle.mux_config.proofs.Overlaps.{first_found, first_more}
use Rattle.mux_config.proofs.soundness_test.first_overlap.Goals as goal

pub returns-then-is_some-clause-value : goal.returns-then-is_some-clause-value
returns-then-is_some-clause-value g c =
    let k = g.S.Store.content c.args.store.now in
    first_found k.subs c.loop-place.place c.sub_at.result c.overlap_with-fault.result (first_overlap k.subs)
    c.loop-place.invariant c.sub_at.ensures.value c.overlap_with-fault.ensures
    (sym c.is_some.ensures ∙ c.if-is_some.true)

pub loop-place-preserved : goal.loop-place-preserved
loop-place-preserved g c =
    let k = g.S.Store.content c.args.store.now in
    first_more k.subs c.loop-place.place c.sub_at.result c.overlap_with-fault.result (first_overlap k.subs)
    c.loop-place.invariant c.sub_at.ensures.value c.overlap_with-fault.ensures
    (sym c.is_some.ensures ∙ c.if-is_some.false)
