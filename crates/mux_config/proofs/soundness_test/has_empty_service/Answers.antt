use Rattle.mux_config.proofs.Words.{◌∙◌, any_found, any_more, eq-eqb, is_empty_service, list_any, ne_eqb, sym}
use Rattle.mux_config.proofs.soundness_test.has_empty_service.Goals as goal

pub returns-then-len-eq0 : goal.returns-then-len-eq0
returns-then-len-eq0 g c =
    let k = g.S.Store.content c.args.store.now in
    any_found is_empty_service k.services c.loop-place.place c.service_at.result.now
    (list_any is_empty_service k.services) c.loop-place.invariant c.service_at.ensures.value
    (eq-eqb _ _ (sym c.len.ensures.value ∙ c.if-len-eq0.true))

pub loop-place-preserved : goal.loop-place-preserved
loop-place-preserved g c =
    let k = g.S.Store.content c.args.store.now in
    any_more is_empty_service k.services c.loop-place.place c.service_at.result.now
    (list_any is_empty_service k.services) c.loop-place.invariant c.service_at.ensures.value
    (ne_eqb _ _ (λ e. c.if-len-eq0.false (c.len.ensures.value ∙ e)))
