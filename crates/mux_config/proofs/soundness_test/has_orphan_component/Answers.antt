use Rattle.mux_config.proofs.Words.{◌∙◌, Component, List, any_found, any_more, ap, carrier_of, is_missing, list_any}
use Rattle.mux_config.proofs.Words.{sym}
use Rattle.mux_config.proofs.soundness_test.has_orphan_component.Goals as goal

pub returns-then-names_missing : goal.returns-then-names_missing
returns-then-names_missing g c =
    let k = g.S.Store.content c.args.store.now in
    any_found (λ s. list_any (λ m. is_missing k (carrier_of m)) s.components) k.services c.loop-place.place
    c.service_at.result.now (list_any (λ s. list_any (λ m. is_missing k (carrier_of m)) s.components) k.services)
    c.loop-place.invariant c.service_at.ensures.value
    (ap (λ (ms : List Component). list_any (λ m. is_missing k (carrier_of m)) ms) (sym c.as_slice.ensures.value)
    ∙ sym c.names_missing.ensures ∙ c.if-names_missing.true)

pub loop-place-preserved : goal.loop-place-preserved
loop-place-preserved g c =
    let k = g.S.Store.content c.args.store.now in
    any_more (λ s. list_any (λ m. is_missing k (carrier_of m)) s.components) k.services c.loop-place.place
    c.service_at.result.now (list_any (λ s. list_any (λ m. is_missing k (carrier_of m)) s.components) k.services)
    c.loop-place.invariant c.service_at.ensures.value
    (ap (λ (ms : List Component). list_any (λ m. is_missing k (carrier_of m)) ms) (sym c.as_slice.ensures.value)
    ∙ sym c.names_missing.ensures ∙ c.if-names_missing.false)
