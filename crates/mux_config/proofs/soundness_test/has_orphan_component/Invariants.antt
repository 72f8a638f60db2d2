use Rattle.mux_config.proofs.Words.{◌≡◌, carrier_of, drop, is_missing, list_any}
use Rattle.mux_config.proofs.soundness_test.has_orphan_component.Given as goal

abbrev pub invariant-loop-place : goal.invariant-loop-place
invariant-loop-place g l =
    let k = g.S.Store.content l.store in
    list_any (λ s. list_any (λ m. is_missing k (carrier_of m)) s.components) (drop l.place k.services)
    ≡ list_any (λ s. list_any (λ m. is_missing k (carrier_of m)) s.components) k.services
