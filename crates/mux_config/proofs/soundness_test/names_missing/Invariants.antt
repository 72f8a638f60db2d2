use Rattle.mux_config.proofs.Words.{◌≡◌, carrier_of, drop, is_missing, list_any}
use Rattle.mux_config.proofs.soundness_test.names_missing.Given as goal

abbrev pub invariant-loop-component : goal.invariant-loop-component
invariant-loop-component g l =
    let k = g.S.Store.content l.store in
    list_any (λ m. is_missing k (carrier_of m)) (drop l.component-index l.components)
    ≡ list_any (λ m. is_missing k (carrier_of m)) l.components
