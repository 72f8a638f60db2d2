use Rattle.mux_config.proofs.Words.{◌≡◌, drop, is_empty_service, list_any}
use Rattle.mux_config.proofs.soundness_test.has_empty_service.Given as goal

abbrev pub invariant-loop-place : goal.invariant-loop-place
invariant-loop-place g l =
    let k = g.S.Store.content l.store in
    list_any is_empty_service (drop l.place k.services) ≡ list_any is_empty_service k.services
