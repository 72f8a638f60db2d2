use Rattle.mux_config.proofs.Words.{◌≡◌, drop, has_same_address, list_any}
use Rattle.mux_config.proofs.soundness_test.has_same_address_from.Given as goal

abbrev pub invariant-loop-place : goal.invariant-loop-place
invariant-loop-place g l =
    let k = g.S.Store.content l.store in
    list_any (has_same_address l.packet) (drop l.place k.packets)
    ≡ list_any (has_same_address l.packet) (drop l.from k.packets)
