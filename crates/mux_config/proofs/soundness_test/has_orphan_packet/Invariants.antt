use Rattle.mux_config.proofs.Words.{◌≡◌, drop, is_missing, list_any}
use Rattle.mux_types.specs.declared.parts.Carrier.TheVariants.{Sub as BySub}
use Rattle.mux_config.proofs.soundness_test.has_orphan_packet.Given as goal

abbrev pub invariant-loop-place : goal.invariant-loop-place
invariant-loop-place g l =
    let k = g.S.Store.content l.store in
    list_any (λ p. is_missing k (BySub p.sub)) (drop l.place k.packets)
    ≡ list_any (λ p. is_missing k (BySub p.sub)) k.packets
