use Rattle.mux_config.proofs.Words.{◌∙◌, any_found, any_more, is_missing, list_any, sym}
use Rattle.mux_types.specs.declared.parts.Carrier.TheVariants.{Sub as BySub}
use Rattle.mux_config.proofs.soundness_test.has_orphan_packet.Goals as goal

pub returns-then-is_missing : goal.returns-then-is_missing
returns-then-is_missing g c =
    let k = g.S.Store.content c.args.store.now in
    any_found (λ p. is_missing k (BySub p.sub)) k.packets c.loop-place.place c.packet_at.result
    (list_any (λ p. is_missing k (BySub p.sub)) k.packets) c.loop-place.invariant c.packet_at.ensures.value
    (sym c.is_missing.ensures ∙ c.if-is_missing.true)

pub loop-place-preserved : goal.loop-place-preserved
loop-place-preserved g c =
    let k = g.S.Store.content c.args.store.now in
    any_more (λ p. is_missing k (BySub p.sub)) k.packets c.loop-place.place c.packet_at.result
    (list_any (λ p. is_missing k (BySub p.sub)) k.packets) c.loop-place.invariant c.packet_at.ensures.value
    (sym c.is_missing.ensures ∙ c.if-is_missing.false)
