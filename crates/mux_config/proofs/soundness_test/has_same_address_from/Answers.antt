use Rattle.mux_config.proofs.Words.{◌∙◌, any_found, any_more, drop, has_same_address, list_any, sym}
use Rattle.mux_config.proofs.soundness_test.has_same_address_from.Goals as goal

pub returns-then-has_same_address : goal.returns-then-has_same_address
returns-then-has_same_address g c =
    let k = g.S.Store.content c.args.store.now in
    any_found (has_same_address c.args.packet.now) k.packets c.loop-place.place c.packet_at.result
    (list_any (has_same_address c.args.packet.now) (drop c.args.from k.packets)) c.loop-place.invariant
    c.packet_at.ensures.value (sym c.has_same_address.ensures ∙ c.if-has_same_address.true)

pub loop-place-preserved : goal.loop-place-preserved
loop-place-preserved g c =
    let k = g.S.Store.content c.args.store.now in
    any_more (has_same_address c.args.packet.now) k.packets c.loop-place.place c.packet_at.result
    (list_any (has_same_address c.args.packet.now) (drop c.args.from k.packets)) c.loop-place.invariant
    c.packet_at.ensures.value (sym c.has_same_address.ensures ∙ c.if-has_same_address.false)
