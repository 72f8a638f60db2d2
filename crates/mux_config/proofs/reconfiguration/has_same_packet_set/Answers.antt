use Rattle.mux_config.proofs.Words.{◌∙◌, is_same_list, is_same_packet, same_more, same_not, sym}
use Rattle.mux_config.proofs.reconfiguration.has_same_packet_set.Goals as goal

pub returns-then-not-is_same_packet : goal.returns-then-not-is_same_packet
returns-then-not-is_same_packet g c =
    let k = g.S.Store.content c.args.current.now in
    let d = g.T.Store.content c.args.next.now in
    same_not is_same_packet k.packets d.packets c.loop-place.place c.packet_at.result c.packet_at-in-loop-place.result
    (is_same_list is_same_packet k.packets d.packets) c.loop-place.invariant.left c.packet_at.ensures.value
    c.packet_at-in-loop-place.ensures.value (sym c.is_same_packet.ensures ∙ c.if-not-is_same_packet.true)

pub loop-place-preserved : goal.loop-place-preserved
loop-place-preserved g c =
    let k = g.S.Store.content c.args.current.now in
    let d = g.T.Store.content c.args.next.now in
    record {
      lengths = c.loop-place.invariant.lengths;
      left = same_more is_same_packet k.packets d.packets c.loop-place.place c.packet_at.result
          c.packet_at-in-loop-place.result (is_same_list is_same_packet k.packets d.packets) c.loop-place.invariant.left
          c.packet_at.ensures.value c.packet_at-in-loop-place.ensures.value
          (sym c.is_same_packet.ensures ∙ c.if-not-is_same_packet.false);
    }
