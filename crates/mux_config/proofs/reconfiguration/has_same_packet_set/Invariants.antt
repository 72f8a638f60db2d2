use Rattle.mux_config.proofs.Words.{◌≡◌, drop, is_same_list, is_same_packet, length}
use Rattle.mux_config.proofs.reconfiguration.has_same_packet_set.Given as goal

abbrev pub invariant-loop-place : goal.invariant-loop-place
invariant-loop-place g l =
    let c = g.S.Store.content l.current in
    let d = g.T.Store.content l.next in
    record {
      lengths : length c.packets ≡ length d.packets;
      left : is_same_list is_same_packet (drop l.place c.packets) (drop l.place d.packets)
          ≡ is_same_list is_same_packet c.packets d.packets;
    }
