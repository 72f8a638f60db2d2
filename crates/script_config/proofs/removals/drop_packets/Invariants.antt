use Rattle.script_config.proofs.Words.{◌++◌, ◌≡◌, flat_map, packet_at, packet_gone, take}
use Rattle.script_config.proofs.removals.drop_packets.Given as goal

abbrev pub invariant-loop-packet : goal.invariant-loop-packet
invariant-loop-packet l = (l.edits.items ≡ l.initial.edits.items
    ++ flat_map (λ p. packet_gone (packet_at p.scid l.to) p) (take l.packet-index l.packets))
