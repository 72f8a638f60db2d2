use Rattle.script_config.proofs.Words.{◌++◌, ◌≡◌, flat_map, packet_at, packet_new, take}
use Rattle.script_config.proofs.additions.new_packets.Given as goal

abbrev pub invariant-loop-packet : goal.invariant-loop-packet
invariant-loop-packet l = (l.edits.items ≡ l.initial.edits.items
    ++ flat_map (λ q. packet_new (packet_at q.scid l.from) q) (take l.packet-index l.packets))
