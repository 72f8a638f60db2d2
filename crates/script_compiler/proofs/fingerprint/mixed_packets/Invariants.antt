use Rattle.script_compiler.proofs.Words.{◌≡◌, drop, mix_all, packet_bits}
use Rattle.script_compiler.proofs.fingerprint.mixed_packets.Given as goal

abbrev pub invariant-loop-place : goal.invariant-loop-place
invariant-loop-place l = mix_all packet_bits l.print (drop l.place l.tables.packets)
    ≡ mix_all packet_bits l.before l.tables.packets
