use Rattle.mux_config.proofs.Words.{Configuration, IsConfiguration, List, Packet, subst, sym}
use Rattle.mux_config.proofs.Keeping.{drop_packet_keeps}
use Rattle.mux_config.proofs.edits.ConfigStore.drop_packet_known.Goals as goal

pub invariant_of-self : goal.invariant_of-self
invariant_of-self c =
    let before : Configuration =
    record { subs = c.self.inside.subs; services = c.self.inside.services; packets = c.self.inside.packets } in
    subst (λ (xs : List Packet). IsConfiguration (record before { packets = xs })) (sym c.remove.ensures)
    (drop_packet_keeps c.from.result before c.self.invariant)
