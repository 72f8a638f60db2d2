use Rattle.mux_config.proofs.Words.{◌≡◌, Configuration, IsConfiguration, List, None, Packet, add_packet_fault, arith}
use Rattle.mux_config.proofs.Words.{subst, sym}
use Rattle.mux_config.proofs.Keeping.{add_packet_fits, add_packet_keeps}
use Rattle.mux_config.proofs.edits.ConfigStore.add_packet_known.Goals as goal

pub insert-requires : goal.insert-requires
insert-requires c =
    let before : Configuration =
    record { subs = c.self.inside.subs; services = c.self.inside.services; packets = c.self.inside.packets } in
    let fault : add_packet_fault c.args.packet before ≡ None = rw (← c.self.view_is) at c.requires in
    let fits = add_packet_fits c.args.packet before fault in
    (omega arith, (fits.0, fits.1))

pub invariant_of-self : goal.invariant_of-self
invariant_of-self c =
    let before : Configuration =
    record { subs = c.self.inside.subs; services = c.self.inside.services; packets = c.self.inside.packets } in
    let fault : add_packet_fault c.args.packet before ≡ None = rw (← c.self.view_is) at c.requires in
    let keeps = add_packet_keeps c.args.packet before (omega arith) (omega arith) (omega arith) c.self.invariant
    fault in
    subst (λ (xs : List Packet). IsConfiguration (record before { packets = xs })) (sym c.insert.ensures) keeps
