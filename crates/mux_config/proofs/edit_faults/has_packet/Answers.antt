use Rattle.mux_config.proofs.Words.{◌∙◌, packet_key}
use Rattle.mux_config.proofs.Keeping.{is_found}
use Rattle.mux_config.proofs.edit_faults.has_packet.Goals as goal

pub returns : goal.returns
returns g c =
    let k = g.S.Store.content c.args.store.now in
    c.is_some.ensures ∙ is_found packet_key c.args.scid k.packets c.packet.result c.packet.ensures.value
