-- The encoding of a configuration as bytes: the configuration record. A number of two or four bytes is big-endian.
use Rattle.std.specs.Prelude.{ℕ, List, [], ◌∷◌, ◌++◌, length}
use Rattle.std.specs.List.{flat_map}
use Rattle.mux_types.specs.declared.parts.Sub.{Sub}
use Rattle.mux_types.specs.declared.parts.Service.{Service}
use Rattle.mux_types.specs.declared.parts.Packet.{Packet}
use Rattle.mux_types.specs.Configuration.{Configuration}
use Rattle.mux_config.specs.FieldSpelling.{u16_bytes, flag_byte, protection_bytes, sid_field, component_bytes}

abbrev pub sub_record : Sub → List ℕ
sub_record s = s.id ∷ u16_bytes s.start ++ protection_bytes s.protection ++ u16_bytes s.kbits

abbrev pub service_record : Service → List ℕ
service_record s = sid_field s.sid ++ length s.components ∷ flat_map component_bytes s.components

abbrev pub packet_record : Packet → List ℕ
packet_record p = u16_bytes p.scid ++ flag_byte p.dg ∷ p.ty ∷ p.sub ∷ u16_bytes p.address

-- the three numbers of members, and then the members
abbrev pub config_bytes : Configuration → List ℕ
config_bytes c =
    length c.subs ∷ length c.services ∷ length c.packets ∷ []
    ++ flat_map sub_record c.subs
    ++ flat_map service_record c.services
    ++ flat_map packet_record c.packets
