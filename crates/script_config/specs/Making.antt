-- The edits that make a configuration from the empty one.
use Rattle.std.specs.Prelude.{List, [], ◌∷◌, ◌++◌, map}
use Rattle.std.specs.List.{flat_map}
use Rattle.mux_config.specs.declared.edit.Edit.{Edit}
use Rattle.mux_config.specs.declared.edit.Edit.TheVariants.{AddSub, AddService, AddComponent, AddPacket}
use Rattle.mux_types.specs.declared.numbers.Sid.{Sid}
use Rattle.mux_types.specs.declared.parts.Sub.{Sub}
use Rattle.mux_types.specs.declared.parts.Service.{Service}
use Rattle.mux_types.specs.declared.parts.Component.{Component}
use Rattle.mux_types.specs.declared.parts.Packet.{Packet}
use Rattle.mux_types.specs.Configuration.{Configuration}

abbrev pub sub_edits : Sub → List Edit
sub_edits s = AddSub s ∷ []

-- components, appended to a service
abbrev pub components_added : Sid → List Component → List Edit
components_added sid ms = map (AddComponent sid) ms

-- a service, then its components
abbrev pub service_edits : Service → List Edit
service_edits s = AddService s.sid ∷ components_added s.sid s.components

abbrev pub packet_edits : Packet → List Edit
packet_edits p = AddPacket p ∷ []

-- the sub-channels, the services with their components, and the packet components, each set in its order
abbrev pub edits_that_make : Configuration → List Edit
edits_that_make c =
    flat_map sub_edits c.subs ++ (flat_map service_edits c.services ++ flat_map packet_edits c.packets)
