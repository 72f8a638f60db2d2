-- The edits that turn one configuration into another. Drops come before additions, and a lower rate before a move, so
-- that no edit has a fault.
use Rattle.std.specs.Prelude.{◌==◌, ◌&&◌, Bool, if◌then◌else◌, nat_lt, List, [], ◌∷◌, ◌++◌, Option, Some, None}
use Rattle.std.specs.List.{flat_map}
use Rattle.mux_eep.specs.Sizes.{Profile}
use Rattle.mux_config.specs.declared.edit.Edit.{Edit}
use Rattle.mux_config.specs.declared.edit.Edit.TheVariants.{DropSub, MoveSub, RateSub, DropService, DropComponent}
use Rattle.mux_config.specs.declared.edit.Edit.TheVariants.{DropPacket}
use Rattle.mux_types.specs.declared.numbers.Sid.{Sid}
use Rattle.mux_types.specs.declared.parts.Sub.{Sub}
use Rattle.mux_types.specs.declared.parts.Service.{Service}
use Rattle.mux_types.specs.declared.parts.Component.{Component}
use Rattle.mux_types.specs.declared.parts.Packet.{Packet}
use Rattle.mux_types.specs.Configuration.{Configuration, carrier_of}
use Rattle.mux_types.specs.Sameness.{is_same_set, is_same_component, is_same_packet}
use Rattle.mux_config.specs.Edits.{sub_at, service_at, packet_at}
use Rattle.script_config.specs.Making.{sub_edits, components_added, service_edits, packet_edits}

-- ---- components

-- the rest of the first list after the longest common prefix of the two
abbrev pub after_common : List Component → List Component → List Component
after_common [] ns = []
after_common (m ∷ ms) [] = m ∷ ms
after_common (m ∷ ms) (n ∷ ns) = if is_same_component m n then after_common ms ns else m ∷ ms

-- drops these components from a service, the last one first
abbrev pub components_dropped : Sid → List Component → List Edit
components_dropped sid [] = []
components_dropped sid (m ∷ ms) = components_dropped sid ms ++ DropComponent sid (carrier_of m) ∷ []

-- ---- drops for a member of the first configuration, given the one with its identifier in the second

abbrev pub service_gone : Option Service → Service → List Edit
service_gone None s = DropService s.sid ∷ []
service_gone (Some t) s = []

abbrev pub service_cut : Option Service → Service → List Edit
service_cut None s = []
service_cut (Some t) s = components_dropped s.sid (after_common s.components t.components)

abbrev pub packet_gone : Option Packet → Packet → List Edit
packet_gone None p = DropPacket p.scid ∷ []
packet_gone (Some q) p = if is_same_packet p q then [] else DropPacket p.scid ∷ []

abbrev pub is_same_profile : Profile → Profile → Bool
is_same_profile p q = is_same_set p.set q.set && (p.level == q.level)

abbrev pub sub_gone : Option Sub → Sub → List Edit
sub_gone None s = DropSub s.id ∷ []
sub_gone (Some t) s = if is_same_profile s.protection t.protection then [] else DropSub s.id ∷ []

-- ---- sub-channels that stay but differ

abbrev pub start_altered : Sub → Sub → List Edit
start_altered s t = if s.start == t.start then [] else MoveSub t.id t.start ∷ []

abbrev pub rate_altered : Sub → Sub → List Edit
rate_altered s t = if s.kbits == t.kbits then [] else RateSub t.id t.kbits ∷ []

-- a lower rate is set before the move, any other after it
abbrev pub alterations : Sub → Sub → List Edit
alterations s t =
    if nat_lt t.kbits s.kbits then rate_altered s t ++ start_altered s t
    else start_altered s t ++ rate_altered s t

abbrev pub sub_altered : Option Sub → Sub → List Edit
sub_altered None s = []
sub_altered (Some t) s = if is_same_profile s.protection t.protection then alterations s t else []

-- ---- additions for a member of the second configuration, given the one with its identifier in the first

abbrev pub sub_new : Option Sub → Sub → List Edit
sub_new None t = sub_edits t
sub_new (Some s) t = if is_same_profile s.protection t.protection then [] else sub_edits t

abbrev pub packet_new : Option Packet → Packet → List Edit
packet_new None q = packet_edits q
packet_new (Some p) q = if is_same_packet p q then [] else packet_edits q

abbrev pub service_grown : Option Service → Service → List Edit
service_grown None t = service_edits t
service_grown (Some s) t = components_added t.sid (after_common t.components s.components)

-- ---- all edits: each kind in ascending order of identifiers

abbrev pub edits_between : Configuration → Configuration → List Edit
edits_between from to =
    flat_map (λ s. service_gone (service_at s.sid to) s) from.services
    ++ (flat_map (λ s. service_cut (service_at s.sid to) s) from.services
    ++ (flat_map (λ p. packet_gone (packet_at p.scid to) p) from.packets
    ++ (flat_map (λ s. sub_gone (sub_at s.id to) s) from.subs
    ++ (flat_map (λ s. sub_altered (sub_at s.id to) s) from.subs
    ++ (flat_map (λ t. sub_new (sub_at t.id from) t) to.subs
    ++ (flat_map (λ q. packet_new (packet_at q.scid from) q) to.packets
    ++ flat_map (λ t. service_grown (service_at t.sid from) t) to.services))))))
