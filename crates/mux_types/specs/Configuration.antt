-- What a configuration of the multiplex is (EN 300 401 clauses 6.1 to 6.3, with the limits of this project).
use Rattle.std.specs.Prelude.{◌≢◌, ℕ, ◌+◌, ◌<◌, ◌≤◌, List, [], ◌∷◌, length}
use Rattle.std.specs.List.{AllByRecursion}
use Rattle.mux_types.specs.declared.limits.TheConstants.{MEMBERS}
use Rattle.mux_types.specs.declared.parts.Sub.{Sub}
use Rattle.mux_types.specs.declared.parts.Service.{Service}
use Rattle.mux_types.specs.declared.parts.Component.{Component}
use Rattle.mux_types.specs.declared.parts.Component.TheVariants.{Sound, Stream, Packet as InPackets}
use Rattle.mux_types.specs.declared.parts.Carrier.{Carrier}
use Rattle.mux_types.specs.declared.parts.Carrier.TheVariants.{Sub as BySub, Packet as ByPacket}
use Rattle.mux_types.specs.declared.parts.Packet.{Packet}
use Rattle.mux_types.specs.declared.numbers.Sid.{Sid}
use Rattle.mux_types.specs.declared.numbers.Sid.TheVariants.{Short, Long}
use Rattle.mux_eep.specs.declared.limits.TheConstants.{CAPACITY_UNITS}
use Rattle.mux_eep.specs.Sizes.{IsSize, table_size}

-- three finite sets, as lists in ascending order of their identifiers
pub record Configuration : Type 0 where
  pub subs : List Sub
  pub services : List Service
  pub packets : List Packet

abbrev pub nothing : Configuration
nothing = record { subs = []; services = []; packets = [] }

-- the order of the three sets: short SIds come before long ones
abbrev pub sub_key : Sub → ℕ
sub_key s = s.id

abbrev pub sid_key : Sid → ℕ
sid_key (Short n) = n
sid_key (Long n) = 65536 + n

abbrev pub service_key : Service → ℕ
service_key s = sid_key s.sid

abbrev pub packet_key : Packet → ℕ
packet_key p = p.scid

-- identifiers ascend, so that none occurs twice
abbrev pub IsAscending : {T : Type 0} → (T → ℕ) → List T → Type 0
IsAscending key [] = Unit {0}
IsAscending key (x ∷ xs) = AllByRecursion (λ y. key x < key y) xs × IsAscending key xs

-- a sub-channel has a size, and ends at or before the last capacity unit
abbrev pub size_of_sub : Sub → ℕ
size_of_sub s = table_size s.protection s.kbits

pub record IsPlaced (s : Sub) : Type 0 where
  pub named : s.id < 64
  pub from_one : 1 ≤ s.protection.level
  pub to_four : s.protection.level ≤ 4
  pub sized : IsSize s.protection s.kbits (size_of_sub s)
  pub ends : s.start + size_of_sub s ≤ CAPACITY_UNITS

-- the carrier of a component's content
abbrev pub carrier_of : Component → Carrier
carrier_of (Sound ty sub) = BySub sub
carrier_of (Stream ty sub) = BySub sub
carrier_of (InPackets scid) = ByPacket scid

-- no carrier occurs twice
abbrev pub AreDifferent : List Component → Type 0
AreDifferent [] = Unit {0}
AreDifferent (c ∷ cs) = AllByRecursion (λ d. carrier_of c ≢ carrier_of d) cs × AreDifferent cs

-- identifiers and types are within their bits
abbrev pub IsSid : Sid → Type 0
IsSid (Short n) = n < 65536
IsSid (Long n) = n < 4294967296

abbrev pub IsComponent : Component → Type 0
IsComponent (Sound ty sub) = (ty < 64) × (sub < 64)
IsComponent (Stream ty sub) = (ty < 64) × (sub < 64)
IsComponent (InPackets scid) = scid < 4096

-- the most components of a service: its entry takes at most 29 bytes with the header of its FIG
abbrev pub component_limit : Sid → ℕ
component_limit (Short n) = 12
component_limit (Long n) = 11

pub record IsService (s : Service) : Type 0 where
  pub named : IsSid s.sid
  pub within : AllByRecursion IsComponent s.components
  pub carriers : AreDifferent s.components
  pub few : length s.components ≤ component_limit s.sid

pub record IsAddressed (p : Packet) : Type 0 where
  pub named : p.scid < 4096
  pub typed : p.ty < 64
  pub carried : p.sub < 64
  pub from_one : 1 ≤ p.address
  pub to_last : p.address ≤ 1023

pub record IsConfiguration (c : Configuration) : Type 0 where
  pub subs_ascend : IsAscending sub_key c.subs
  pub services_ascend : IsAscending service_key c.services
  pub packets_ascend : IsAscending packet_key c.packets
  pub subs_placed : AllByRecursion IsPlaced c.subs
  pub services_formed : AllByRecursion IsService c.services
  pub packets_addressed : AllByRecursion IsAddressed c.packets
  pub subs_few : length c.subs ≤ MEMBERS
  pub services_few : length c.services ≤ MEMBERS
  pub packets_few : length c.packets ≤ MEMBERS
