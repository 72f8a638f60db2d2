-- Reading a configuration record from left to right, up to the first fault.
use Rattle.std.specs.Prelude.{ℕ, zero, suc, ◌+◌, nat_lt, List, [], ◌∷◌, ◌++◌, length, Result, Ok, Err}
use Rattle.std.specs.List.{list_any}
use Rattle.std.specs.Int.{w16}
use Rattle.mux_eep.specs.declared.limits.TheConstants.{CAPACITY_UNITS}
use Rattle.mux_eep.specs.Sizes.{size_or_fault}
use Rattle.mux_eep.specs.declared.fault.EepFault.{EepFault}
use Rattle.mux_types.specs.declared.limits.TheConstants.{MEMBERS}
use Rattle.mux_types.specs.declared.parts.Sub.{Sub}
use Rattle.mux_types.specs.declared.parts.Service.{Service}
use Rattle.mux_types.specs.declared.parts.Component.{Component}
use Rattle.mux_types.specs.declared.parts.Packet.{Packet}
use Rattle.mux_config.specs.declared.record.RecordFault.{RecordFault}
use Rattle.mux_config.specs.declared.record.RecordFault.TheVariants.{Field, Order}
use Rattle.mux_config.specs.FieldReading.{Reads, ◌>>=◌, refuse, place, number_at, byte_within, u16_in_range, flag_at}
use Rattle.mux_config.specs.FieldReading.{protection_at, sid_at, component_at}
use Rattle.mux_types.specs.Configuration.{Configuration, sub_key, sid_key, service_key, packet_key, carrier_of}
use Rattle.mux_types.specs.Configuration.{component_limit}
use Rattle.mux_types.specs.Sameness.{names}

-- ---- sub-channels

-- a rate without a size is at fault at its own bytes
abbrev pub size_or_field : ℕ → Result ℕ EepFault → Result ℕ RecordFault
size_or_field at (Ok size) = Ok size
size_or_field at (Err e) = Err (Field at)

-- a sub-channel whose identifier is at least `low`; a missing size is a fault of its rate, and an end past the
-- multiplex one of its start
unfoldable pub read_sub : (total low : ℕ) → List ℕ → Reads Sub
read_sub total low bytes = do
  id ← byte_within total 0 63 bytes
  ascends ← refuse (nat_lt id.0 low) Order
  start ← number_at w16 id.1
  protection ← protection_at total start.1
  kbits ← number_at w16 protection.1
  size ← size_or_field (place total protection.1) (size_or_fault protection.0 kbits.0)
  ends ← refuse (nat_lt CAPACITY_UNITS (start.0 + size)) (Field (place total id.1))
  Ok (record { id = id.0; start = start.0; protection = protection.0; kbits = kbits.0 }, kbits.1)

-- ---- services

-- `count` components after those already read; a carrier that occurs twice is at fault at its component
unfoldable pub components_at : (total : ℕ) → (before : List Component) → (count : ℕ) → List ℕ → Reads (List Component)
components_at total before zero bytes = Ok (before, bytes)
components_at total before (suc count) bytes = do
  c ← component_at total bytes
  fresh ← refuse (list_any (names (carrier_of c.0)) before) (Field (place total bytes))
  components_at total (before ++ c.0 ∷ []) count c.1

unfoldable pub read_service : (total low : ℕ) → List ℕ → Reads Service
read_service total low bytes = do
  sid ← sid_at total bytes
  ascends ← refuse (nat_lt (sid_key sid.0) low) Order
  count ← byte_within total 0 (component_limit sid.0) sid.1
  components ← components_at total [] count.0 count.1
  Ok (record { sid = sid.0; components = components.0 }, components.1)

-- ---- packet components

unfoldable pub read_packet : (total low : ℕ) → List ℕ → Reads Packet
read_packet total low bytes = do
  scid ← u16_in_range total 0 4095 bytes
  ascends ← refuse (nat_lt scid.0 low) Order
  dg ← flag_at total scid.1
  ty ← byte_within total 0 63 dg.1
  sub ← byte_within total 0 63 ty.1
  address ← u16_in_range total 1 1023 sub.1
  Ok (record { scid = scid.0; dg = dg.0; ty = ty.0; sub = sub.0; address = address.0 }, address.1)

-- ---- the record

-- `count` members of a set after those already read, each with an identifier above the previous one: the next is at
-- least `low`
unfoldable pub members_at : {T : Type 0} → (key : T → ℕ) → (member_at : ℕ → List ℕ → Reads T) → (low : ℕ)
    → (before : List T) → (count : ℕ) → List ℕ → Reads (List T)
members_at key member_at low before zero bytes = Ok (before, bytes)
members_at key member_at low before (suc count) bytes = do
  x ← member_at low bytes
  members_at key member_at (key x.0 + 1) (before ++ x.0 ∷ []) count x.1

unfoldable pub record_at : (total : ℕ) → List ℕ → Reads Configuration
record_at total bytes = do
  sub_count ← byte_within total 0 MEMBERS bytes
  service_count ← byte_within total 0 MEMBERS sub_count.1
  packet_count ← byte_within total 0 MEMBERS service_count.1
  subs ← members_at sub_key (read_sub total) 0 [] sub_count.0 packet_count.1
  services ← members_at service_key (read_service total) 0 [] service_count.0 subs.1
  packets ← members_at packet_key (read_packet total) 0 [] packet_count.0 services.1
  Ok (record { subs = subs.0; services = services.0; packets = packets.0 }, packets.1)

-- the record at the front of these bytes; offsets are counted from their first byte
abbrev pub config_at : List ℕ → Reads Configuration
config_at bytes = record_at (length bytes) bytes
