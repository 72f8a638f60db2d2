-- When a configuration is sound, and the first thing that makes it unsound.
use Rattle.std.specs.Prelude.{◌≡◌, ◌≢◌, ℕ, ◌+◌, ◌<◌, ◌≤◌, ◌==◌, ◌||◌, ◌&&◌, Bool, false, not, if◌then◌else◌, nat_lt}
use Rattle.std.specs.Prelude.{List, [], ◌∷◌, length, Contains, Option, Some, None, Result, Ok, Err}
use Rattle.std.specs.List.{list_any}
use Rattle.mux_types.specs.declared.parts.Sub.{Sub}
use Rattle.mux_types.specs.declared.parts.Service.{Service}
use Rattle.mux_types.specs.declared.parts.Component.{Component}
use Rattle.mux_types.specs.declared.parts.Carrier.{Carrier}
use Rattle.mux_types.specs.declared.parts.Carrier.TheVariants.{Sub as BySub, Packet as ByPacket}
use Rattle.mux_types.specs.declared.parts.Packet.{Packet}
use Rattle.mux_config.specs.declared.fault.ConfigFault.{ConfigFault}
use Rattle.mux_config.specs.declared.fault.ConfigFault.TheVariants.{Overlap, Orphan, AddressUsed, EmptyService}
use Rattle.mux_types.specs.Configuration.{Configuration, sub_key, packet_key, size_of_sub, carrier_of}
use Rattle.mux_types.specs.Tables.{has_entry}

-- the capacity units of a sub-channel
abbrev pub IsUnitOf : Sub → ℕ → Type 0
IsUnitOf s unit = (s.start ≤ unit) × (unit < s.start + size_of_sub s)

-- a component's carrier exists
abbrev pub IsThere : Configuration → Carrier → Type 0
IsThere c (BySub id) = (s : Sub) × Contains c.subs s × (s.id ≡ id)
IsThere c (ByPacket scid) = (p : Packet) × Contains c.packets p × (p.scid ≡ scid)

-- two sub-channels share a capacity unit
pub record IsCrowded (c : Configuration) : Type 0 where
  pub first : Sub
  pub second : Sub
  pub unit : ℕ
  pub has_first : Contains c.subs first
  pub has_second : Contains c.subs second
  pub differ : first.id ≢ second.id
  pub of_first : IsUnitOf first unit
  pub of_second : IsUnitOf second unit

pub record IsSound (c : Configuration) : Type 0 where
  pub apart : (a b : Sub) (unit : ℕ) → Contains c.subs a → Contains c.subs b → IsUnitOf a unit → IsUnitOf b unit
      → a.id ≡ b.id
  pub carried : (s : Service) (m : Component) → Contains c.services s → Contains s.components m
      → IsThere c (carrier_of m)
  pub placed : (p : Packet) → Contains c.packets p → IsThere c (BySub p.sub)
  pub addressed : (p q : Packet) → Contains c.packets p → Contains c.packets q → p.sub ≡ q.sub → p.address ≡ q.address
      → p.scid ≡ q.scid
  pub filled : (s : Service) → Contains c.services s → s.components ≢ []

-- ---- the first fault, in the order tested

-- two sub-channels, each of which has a capacity unit, share one
abbrev pub overlaps : Sub → Sub → Bool
overlaps a b = nat_lt a.start (b.start + size_of_sub b) && nat_lt b.start (a.start + size_of_sub a)

-- two of these share one
abbrev pub is_crowded : List Sub → Bool
is_crowded [] = false
is_crowded (a ∷ bs) = list_any (overlaps a) bs || is_crowded bs

-- the first of these that shares a capacity unit with a sub-channel
abbrev pub overlap_with : Sub → List Sub → Option ConfigFault
overlap_with a [] = None
overlap_with a (b ∷ bs) = if overlaps a b then Some (Overlap a.id b.id) else overlap_with a bs

-- the first fault of two tests
abbrev pub first_of_two : Option ConfigFault → Option ConfigFault → Option ConfigFault
first_of_two None other = other
first_of_two (Some fault) other = Some fault

-- the first two that share one: the lowest that shares one with a higher one, and the lowest with which it shares one
abbrev pub first_overlap : List Sub → Option ConfigFault
first_overlap [] = None
first_overlap (a ∷ bs) = first_of_two (overlap_with a bs) (first_overlap bs)

abbrev pub is_missing : Configuration → Carrier → Bool
is_missing c (BySub id) = not (has_entry sub_key id c.subs)
is_missing c (ByPacket scid) = not (has_entry packet_key scid c.packets)

abbrev pub has_orphan : Configuration → Bool
has_orphan c =
    list_any (λ s. list_any (λ m. is_missing c (carrier_of m)) s.components) c.services
    || list_any (λ p. is_missing c (BySub p.sub)) c.packets

abbrev pub has_same_address : Packet → Packet → Bool
has_same_address p q = (p.sub == q.sub) && (p.address == q.address)

abbrev pub has_address_twice : List Packet → Bool
has_address_twice [] = false
has_address_twice (p ∷ ps) = list_any (has_same_address p) ps || has_address_twice ps

abbrev pub is_empty_service : Service → Bool
is_empty_service s = length s.components == 0

abbrev pub other_fault : Configuration → Option ConfigFault
other_fault c =
    if has_orphan c then Some Orphan
    else if has_address_twice c.packets then Some AddressUsed
    else if list_any is_empty_service c.services then Some EmptyService
    else None

abbrev pub first_fault : Configuration → Option ConfigFault
first_fault c = first_of_two (first_overlap c.subs) (other_fault c)

-- the result of a call that tests soundness: the first fault, if there is one
abbrev pub sound_unless : Option ConfigFault → Result (Unit {0}) ConfigFault
sound_unless None = Ok tt
sound_unless (Some fault) = Err fault

abbrev pub sound_or_fault : Configuration → Result (Unit {0}) ConfigFault
sound_or_fault c = sound_unless (first_fault c)
