-- What each fault of an unsound configuration says about its sets, and which one is reported: the first of four
-- conditions that fails.
use Rattle.std.specs.Prelude.{◌≡◌, ◌≢◌, ℕ, ◌<◌, ◌≤◌, ◌⊎◌, ◌↔◌, [], Contains, Err}
use Rattle.mux_types.specs.declared.parts.Sub.{Sub}
use Rattle.mux_types.specs.declared.parts.Service.{Service}
use Rattle.mux_types.specs.declared.parts.Component.{Component}
use Rattle.mux_types.specs.declared.parts.Carrier.TheVariants.{Sub as BySub}
use Rattle.mux_types.specs.declared.parts.Packet.{Packet}
use Rattle.mux_config.specs.declared.fault.ConfigFault.{ConfigFault}
use Rattle.mux_config.specs.declared.fault.ConfigFault.TheVariants.{Overlap, Orphan, AddressUsed, EmptyService}
use Rattle.mux_types.specs.Configuration.{Configuration, IsConfiguration, carrier_of}
use Rattle.mux_config.specs.Sound.{IsUnitOf, IsThere, sound_or_fault}

-- no two sub-channels share a capacity unit
abbrev pub AreApart : Configuration → Type 0
AreApart c =
    (a b : Sub) (unit : ℕ) → Contains c.subs a → Contains c.subs b → IsUnitOf a unit → IsUnitOf b unit → a.id ≡ b.id

-- what each component and each packet component refers to exists
pub record AreCarried (c : Configuration) : Type 0 where
  pub components : (s : Service) (m : Component) → Contains c.services s → Contains s.components m
      → IsThere c (carrier_of m)
  pub packets : (p : Packet) → Contains c.packets p → IsThere c (BySub p.sub)

-- no two packet components of one sub-channel have the same address
abbrev pub AreAddressed : Configuration → Type 0
AreAddressed c =
    (p q : Packet) → Contains c.packets p → Contains c.packets q → p.sub ≡ q.sub → p.address ≡ q.address
    → p.scid ≡ q.scid

-- each service has a component
abbrev pub AreFilled : Configuration → Type 0
AreFilled c = (s : Service) → Contains c.services s → s.components ≢ []

-- the sub-channels i and j share a capacity unit, and no other two that do come before them: not by the lower
-- identifier, nor, if that is the same, by the higher one
pub record IsFirstOverlap (c : Configuration) (i j : ℕ) : Type 0 where
  pub first : Sub
  pub second : Sub
  pub has_first : Contains c.subs first
  pub has_second : Contains c.subs second
  pub is_first : first.id ≡ i
  pub is_second : second.id ≡ j
  pub ordered : i < j
  pub unit : ℕ
  pub of_first : IsUnitOf first unit
  pub of_second : IsUnitOf second unit
  pub least :
      (s t : Sub) (shared : ℕ) → Contains c.subs s → Contains c.subs t → IsUnitOf s shared → IsUnitOf t shared
      → s.id < t.id
      → (i < s.id) ⊎ ((i ≡ s.id) × (j ≤ t.id))

-- the fault of a configuration: the first condition that fails
abbrev pub IsFault : Configuration → ConfigFault → Type 0
IsFault c (Overlap a b) = IsFirstOverlap c a b
IsFault c Orphan = AreApart c × (AreCarried c → ⊥)
IsFault c AddressUsed = AreApart c × AreCarried c × (AreAddressed c → ⊥)
IsFault c EmptyService = AreApart c × AreCarried c × AreAddressed c × (AreFilled c → ⊥)

-- it is the fault that is reported, and no other
abbrev pub FaultIsUnique : Type 0
FaultIsUnique = (c : Configuration) (fault : ConfigFault) → IsConfiguration c → (sound_or_fault c ≡ Err fault)
    ↔ IsFault c fault
