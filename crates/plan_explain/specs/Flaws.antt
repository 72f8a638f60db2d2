-- What a sound configuration may have without its author's intention.
use Rattle.std.specs.Prelude.{◌≡◌, ◌≢◌, ℕ, ◌==◌, ◌||◌, Bool, false, if◌then◌else◌, List, [], ◌∷◌, ◌++◌, Contains}
use Rattle.std.specs.List.{list_any, flat_map}
use Rattle.mux_types.specs.declared.parts.Sub.{Sub}
use Rattle.mux_types.specs.declared.parts.Service.{Service}
use Rattle.mux_types.specs.declared.parts.Component.{Component}
use Rattle.mux_types.specs.declared.parts.Component.TheVariants.{Sound, Stream, Packet as InPackets}
use Rattle.mux_types.specs.declared.parts.Carrier.TheVariants.{Sub as BySub}
use Rattle.mux_types.specs.declared.parts.Packet.{Packet}
use Rattle.mux_types.specs.declared.numbers.Sid.{Sid}
use Rattle.mux_types.specs.declared.numbers.Sid.TheVariants.{Short, Long}
use Rattle.mux_types.specs.Configuration.{Configuration, carrier_of}
use Rattle.mux_types.specs.Sameness.{is_same_carrier, is_same_sid}
use Rattle.plan_explain.specs.declared.flaw.Flaw.{Flaw}
use Rattle.plan_explain.specs.declared.flaw.Flaw.TheVariants.{Unnamed, LongAudio}

-- a sub-channel is in the configuration, and neither a component of a service nor a packet component names it
pub record IsUnnamed (c : Configuration) (id : ℕ) : Type 0 where
  pub sub : Sub
  pub there : Contains c.subs sub
  pub is : sub.id ≡ id
  pub components : (s : Service) (m : Component) → Contains c.services s → Contains s.components m
      → carrier_of m ≢ BySub id
  pub packets : (p : Packet) → Contains c.packets p → p.sub ≢ id

abbrev pub IsLong : Sid → Type 0
IsLong (Short n) = ⊥
IsLong (Long n) = Unit {0}

-- a service with a 32-bit SId has audio on a sub-channel
pub record HasLongAudio (c : Configuration) (sid : Sid) (id : ℕ) : Type 0 where
  pub service : Service
  pub there : Contains c.services service
  pub is : service.sid ≡ sid
  pub long : IsLong sid
  pub ty : ℕ
  pub audio : Contains service.components (Sound ty id)

abbrev pub HasFlaw : Configuration → Flaw → Type 0
HasFlaw c (Unnamed id) = IsUnnamed c id
HasFlaw c (LongAudio sid id) = HasLongAudio c sid id

-- ---- as a list

abbrev pub is_on : ℕ → Component → Bool
is_on id m = is_same_carrier (carrier_of m) (BySub id)

abbrev pub has_component_on : ℕ → Service → Bool
has_component_on id s = list_any (is_on id) s.components

abbrev pub is_named : Configuration → ℕ → Bool
is_named c id = list_any (has_component_on id) c.services || list_any (λ p. p.sub == id) c.packets

abbrev pub unnamed : Configuration → Sub → List Flaw
unnamed c s = if is_named c s.id then [] else Unnamed s.id ∷ []

abbrev pub audio : Sid → Component → List Flaw
audio sid (Sound ty id) = LongAudio sid id ∷ []
audio sid (Stream ty id) = []
audio sid (InPackets scid) = []

abbrev pub audio_under : Sid → List Component → List Flaw
audio_under (Short n) ms = []
audio_under (Long n) ms = flat_map (audio (Long n)) ms

abbrev pub long_audio : Service → List Flaw
long_audio s = audio_under s.sid s.components

abbrev pub flaws : Configuration → List Flaw
flaws c = flat_map (unnamed c) c.subs ++ flat_map long_audio c.services

abbrev pub is_same_flaw : Flaw → Flaw → Bool
is_same_flaw (Unnamed a) (Unnamed b) = a == b
is_same_flaw (Unnamed a) (LongAudio sid b) = false
is_same_flaw (LongAudio sid a) (Unnamed b) = false
is_same_flaw (LongAudio sid a) (LongAudio tid b) = if is_same_sid sid tid then a == b else false

-- those that are not among others
abbrev pub is_among : List Flaw → Flaw → Bool
is_among others f = list_any (λ g. is_same_flaw g f) others

abbrev pub unless_among : List Flaw → Flaw → List Flaw
unless_among others f = if is_among others f then [] else f ∷ []
