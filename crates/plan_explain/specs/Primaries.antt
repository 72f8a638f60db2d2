-- Services whose first component, the primary one, is another one in a later configuration.
use Rattle.std.specs.Prelude.{◌≡◌, ◌≢◌, ◌&&◌, Bool, true, false, if◌then◌else◌, List, [], ◌∷◌, Contains}
use Rattle.std.specs.List.{flat_map}
use Rattle.mux_types.specs.declared.parts.Service.{Service}
use Rattle.mux_types.specs.declared.parts.Component.{Component}
use Rattle.mux_types.specs.declared.numbers.Sid.{Sid}
use Rattle.mux_types.specs.Configuration.{Configuration}
use Rattle.mux_types.specs.Sameness.{is_same_component, is_same_sid}
use Rattle.plan_explain.specs.declared.primary.Primary.{Primary}

abbrev pub IsFirst : Component → List Component → Type 0
IsFirst m [] = ⊥
IsFirst m (n ∷ ns) = n ≡ m

-- it is the only one
abbrev pub is_alone : List Component → Bool
is_alone [] = false
is_alone (m ∷ []) = true
is_alone (m ∷ n ∷ ms) = false

-- the service is in both configurations, and begins with another component in the later one; and it has others, before
-- or now, since for a service with one component that is what moving it means
pub record IsOtherPrimary (before after : Configuration) (p : Primary) : Type 0 where
  pub was : Service
  pub is : Service
  pub in_before : Contains before.services was
  pub in_after : Contains after.services is
  pub sid_before : was.sid ≡ p.sid
  pub sid_after : is.sid ≡ p.sid
  pub first_before : IsFirst p.before was.components
  pub first_after : IsFirst p.after is.components
  pub differ : p.before ≢ p.after
  pub several : (is_alone was.components && is_alone is.components) ≡ false

-- ---- as a list

abbrev pub other_first : Sid → List Component → List Component → List Primary
other_first sid [] ns = []
other_first sid (m ∷ ms) [] = []
other_first sid (m ∷ ms) (n ∷ ns) = if is_same_component m n then [] else record { sid = sid; before = m; after = n }
    ∷ []

abbrev pub other_primary : Service → Service → List Primary
other_primary later earlier =
    if is_same_sid earlier.sid later.sid then
    (if is_alone earlier.components && is_alone later.components then [] else other_first later.sid earlier.components
    later.components)
    else []

abbrev pub primaries_of : List Service → Service → List Primary
primaries_of before later = flat_map (other_primary later) before

abbrev pub primaries : Configuration → Configuration → List Primary
primaries before after = flat_map (primaries_of before.services) after.services
