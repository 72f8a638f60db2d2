-- The primary components that are listed are those that differ between two configurations.
use Rattle.std.proofs.Common.{◌≡◌, ◌≢◌, ◌&&◌, Bool, true, false, if◌then◌else◌, List, [], ◌∷◌, Contains, refl, sym, ap}
use Rattle.std.proofs.Common.{subst, ◌∙◌}
use Rattle.std.proofs.lemmas.Bool.{false≢true}
use Rattle.mux_types.proofs.Elements.{contains_first, contains_none}
use Rattle.mux_types.specs.declared.parts.Service.{Service}
use Rattle.mux_types.specs.declared.parts.Component.{Component}
use Rattle.mux_types.specs.declared.numbers.Sid.{Sid}
use Rattle.mux_types.specs.Configuration.{Configuration}
use Rattle.mux_types.specs.Sameness.{is_same_sid, is_same_component}
use Rattle.mux_config.proofs.Same.{sid_same, sid_itself, component_same, component_itself}
use Rattle.plan_explain.specs.declared.primary.Primary.{Primary}
use Rattle.plan_explain.specs.Primaries.{IsFirst, IsOtherPrimary, is_alone, other_first, other_primary, primaries_of}
use Rattle.plan_explain.specs.Primaries.{primaries}
use Rattle.plan_explain.proofs.Lists.{from_flat, to_flat, from_one}

-- what is known of a listed one
pub record IsOtherFirst (sid : Sid) (ms ns : List Component) (p : Primary) : Type 0 where
  pub of : sid ≡ p.sid
  pub before : IsFirst p.before ms
  pub after : IsFirst p.after ns
  pub differ : p.before ≢ p.after

first_at : (sid : Sid) (m n : Component) (ms ns : List Component) (p : Primary) (b : Bool) → is_same_component m n ≡ b
    → Contains (if b then [] else record { sid = sid; before = m; after = n } ∷ []) p
    → IsOtherFirst sid (m ∷ ms) (n ∷ ns) p
first_at sid m n ms ns p true e h = absurd (contains_none p h)
first_at sid m n ms ns p false e h =
    let q : Primary = record { sid = sid; before = m; after = n } in
    let same : q ≡ p = from_one q p h in
    let of : sid ≡ p.sid = ap (λ (x : Primary). x.sid) same in
    let before : m ≡ p.before = ap (λ (x : Primary). x.before) same in
    let after : n ≡ p.after = ap (λ (x : Primary). x.after) same in
    record {
      of = of;
      before = before;
      after = after;
      differ = λ equal.
          let alike : m ≡ n = before ∙ equal ∙ sym after in
          false≢true (sym e ∙ subst (λ (x : Component). is_same_component m x ≡ true) alike (component_itself m));
    }

first_of : (sid : Sid) (ms ns : List Component) (p : Primary) → Contains (other_first sid ms ns) p
    → IsOtherFirst sid ms ns p
first_of sid [] ns p h = absurd (contains_none p h)
first_of sid (m ∷ ms) [] p h = absurd (contains_none p h)
first_of sid (m ∷ ms) (n ∷ ns) p h = first_at sid m n ms ns p (is_same_component m n) refl h

primary_at : (before after : Configuration) (was is : Service) (p : Primary) (b a : Bool)
    → is_same_sid was.sid is.sid ≡ b → (is_alone was.components && is_alone is.components) ≡ a
    → Contains before.services was → Contains after.services is
    → Contains (if b then (if a then [] else other_first is.sid was.components is.components) else []) p
    → IsOtherPrimary before after p
primary_at before after was is p true true e alone in_before in_after h = absurd (contains_none p h)
primary_at before after was is p true false e alone in_before in_after h =
    let first = first_of is.sid was.components is.components p h in
    record {
      was = was;
      is = is;
      in_before = in_before;
      in_after = in_after;
      sid_before = sid_same was.sid is.sid e ∙ first.of;
      sid_after = first.of;
      first_before = first.before;
      first_after = first.after;
      differ = first.differ;
      several = alone;
    }
primary_at before after was is p false a e alone in_before in_after h = absurd (contains_none p h)

pub is_other : (before after : Configuration) (p : Primary) → Contains (primaries before after) p
    → IsOtherPrimary before after p
is_other before after p h =
    let later = from_flat (primaries_of before.services) after.services p h in
    let earlier = from_flat (other_primary later.source) before.services p later.has in
    primary_at before after earlier.source later.source p (is_same_sid earlier.source.sid later.source.sid)
    (is_alone earlier.source.components && is_alone later.source.components) refl refl earlier.there later.there
    earlier.has

-- ---- and back

pair_listed : (p : Primary) (b : Bool) → is_same_component p.before p.after ≡ b → p.before ≢ p.after
    → Contains (if b then [] else p ∷ []) p
pair_listed p true e differ = absurd (differ (component_same p.before p.after e))
pair_listed p false e differ = contains_first p []

first_listed : (p : Primary) (ms ns : List Component) → IsFirst p.before ms → IsFirst p.after ns → p.before ≢ p.after
    → Contains (other_first p.sid ms ns) p
first_listed p [] ns one other differ = absurd one
first_listed p (m ∷ ms) [] one other differ = absurd other
first_listed p (m ∷ ms) (n ∷ ns) one other differ =
    let here : Contains (other_first p.sid (p.before ∷ ms) (p.after ∷ ns)) p =
    pair_listed p (is_same_component p.before p.after) refl differ in
    let half : Contains (other_first p.sid (m ∷ ms) (p.after ∷ ns)) p =
    subst (λ (x : Component). Contains (other_first p.sid (x ∷ ms) (p.after ∷ ns)) p) (sym one) here in
    subst (λ (x : Component). Contains (other_first p.sid (m ∷ ms) (x ∷ ns)) p) (sym other) half

pub other_listed : (before after : Configuration) (p : Primary) → IsOtherPrimary before after p
    → Contains (primaries before after) p
other_listed before after p h =
    let first = first_listed p h.was.components h.is.components h.first_before h.first_after h.differ in
    let named : Contains (other_first h.is.sid h.was.components h.is.components) p =
    subst (λ (s : Sid). Contains (other_first s h.was.components h.is.components) p) (sym h.sid_after) first in
    let alike : h.was.sid ≡ h.is.sid = h.sid_before ∙ sym h.sid_after in
    let same : is_same_sid h.was.sid h.is.sid ≡ true =
    subst (λ (s : Sid). is_same_sid h.was.sid s ≡ true) alike (sid_itself h.was.sid) in
    let unless : Contains (if is_alone h.was.components
    && is_alone h.is.components then [] else other_first h.is.sid h.was.components h.is.components) p =
    subst (λ (b : Bool). Contains (if b then [] else other_first h.is.sid h.was.components h.is.components) p)
    (sym h.several) named in
    let at : Contains (other_primary h.is h.was) p =
    subst (λ (b : Bool). Contains
    (if b then (if is_alone h.was.components && is_alone h.is.components then [] else other_first h.is.sid
    h.was.components h.is.components) else []) p) (sym same) unless in
    let earlier = to_flat (other_primary h.is) before.services h.was p h.in_before at in
    to_flat (primaries_of before.services) after.services h.is p h.in_after earlier
