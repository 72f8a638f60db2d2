-- Elements of lists that are put together.
use Rattle.std.proofs.Common.{◌≡◌, Bool, true, false, ◌⊎◌, inl, inr, List, [], ◌∷◌, map, Contains, refl, sym, subst}
use Rattle.std.proofs.Common.{◌∙◌}
use Rattle.std.specs.List.{flat_map, list_any}
use Rattle.std.proofs.lemmas.Bool.{false≢true}
use Rattle.std.proofs.lemmas.List.Elements.{Contains-append_left, Contains-append_right, Contains-append_cases}
use Rattle.mux_types.proofs.Elements.{contains_cases, contains_first, contains_later, contains_none}

pub record IsFrom {X Y : Type 0} (f : X → List Y) (xs : List X) (y : Y) : Type 0 where
  pub source : X
  pub there : Contains xs source
  pub has : Contains (f source) y

from_later : {X Y : Type 0} (f : X → List Y) (x : X) (xs : List X) (y : Y) → IsFrom f xs y → IsFrom f (x ∷ xs) y
from_later f x xs y h = record { source = h.source; there = contains_later x xs h.source h.there; has = h.has }

-- an element of a `flat_map` comes from an element
pub from_flat : {X Y : Type 0} (f : X → List Y) (xs : List X) (y : Y) → Contains (flat_map f xs) y → IsFrom f xs y
from_flat f [] y h = absurd (contains_none y h)
from_flat f (x ∷ xs) y h =
    elim (Contains-append_cases (f x) (flat_map f xs) y h) [
      | inl here ↦ record { source = x; there = contains_first x xs; has = here }
      | inr later ↦ from_later f x xs y (from_flat f xs y later)
    ]

to_flat_at : {X Y : Type 0} (f : X → List Y) (z : X) (zs : List X) (x : X) (y : Y)
    → (Contains zs x → Contains (flat_map f zs) y) → Contains (f x) y → (z ≡ x) ⊎ Contains zs x
    → Contains (flat_map f (z ∷ zs)) y
to_flat_at f z zs x y rest has (inl same) =
    Contains-append_left (f z) (flat_map f zs) y (subst (λ (w : _). Contains (f w) y) (sym same) has)
to_flat_at f z zs x y rest has (inr later) = Contains-append_right (f z) (flat_map f zs) y (rest later)

pub to_flat : {X Y : Type 0} (f : X → List Y) (xs : List X) (x : X) (y : Y) → Contains xs x → Contains (f x) y
    → Contains (flat_map f xs) y
to_flat f [] x y there has = absurd (contains_none x there)
to_flat f (z ∷ zs) x y there has =
    to_flat_at f z zs x y (λ later. to_flat f zs x y later has) has (contains_cases z zs x there)

-- an element of a `map`
pub record IsImage {X Y : Type 0} (f : X → Y) (xs : List X) (y : Y) : Type 0 where
  pub source : X
  pub there : Contains xs source
  pub is : f source ≡ y

image_later : {X Y : Type 0} (f : X → Y) (x : X) (xs : List X) (y : Y) → IsImage f xs y → IsImage f (x ∷ xs) y
image_later f x xs y h = record { source = h.source; there = contains_later x xs h.source h.there; is = h.is }

pub from_map : {X Y : Type 0} (f : X → Y) (xs : List X) (y : Y) → Contains (map f xs) y → IsImage f xs y
from_map f [] y h = absurd (contains_none y h)
from_map f (x ∷ xs) y h =
    elim (contains_cases (f x) (map f xs) y h) [
      | inl here ↦ record { source = x; there = contains_first x xs; is = here }
      | inr later ↦ image_later f x xs y (from_map f xs y later)
    ]

to_map_at : {X Y : Type 0} (f : X → Y) (z : X) (zs : List X) (x : X) → (Contains zs x → Contains (map f zs) (f x))
    → (z ≡ x) ⊎ Contains zs x → Contains (map f (z ∷ zs)) (f x)
to_map_at f z zs x rest (inl same) =
    subst (λ (w : _). Contains (map f (z ∷ zs)) (f w)) same (contains_first (f z) (map f zs))
to_map_at f z zs x rest (inr later) = contains_later (f z) (map f zs) (f x) (rest later)

pub to_map : {X Y : Type 0} (f : X → Y) (xs : List X) (x : X) → Contains xs x → Contains (map f xs) (f x)
to_map f [] x there = absurd (contains_none x there)
to_map f (z ∷ zs) x there = to_map_at f z zs x (λ later. to_map f zs x later) (contains_cases z zs x there)

-- one element
pub from_one : {X : Type 0} (x y : X) → Contains (x ∷ []) y → x ≡ y
from_one x y h = elim (contains_cases x [] y h) [ inl same ↦ same | inr later ↦ absurd (contains_none y later) ]

-- ---- tests

pub record IsFound {X : Type 0} (test : X → Bool) (xs : List X) : Type 0 where
  pub element : X
  pub there : Contains xs element
  pub passes : test element ≡ true

found_later : {X : Type 0} (test : X → Bool) (x : X) (xs : List X) → IsFound test xs → IsFound test (x ∷ xs)
found_later test x xs h = record {
  element = h.element;
  there = contains_later x xs h.element h.there;
  passes = h.passes;
}

any_at : {X : Type 0} (test : X → Bool) (x : X) (xs : List X) (b : Bool) → test x ≡ b
    → (list_any test xs ≡ true → IsFound test xs) → list_any test (x ∷ xs) ≡ true → IsFound test (x ∷ xs)
any_at test x xs true e rest h = record { element = x; there = contains_first x xs; passes = e }
any_at test x xs false e rest h =
    let later : list_any test xs ≡ true = sym (rw e refl) ∙ h in
    found_later test x xs (rest later)

pub from_any : {X : Type 0} (test : X → Bool) (xs : List X) → list_any test xs ≡ true → IsFound test xs
from_any test [] h = absurd cc
from_any test (x ∷ xs) h = any_at test x xs (test x) refl (from_any test xs) h

none_at : {X : Type 0} (test : X → Bool) (z : X) (zs : List X) (x : X) (b : Bool) → test z ≡ b
    → (list_any test zs ≡ false → Contains zs x → test x ≡ false) → list_any test (z ∷ zs) ≡ false → (z ≡ x)
    ⊎ Contains zs x → test x ≡ false
none_at test z zs x true e rest h c = let is : list_any test (z ∷ zs) ≡ true = rw e refl in
    absurd (false≢true (sym h ∙ is))
none_at test z zs x false e rest h (inl same) = subst (λ (w : _). test w ≡ false) same e
none_at test z zs x false e rest h (inr later) =
    let others : list_any test zs ≡ false = sym (rw e refl) ∙ h in
    rest others later

pub from_none : {X : Type 0} (test : X → Bool) (xs : List X) (x : X) → list_any test xs ≡ false → Contains xs x
    → test x ≡ false
from_none test [] x h there = absurd (contains_none x there)
from_none test (z ∷ zs) x h there =
    none_at test z zs x (test z) refl (from_none test zs x) h (contains_cases z zs x there)
