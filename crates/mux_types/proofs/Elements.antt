-- Membership in a list, element by element.
use Rattle.std.proofs.Common.{◌≡◌, zero, suc, List, [], ◌∷◌, Contains, refl, subst, ◌⊎◌, inl, inr, arith}
use Rattle.std.specs.List.{AllByRecursion}

pub contains_cases : {T : Type 0} (y : T) (ys : List T) (x : T) → Contains (y ∷ ys) x → (y ≡ x) ⊎ Contains ys x
contains_cases y ys x (zero, within, at) = inl at
contains_cases y ys x (suc k, within, at) = inr (k, omega arith, at)

pub contains_first : {T : Type 0} (y : T) (ys : List T) → Contains (y ∷ ys) y
contains_first y ys = (0, omega arith, refl)

pub contains_later : {T : Type 0} (y : T) (ys : List T) (x : T) → Contains ys x → Contains (y ∷ ys) x
contains_later y ys x (k, within, at) = (suc k, omega arith, at)

pub contains_none : {T : Type 0} (x : T) → Contains [] x → ⊥
contains_none x (k, within, at) = omega arith

pub each_contains : {T : Type 0} (P : T → Type 0) (xs : List T) (x : T) → AllByRecursion P xs → Contains xs x → P x
each_contains P [] x h there = absurd (contains_none x there)
each_contains P (y ∷ ys) x h there =
    elim (contains_cases y ys x there) [ inl e ↦ subst P e h.0 | inr later ↦ each_contains P ys x h.1 later ]
