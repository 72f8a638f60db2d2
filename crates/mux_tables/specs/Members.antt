-- A finite set as a table in which each member is at the index of its key.
use Rattle.std.specs.Prelude.{◌≡◌, ℕ, suc, List, [], ◌∷◌, Option, Some, None}

-- the members, in ascending order of their keys
abbrev pub members : {T : Type 0} → List (Option T) → List T
members [] = []
members (None ∷ places) = members places
members (Some x ∷ places) = x ∷ members places

-- each is at the index of its key, the first slot being the one for key n
abbrev pub InPlace : {T : Type 0} → (T → ℕ) → ℕ → List (Option T) → Type 0
InPlace key n [] = Unit {0}
InPlace key n (None ∷ places) = InPlace key (suc n) places
InPlace key n (Some x ∷ places) = (key x ≡ n) × InPlace key (suc n) places
