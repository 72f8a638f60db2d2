-- Finite sets whose members have keys, as lists in ascending order of the keys.
use Rattle.std.specs.Prelude.{ℕ, ◌==◌, Bool, not, nat_lt, if◌then◌else◌, List, [], ◌∷◌, map, Option}
use Rattle.std.specs.List.{find, filter, list_any}

-- the member with a key
abbrev pub entry_at : {T : Type 0} → (T → ℕ) → ℕ → List T → Option T
entry_at key k xs = find (λ x. key x == k) xs

-- a set with one more member, inserted before the first one with a greater key
abbrev pub with_entry : {T : Type 0} → (T → ℕ) → T → List T → List T
with_entry key y [] = y ∷ []
with_entry key y (x ∷ xs) = if nat_lt (key y) (key x) then y ∷ x ∷ xs else x ∷ with_entry key y xs

-- a set without the member with a key
abbrev pub without_entry : {T : Type 0} → (T → ℕ) → ℕ → List T → List T
without_entry key k xs = filter (λ x. not (key x == k)) xs

-- a set with a member in place of the one with the same key
abbrev pub with_entry_changed : {T : Type 0} → (T → ℕ) → T → List T → List T
with_entry_changed key y xs = map (λ x. if key x == key y then y else x) xs

-- whether a set has a member with this key
abbrev pub has_entry : {T : Type 0} → (T → ℕ) → ℕ → List T → Bool
has_entry key k xs = list_any (λ x. key x == k) xs

-- the set with the member with this key changed, and all others unchanged
abbrev pub changed_at : {T : Type 0} → (T → ℕ) → ℕ → (T → T) → List T → List T
changed_at key k change xs = map (λ x. if key x == k then change x else x) xs
