-- Lists in ascending order are finite sets, and the functions of the tables add a member, remove one and replace one.
use Rattle.std.specs.Prelude.{◌≡◌, ◌≢◌, ℕ, ◌⊎◌, ◌↔◌, List, None, Contains}
use Rattle.mux_types.specs.Configuration.{IsAscending}
use Rattle.mux_types.specs.Tables.{entry_at, with_entry, without_entry, changed_at}

-- a set has one list: two lists in ascending order with the same members are equal
abbrev pub HasOneList : {T : Type 0} → (T → ℕ) → Type 0
HasOneList {T} key =
    (xs ys : List T) → IsAscending key xs → IsAscending key ys → ((x : T) → Contains xs x ↔ Contains ys x)
    → xs ≡ ys

-- `zs` is the set with exactly the members that have this property
pub record IsSetOf {T : Type 0} (key : T → ℕ) (IsMember : T → Type 0) (zs : List T) : Type 0 where
  pub ascends : IsAscending key zs
  pub members : (x : T) → Contains zs x ↔ IsMember x

-- one more member, with a key that is free
abbrev pub WithAdds : {T : Type 0} → (T → ℕ) → Type 0
WithAdds {T} key =
    (y : T) (xs : List T) → IsAscending key xs → entry_at key (key y) xs ≡ None
    → IsSetOf key (λ x. (y ≡ x) ⊎ Contains xs x) (with_entry key y xs)

-- all members but the one with a key
abbrev pub WithoutTakes : {T : Type 0} → (T → ℕ) → Type 0
WithoutTakes {T} key =
    (k : ℕ) (xs : List T) → IsAscending key xs
    → IsSetOf key (λ x. Contains xs x × (key x ≢ k)) (without_entry key k xs)

-- the member with a key changed, keeping its key, and all others
abbrev pub ChangedReplaces : {T : Type 0} → (T → ℕ) → Type 0
ChangedReplaces {T} key =
    (k : ℕ) (change : T → T) (xs : List T) → IsAscending key xs → ((x : T) → key x ≡ k → key (change x) ≡ k)
    → IsSetOf key (λ z. (Contains xs z × (key z ≢ k)) ⊎ ((x : T) × Contains xs x × (key x ≡ k) × (change x ≡ z)))
    (changed_at key k change xs)
