-- A table by keys is a set: the value at an index is the member with that key, and writing it edits the set.
use Rattle.mux_tables.proofs.Words.{[], ◌+◌, ◌<◌, ◌==◌, ◌∙◌, ◌∷◌, ◌≡◌, ◌≤◌, AllByRecursion, Bool, InPlace, IsAscending}
use Rattle.mux_tables.proofs.Words.{List, None, Option, Some, ap, arith, cond, entry_at, eq-eqb, eqb-true, false}
use Rattle.mux_tables.proofs.Words.{filter, find, get_or, le-ltb, length, lt-ltb, ltb, map, members, ne_eqb, not, refl}
use Rattle.mux_tables.proofs.Words.{set, slice_get, suc, sym, true, with_entry, with_entry_changed, without_entry, zero}
use Rattle.mux_tables.proofs.Words.{ℕ}

module _ {T : Type 0} (key : T → ℕ) where
  weaker : (P Q : T → Type 0) (xs : List T) → ((x : T) → P x → Q x) → AllByRecursion P xs → AllByRecursion Q xs
  weaker P Q [] h e = tt
  weaker P Q (x ∷ xs) h e = (h x e.0, weaker P Q xs h e.1)

  pub above : (n : ℕ) (xs : List (Option T)) → InPlace key n xs → AllByRecursion (λ y. n ≤ key y) (members xs)
  above n [] h = tt
  above n (None ∷ xs) h = weaker (λ y. suc n ≤ key y) (λ y. n ≤ key y) (members xs) (λ y le. omega arith)
      (above (suc n) xs h)
  above n (Some x ∷ xs) h = (
    omega (arith, h.0),
    weaker (λ y. suc n ≤ key y) (λ y. n ≤ key y) (members xs)
        (λ y le. omega arith) (above (suc n) xs h.1),
  )

  pub ascends : (n : ℕ) (xs : List (Option T)) → InPlace key n xs → IsAscending key (members xs)
  ascends n [] h = tt
  ascends n (None ∷ xs) h = ascends (suc n) xs h
  ascends n (Some x ∷ xs) h = (
    weaker (λ y. suc n ≤ key y) (λ y. key x < key y) (members xs)
        (λ y le. omega (arith, h.0)) (above (suc n) xs h.1),
    ascends (suc n) xs h.1,
  )

  -- before members that are all greater
  first_of : (y : T) (xs : List T) → AllByRecursion (λ x. key y < key x) xs → with_entry key y xs ≡ y ∷ xs
  first_of y [] h = refl
  first_of y (x ∷ xs) h = rw (lt-ltb (key y) (key x) h.0) refl

  pub added : (n : ℕ) (xs : List (Option T)) (i : ℕ) (y : T) → InPlace key n xs → i < length xs
      → get_or xs i None ≡ None → key y ≡ n + i → members (set xs i (Some y)) ≡ with_entry key y (members xs)
  added n [] i y h lt e k = absurd (omega arith)
  added n (None ∷ xs) zero y h lt e k =
      sym (first_of y (members xs)
      (weaker (λ x. suc n ≤ key x) (λ x. key y < key x) (members xs) (λ x le. omega (arith, k)) (above (suc n) xs h)))
  added n (Some x ∷ xs) zero y h lt e k = absurd (cc)
  added n (None ∷ xs) (suc i) y h lt e k = added (suc n) xs i y h (omega arith) e (omega (arith, k))
  added n (Some x ∷ xs) (suc i) y h lt e k =
      let later : cond (ltb (key y) (key x)) (y ∷ x ∷ members xs) (x ∷ with_entry key y (members xs)) ≡ x
      ∷ with_entry key y (members xs) = rw (le-ltb (key y) (key x) (omega (arith, h.0, k))) refl in
      ap (λ ys. x ∷ ys) (added (suc n) xs i y h.1 (omega arith) e (omega (arith, k))) ∙ sym later

  -- no member has a lower key
  pub without_below : (k : ℕ) (xs : List T) → AllByRecursion (λ x. k < key x) xs
      → filter (λ x. not (key x == k)) xs ≡ xs
  without_below k [] h = refl
  without_below k (x ∷ xs) h = let ne : (key x == k) ≡ false =
      ne_eqb (key x) k (λ e. let less = h.0 in omega (arith, e, less)) in rw (ne, without_below k xs h.1) refl

  pub removed : (n : ℕ) (xs : List (Option T)) (i : ℕ) (x : T) → InPlace key n xs → get_or xs i None ≡ Some x
      → members (set xs i None) ≡ without_entry key (n + i) (members xs)
  removed n (Some x ∷ xs) zero y h e =
      let rest = without_below (n + 0) (members xs)
      (weaker (λ z. suc n ≤ key z) (λ z. n + 0 < key z) (members xs) (λ z le. omega arith)
      (above (suc n) xs h.1)) in
      rw ((eq-eqb (key x) (n + 0) (omega (arith, h.0))), rest) refl
  removed n (None ∷ xs) (suc i) y h e = let up : suc n + i ≡ n + suc i = omega arith in
      removed (suc n) xs i y h e ∙ ap (λ k. without_entry key k (members xs)) up
  removed n (Some x ∷ xs) (suc i) y h e =
      let up : suc n + i ≡ n + suc i = omega arith in
      let other : (key x == n + suc i) ≡ false = ne_eqb (key x) (n + suc i) (λ f. let g = h.0 in omega (arith, f, g)) in
      rw (other) (ap (λ ys. x ∷ ys) (removed (suc n) xs i y h.1 e ∙ ap (λ k. without_entry key k (members xs)) up))
  removed n _ _ y h e = absurd (cc)

  pub unchanged : (y : T) (xs : List T) → AllByRecursion (λ x. key y < key x) xs → with_entry_changed key y xs ≡ xs
  unchanged y [] h = refl
  unchanged y (x ∷ xs) h = let ne : (key x == key y) ≡ false =
      ne_eqb (key x) (key y) (λ e. let less = h.0 in omega (arith, e, less)) in rw (ne, unchanged y xs h.1) refl

  unfound : (k : ℕ) (xs : List T) → AllByRecursion (λ x. k < key x) xs → find (λ x. key x == k) xs ≡ None
  unfound k [] h = refl
  unfound k (x ∷ xs) h = let ne : (key x == k) ≡ false =
      ne_eqb (key x) k (λ e. let less = h.0 in omega (arith, e, less)) in rw (ne) (unfound k xs h.1)

  pub found : (n : ℕ) (xs : List (Option T)) (i : ℕ) → InPlace key n xs
      → entry_at key (n + i) (members xs) ≡ get_or xs i None
  found n [] i h = refl
  found n (None ∷ xs) zero h =
      unfound _ _ (weaker (λ z. suc n ≤ key z) (λ z. n + 0 < key z) (members xs) (λ z le. omega arith) (above _ xs h))
  found n (Some x ∷ xs) zero h = let same : (key x == n + 0) ≡ true = eq-eqb (key x) (n + 0) (omega (arith, h.0)) in
      rw (same) refl
  found n (None ∷ xs) (suc i) h = let up : suc n + i ≡ n + suc i = omega arith in
      sym (ap (λ k. entry_at key k (members xs)) up) ∙ found (suc n) xs i h
  found n (Some x ∷ xs) (suc i) h =
      let other : (key x == n + suc i) ≡ false = ne_eqb (key x) (n + suc i) (λ f. let g = h.0 in omega (arith, f, g)) in
      rw (other) (sym (ap (λ k. entry_at key k (members xs)) (omega arith)) ∙ found (suc n) xs i h.1)

  pub in_place_set : (n : ℕ) (xs : List (Option T)) (i : ℕ) (y : T) → InPlace key n xs → key y ≡ n + i
      → InPlace key n (set xs i (Some y))
  in_place_set n [] i y h k = tt
  in_place_set n (None ∷ xs) zero y h k = (omega (arith, k), h)
  in_place_set n (Some x ∷ xs) zero y h k = (omega (arith, k), h.1)
  in_place_set n (None ∷ xs) (suc i) y h k = in_place_set (suc n) xs i y h (omega (arith, k))
  in_place_set n (Some x ∷ xs) (suc i) y h k = (h.0, in_place_set (suc n) xs i y h.1 (omega (arith, k)))

  pub in_place_none : (n : ℕ) (xs : List (Option T)) (i : ℕ) → InPlace key n xs → InPlace key n (set xs i None)
  in_place_none n [] i h = tt
  in_place_none n (None ∷ xs) zero h = h
  in_place_none n (Some x ∷ xs) zero h = h.1
  in_place_none n (None ∷ xs) (suc i) h = in_place_none (suc n) xs i h
  in_place_none n (Some x ∷ xs) (suc i) h = (h.0, in_place_none (suc n) xs i h.1)

  -- ---- from index 0

  pub absent_removed : (n : ℕ) (xs : List (Option T)) (i : ℕ) → InPlace key n xs → get_or xs i None ≡ None
      → members (set xs i None) ≡ without_entry key (n + i) (members xs)
  absent_removed n [] i h e = refl
  absent_removed n (None ∷ xs) zero h e =
      sym (without_below (n + 0) (members xs)
      (weaker (λ z. suc n ≤ key z) (λ z. n + 0 < key z) (members xs) (λ z le. omega arith) (above (suc n) xs h)))
  absent_removed n (Some x ∷ xs) zero h e = absurd (cc)
  absent_removed n (None ∷ xs) (suc i) h e = let up : suc n + i ≡ n + suc i = omega arith in
      absent_removed (suc n) xs i h e ∙ ap (λ k. without_entry key k (members xs)) up
  absent_removed n (Some x ∷ xs) (suc i) h e =
      let up : suc n + i ≡ n + suc i = omega arith in
      let other : (key x == n + suc i) ≡ false = ne_eqb (key x) (n + suc i) (λ f. let g = h.0 in omega (arith, f, g)) in
      rw (other) (ap (λ ys. x ∷ ys) (absent_removed (suc n) xs i h.1 e ∙ ap (λ k. without_entry key k (members xs)) up))

  removed_by : (o : Option T) (xs : List (Option T)) (i : ℕ) → InPlace key 0 xs → get_or xs i None ≡ o
      → members (set xs i None) ≡ without_entry key (0 + i) (members xs)
  removed_by None xs i h e = absent_removed 0 xs i h e
  removed_by (Some x) xs i h e = removed 0 xs i x h e

  pub is_removed : (xs : List (Option T)) (i : ℕ) → InPlace key 0 xs
      → members (set xs i None) ≡ without_entry key i (members xs)
  is_removed xs i h = let z : 0 + i ≡ i = omega arith in
      removed_by (get_or xs i None) xs i h refl ∙ ap (λ k. without_entry key k (members xs)) z

  pub is_found : (xs : List (Option T)) (i : ℕ) → InPlace key 0 xs → get_or xs i None ≡ entry_at key i (members xs)
  is_found xs i h = let z : 0 + i ≡ i = omega arith in sym (found 0 xs i h) ∙ ap (λ k. entry_at key k (members xs)) z

  pub is_added : (xs : List (Option T)) (y : T) → InPlace key 0 xs → key y < length xs
      → entry_at key (key y) (members xs) ≡ None → members (set xs (key y) (Some y)) ≡ with_entry key y (members xs)
  is_added xs y h lt e = added 0 xs (key y) y h lt (is_found xs (key y) h ∙ e) (omega arith)

  pub stays_in_place : (xs : List (Option T)) (y : T) → InPlace key 0 xs → InPlace key 0 (set xs (key y) (Some y))
  stays_in_place xs y h = in_place_set 0 xs (key y) y h (omega arith)

  -- ---- the members of a table, one after another

  pub few : (xs : List (Option T)) → length (members xs) ≤ length xs
  few [] = omega arith
  few (None ∷ xs) = let rest = few xs in omega (arith, rest)
  few (Some x ∷ xs) = let rest = few xs in omega (arith, rest)

  pub room : (xs : List (Option T)) (i : ℕ) → i < length xs → get_or xs i None ≡ None → length (members xs) < length xs
  room [] i lt e = absurd (omega arith)
  room (None ∷ xs) zero lt e = let rest = few xs in omega (arith, rest)
  room (Some x ∷ xs) zero lt e = absurd (cc)
  room (None ∷ xs) (suc i) lt e = let rest = room xs i (omega arith) e in omega (arith, rest)
  room (Some x ∷ xs) (suc i) lt e = let rest = room xs i (omega arith) e in omega (arith, rest)

  place_of : (n : ℕ) (xs : List (Option T)) (j : ℕ) (y : T) → InPlace key n xs → slice_get (members xs) j ≡ Some y
      → (i : ℕ) × (key y ≡ n + i) × (get_or xs i None ≡ Some y)
  place_of n [] j y h e = absurd (cc)
  place_of n (None ∷ xs) j y h e = let rest = place_of (suc n) xs j y h e in
      (suc rest.0, (let k = rest.1 in omega (arith, k)), rest.2)
  place_of n (Some x ∷ xs) zero y h e = let is : x ≡ y = cc in
      (0, omega (arith, ap key is, h.0), ap (λ (z : T). Some z) is)
  place_of n (Some x ∷ xs) (suc j) y h e = let rest = place_of (suc n) xs j y h.1 e in
      (suc rest.0, (let k = rest.1 in omega (arith, k)), rest.2)

  pub stands : (xs : List (Option T)) (j : ℕ) (y : T) → InPlace key 0 xs → slice_get (members xs) j ≡ Some y
      → get_or xs (key y) None ≡ Some y
  stands xs j y h e = let found = place_of 0 xs j y h e in let is : key y ≡ found.0 =
      (let k = found.1 in omega (arith, k)) in rw (is) found.2

  -- ---- another member at an index

  pub changed_at_place : (n : ℕ) (xs : List (Option T)) (i : ℕ) (x y : T) → InPlace key n xs → get_or xs i None ≡ Some x
      → key y ≡ n + i → members (set xs i (Some y)) ≡ with_entry_changed key y (members xs)
  changed_at_place n (Some z ∷ xs) zero x y h e k =
      let rest = unchanged y (members xs)
      (weaker (λ z. suc n ≤ key z) (λ z. key y < key z) (members xs) (λ z le. omega (arith, k))
      (above (suc n) xs h.1)) in
      rw ((eq-eqb (key z) (key y) (omega (arith, h.0, k))), rest) refl
  changed_at_place n (None ∷ xs) (suc i) x y h e k = changed_at_place (suc n) xs i x y h e (omega (arith, k))
  changed_at_place n (Some z ∷ xs) (suc i) x y h e k =
      let other : (key z == key y) ≡ false = ne_eqb (key z) (key y) (λ f. let g = h.0 in omega (arith, f, g, k)) in
      rw (other) (ap (λ ys. z ∷ ys) (changed_at_place (suc n) xs i x y h.1 e (omega (arith, k))))
  changed_at_place n _ _ x y h e k = absurd (cc)

  pub is_changed : (xs : List (Option T)) (x y : T) → InPlace key 0 xs → get_or xs (key y) None ≡ Some x
      → members (set xs (key y) (Some y)) ≡ with_entry_changed key y (members xs)
  is_changed xs x y h e = changed_at_place 0 xs (key y) x y h e (omega arith)

-- ---- what the members are mapped to, in the order of their keys

module _ {T U : Type 0} (key : T → ℕ) (of : U → ℕ) (f : T → U) (keeps : (x : T) → of (f x) ≡ key x) where
  found_step : (k : ℕ) (x : T) (rest : Option T) (t : Bool) → (key x == k) ≡ t → cond t (Some x) rest ≡ None
      → ((key x == k) ≡ false) × (rest ≡ None)
  found_step k x rest true is e = absurd (cc)
  found_step k x rest false is e = (is, e)

  pub found_mapped : (k : ℕ) (xs : List T) → entry_at key k xs ≡ None → entry_at of k (map f xs) ≡ None
  found_mapped k [] e = refl
  found_mapped k (x ∷ xs) e = let both = found_step k x (entry_at key k xs) (key x == k) refl e in
      rw (keeps x, both.0) (found_mapped k xs both.1)

  pub with_mapped : (y : T) (xs : List T) → with_entry of (f y) (map f xs) ≡ map f (with_entry key y xs)
  with_mapped y [] = refl
  with_mapped y (x ∷ xs) =
      rw (keeps x, keeps y) (elim (ltb (key y) (key x))
      as (λ t. cond t (f y ∷ f x ∷ map f xs) (f x ∷ with_entry of (f y) (map f xs))
      ≡ map f (cond t (y ∷ x ∷ xs) (x ∷ with_entry key y xs))) [
        | true ↦ refl
        | false ↦ ap (λ (us : List U). f x ∷ us) (with_mapped y xs)
      ])

  pub without_mapped : (k : ℕ) (xs : List T) → without_entry of k (map f xs) ≡ map f (without_entry key k xs)
  without_mapped k [] = refl
  without_mapped k (x ∷ xs) =
      rw (keeps x) (elim (not (key x == k))
      as (λ t. cond t (f x ∷ without_entry of k (map f xs)) (without_entry of k (map f xs))
      ≡ map f (cond t (x ∷ without_entry key k xs) (without_entry key k xs))) [
        | true ↦ ap (λ (us : List U). f x ∷ us) (without_mapped k xs)
        | false ↦ without_mapped k xs
      ])

  changed_step : (y x : T) → (key x ≡ key y → f x ≡ f y) → (t : Bool) → (key x == key y) ≡ t → f (cond t y x) ≡ f x
  changed_step y x same true is = sym (same (eqb-true (key x) (key y) is))
  changed_step y x same false is = refl

  pub changed_mapped : (y : T) → ((x : T) → key x ≡ key y → f x ≡ f y) → (xs : List T)
      → map f (with_entry_changed key y xs) ≡ map f xs
  changed_mapped y same [] = refl
  changed_mapped y same (x ∷ xs) = rw (changed_step y x (same x) (key x == key y) refl, changed_mapped y same xs) refl
