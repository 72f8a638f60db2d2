-- Sets in ascending order: the index of a key, and the set after an edit at that index.
use Rattle.std.proofs.Common.{◌≡◌, ℕ, zero, suc, ◌<◌, ◌≤◌, true, false, cond, ltb, eqb, nat_lt, List, [], ◌∷◌, ◌++◌}
use Rattle.std.proofs.Common.{length, get_or, set, slice_get, if◌then◌else◌, Some, None, refl, sym, ap, ◌∙◌, arith, inl}
use Rattle.std.proofs.Common.{inr}
use Rattle.std.specs.List.{insert, remove, find, AllByRecursion}
use Rattle.std.proofs.lemmas.Bool.{cases_lt, cases_eq, lt-ltb, le-ltb, eq-eqb, ne_eqb, eqb-false}
use Rattle.std.proofs.lemmas.Option.{slice_get-get_or}
use Rattle.mux_types.specs.Configuration.{IsAscending}
use Rattle.mux_types.specs.Tables.{entry_at, with_entry, without_entry, with_entry_changed}

-- ---- members

pub each_weaker : {T : Type 0} (P Q : T → Type 0) → ((x : T) → P x → Q x) → (xs : List T) → AllByRecursion P xs
    → AllByRecursion Q xs
each_weaker P Q weaker [] all = tt
each_weaker P Q weaker (x ∷ xs) all = (weaker x all.0, each_weaker P Q weaker xs all.1)

pub each_pushed : {T : Type 0} (P : T → Type 0) (xs : List T) (y : T) → AllByRecursion P xs → P y
    → AllByRecursion P (xs ++ y ∷ [])
each_pushed P [] y all holds = (holds, tt)
each_pushed P (x ∷ xs) y all holds = (all.0, each_pushed P xs y all.1 holds)

pub each_with : {T : Type 0} (P : T → Type 0) (key : T → ℕ) (y : T) (xs : List T) → P y → AllByRecursion P xs
    → AllByRecursion P (with_entry key y xs)
each_with P key y [] holds all = (holds, tt)
each_with P key y (x ∷ xs) holds all =
    elim (cases_lt (key y) (key x)) [
      | inl lt ↦ rw (lt-ltb _ _ lt) (holds, all)
      | inr ge ↦ rw (le-ltb _ _ ge) (all.0, each_with P key y xs holds all.1)
    ]

pub each_without : {T : Type 0} (P : T → Type 0) (key : T → ℕ) (k : ℕ) (xs : List T) → AllByRecursion P xs
    → AllByRecursion P (without_entry key k xs)
each_without P key k [] all = tt
each_without P key k (x ∷ xs) all =
    elim (cases_eq (key x) k) [
      | inl same ↦ rw (eq-eqb _ _ same) (each_without P key k xs all.1)
      | inr other ↦ rw (ne_eqb _ _ other) (all.0, each_without P key k xs all.1)
    ]

-- each member keeps a property, if the new one has it whenever the old one with the same key does
pub each_changed : {T : Type 0} (P : T → Type 0) (key : T → ℕ) (y : T) → ((x : T) → key x ≡ key y → P x → P y)
    → (xs : List T) → AllByRecursion P xs → AllByRecursion P (with_entry_changed key y xs)
each_changed P key y holds [] all = tt
each_changed P key y holds (x ∷ xs) all =
    elim (cases_eq (key x) (key y)) [
      | inl same ↦ rw (eq-eqb _ _ same) (holds x same all.0, each_changed P key y holds xs all.1)
      | inr other ↦ rw (ne_eqb _ _ other) (all.0, each_changed P key y holds xs all.1)
    ]

pub each_within : {T : Type 0} (P : T → Type 0) (xs : List T) (i : ℕ) (d : T) → AllByRecursion P xs → i < length xs
    → P (get_or xs i d)
each_within P [] i d all lt = absurd (omega (arith, lt))
each_within P (x ∷ xs) zero d all lt = all.0
each_within P (x ∷ xs) (suc i) d all lt = each_within P xs i d all.1 (omega (arith, lt))

-- ---- order

pub ascends_pushed : {T : Type 0} (key : T → ℕ) (xs : List T) (y : T) → IsAscending key xs
    → AllByRecursion (λ x. key x < key y) xs → IsAscending key (xs ++ y ∷ [])
ascends_pushed key [] y up above = (tt, tt)
ascends_pushed key (x ∷ xs) y up above =
    (each_pushed (λ z. key x < key z) xs y up.0 above.0, ascends_pushed key xs y up.1 above.1)

pub ascends_with : {T : Type 0} (key : T → ℕ) (y : T) (xs : List T) → IsAscending key xs
    → entry_at key (key y) xs ≡ None → IsAscending key (with_entry key y xs)
ascends_with key y [] up absent = (tt, tt)
ascends_with key y (x ∷ xs) up absent =
    elim (cases_eq (key x) (key y)) [
      | inl same ↦ let found : cond (eqb (key x) (key y)) (Some x) (find (λ z. eqb (key z) (key y)) xs) ≡ Some x =
          rw (eq-eqb _ _ same) refl in
          absurd (let wrong : Some x ≡ None = sym found ∙ absent in cc)
      | inr other ↦ let rest : entry_at key (key y) xs ≡ None =
          sym (let skip : entry_at key (key y) (x ∷ xs) ≡ entry_at key (key y) xs = rw (ne_eqb _ _ other) refl in skip)
          ∙ absent in
          elim (cases_lt (key y) (key x)) [
            | inl lt ↦ rw (lt-ltb _ _ lt)
                ((lt, each_weaker (λ z. key x < key z) (λ z. key y < key z) (λ z h. omega (arith, lt, h)) xs up.0), up)
            | inr ge ↦ rw (le-ltb _ _ ge) (
              each_with (λ z. key x < key z) key y xs (omega (arith, ge, other)) up.0,
              ascends_with key y xs up.1 rest,
            )
          ]
    ]

pub ascends_without : {T : Type 0} (key : T → ℕ) (k : ℕ) (xs : List T) → IsAscending key xs
    → IsAscending key (without_entry key k xs)
ascends_without key k [] up = tt
ascends_without key k (x ∷ xs) up =
    elim (cases_eq (key x) k) [
      | inl same ↦ rw (eq-eqb _ _ same) (ascends_without key k xs up.1)
      | inr other ↦ rw (ne_eqb _ _ other) (
        each_without (λ z. key x < key z) key k xs up.0,
        ascends_without key k xs up.1,
      )
    ]

pub ascends_changed : {T : Type 0} (key : T → ℕ) (y : T) (xs : List T) → IsAscending key xs
    → IsAscending key (with_entry_changed key y xs)
ascends_changed key y [] up = tt
ascends_changed key y (x ∷ xs) up =
    let later : AllByRecursion (λ z. key x < key z) (with_entry_changed key y xs) =
    each_changed (λ z. key x < key z) key y (λ z same h. omega (arith, same, h)) xs up.0 in
    elim (cases_eq (key x) (key y)) [
      | inl same ↦ rw (eq-eqb _ _ same) (
        each_weaker (λ z. key x < key z) (λ z. key y < key z) (λ z h. omega (arith, same, h))
            (with_entry_changed key y xs) later,
        ascends_changed key y xs up.1,
      )
      | inr other ↦ rw (ne_eqb _ _ other) (later, ascends_changed key y xs up.1)
    ]

-- ---- the index of a key

-- the number of members of a set in ascending order before a key
abbrev pub place_of : {T : Type 0} → (T → ℕ) → ℕ → List T → ℕ
place_of key k [] = 0
place_of key k (x ∷ xs) = if nat_lt (key x) k then suc (place_of key k xs) else 0

pub place_bound : {T : Type 0} (key : T → ℕ) (k : ℕ) (xs : List T) → place_of key k xs ≤ length xs
place_bound key k [] = omega arith
place_bound key k (x ∷ xs) =
    let more = place_bound key k xs in
    elim (cases_lt (key x) k) [
      | inl lt ↦ rw (lt-ltb _ _ lt) (omega (arith, more))
      | inr ge ↦
          rw (le-ltb _ _ ge) (omega arith)
    ]

-- the index of a key is after each lower key, at the key itself, and before each greater one
pub place_above : {T : Type 0} (key : T → ℕ) (k : ℕ) (xs : List T) (i : ℕ) (d : T) → IsAscending key xs → i < length xs
    → key (get_or xs i d) < k → i < place_of key k xs
place_above key k [] i d up lt below = absurd (omega (arith, lt))
place_above key k (x ∷ xs) zero d up lt below = rw (lt-ltb _ _ below) (omega arith)
place_above key k (x ∷ xs) (suc i) d up lt below =
    let first : key x < key (get_or xs i d) = each_within (λ y. key x < key y) xs i d up.0 (omega (arith, lt)) in
    let more : i < place_of key k xs = place_above key k xs i d up.1 (omega (arith, lt)) below in
    rw (lt-ltb (key x) k (omega (arith, first, below))) (omega (arith, more))

pub place_here : {T : Type 0} (key : T → ℕ) (k : ℕ) (xs : List T) (i : ℕ) (d : T) → IsAscending key xs → i < length xs
    → key (get_or xs i d) ≡ k → i ≡ place_of key k xs
place_here key k [] i d up lt same = absurd (omega (arith, lt))
place_here key k (x ∷ xs) zero d up lt same = rw (le-ltb (key x) k (omega (arith, same))) refl
place_here key k (x ∷ xs) (suc i) d up lt same =
    let first : key x < key (get_or xs i d) = each_within (λ y. key x < key y) xs i d up.0 (omega (arith, lt)) in
    let more : i ≡ place_of key k xs = place_here key k xs i d up.1 (omega (arith, lt)) same in
    rw (lt-ltb (key x) k (omega (arith, first, same))) (omega (arith, more))

pub place_below : {T : Type 0} (key : T → ℕ) (k : ℕ) (xs : List T) (i : ℕ) (d : T) → i < length xs
    → k ≤ key (get_or xs i d) → place_of key k xs ≤ i
place_below key k [] i d lt above = absurd (omega (arith, lt))
place_below key k (x ∷ xs) zero d lt above = rw (le-ltb _ _ above) (omega arith)
place_below key k (x ∷ xs) (suc i) d lt above =
    let more : place_of key k xs ≤ i = place_below key k xs i d (omega (arith, lt)) above in
    elim (cases_lt (key x) k) [
      | inl below ↦ rw (lt-ltb _ _ below) (omega (arith, more))
      | inr ge ↦
          rw (le-ltb _ _ ge) (omega arith)
    ]

-- ---- the member at that index

not_later : {T : Type 0} (key : T → ℕ) (k : ℕ) (xs : List T) → AllByRecursion (λ x. k < key x) xs
    → entry_at key k xs ≡ None
not_later key k [] above = refl
not_later key k (x ∷ xs) above = let other : eqb (key x) k ≡ false =
    ne_eqb _ _ (λ same. omega (arith, above.0, same)) in rw other (not_later key k xs above.1)

pub found_at : {T : Type 0} (key : T → ℕ) (k : ℕ) (xs : List T) (d : T) → IsAscending key xs
    → place_of key k xs < length xs
    → key (get_or xs (place_of key k xs) d) ≡ k → entry_at key k xs ≡ Some (get_or xs (place_of key k xs) d)
found_at key k [] d up lt same = absurd (omega (arith, lt))
found_at {T} key k (x ∷ xs) d up lt same =
    elim (cases_lt (key x) k) [
      | inl below ↦
          let at : place_of key k (x ∷ xs) ≡ suc (place_of key k xs) = rw (lt-ltb _ _ below) refl in
          let other : eqb (key x) k ≡ false = ne_eqb _ _ (λ e. omega (arith, below, e)) in
          let same' : key (get_or xs (place_of key k xs) d) ≡ k =
          sym (ap (λ (n : ℕ). key (get_or (x ∷ xs) n d)) at) ∙ same in
          rw (at, other) (found_at key k xs d up.1 (omega (arith, lt, at)) same')
      | inr ge ↦
          let at : place_of key k (x ∷ xs) ≡ 0 = rw (le-ltb _ _ ge) refl in
          let here : key x ≡ k = sym (ap (λ (n : ℕ). key (get_or (x ∷ xs) n d)) at) ∙ same in
          rw (at, eq-eqb _ _ here) refl
    ]

pub absent_past : {T : Type 0} (key : T → ℕ) (k : ℕ) (xs : List T) → length xs ≤ place_of key k xs
    → entry_at key k xs ≡ None
absent_past key k [] ge = refl
absent_past key k (x ∷ xs) ge =
    elim (cases_lt (key x) k) [
      | inl below ↦
          let at : place_of key k (x ∷ xs) ≡ suc (place_of key k xs) = rw (lt-ltb _ _ below) refl in
          let other : eqb (key x) k ≡ false = ne_eqb _ _ (λ e. omega (arith, below, e)) in
          rw other (absent_past key k xs (omega (arith, ge, at)))
      | inr above ↦
          let at : place_of key k (x ∷ xs) ≡ 0 = rw (le-ltb _ _ above) refl in
          absurd (omega (arith, ge, at))
    ]

pub absent_at : {T : Type 0} (key : T → ℕ) (k : ℕ) (xs : List T) (d : T) → IsAscending key xs
    → place_of key k xs < length xs
    → (key (get_or xs (place_of key k xs) d) ≡ k → ⊥) → entry_at key k xs ≡ None
absent_at key k [] d up lt differs = refl
absent_at {T} key k (x ∷ xs) d up lt differs =
    elim (cases_lt (key x) k) [
      | inl below ↦
          let at : place_of key k (x ∷ xs) ≡ suc (place_of key k xs) = rw (lt-ltb _ _ below) refl in
          let other : eqb (key x) k ≡ false = ne_eqb _ _ (λ e. omega (arith, below, e)) in
          let moved : key (get_or (x ∷ xs) (place_of key k (x ∷ xs)) d) ≡ key (get_or xs (place_of key k xs) d) =
          ap (λ (n : ℕ). key (get_or (x ∷ xs) n d)) at in
          rw other (absent_at key k xs d up.1 (omega (arith, lt, at)) (λ e. differs (moved ∙ e)))
      | inr ge ↦
          let at : place_of key k (x ∷ xs) ≡ 0 = rw (le-ltb _ _ ge) refl in
          let here : key (get_or (x ∷ xs) (place_of key k (x ∷ xs)) d) ≡ key x =
          ap (λ (n : ℕ). key (get_or (x ∷ xs) n d)) at in
          let other : key x ≡ k → ⊥ = λ e. differs (here ∙ e) in
          rw (ne_eqb _ _ other) (not_later key k xs
          (each_weaker (λ z. key x < key z) (λ z. k < key z) (λ z h. omega (arith, ge, h)) xs up.0))
    ]

-- ---- the set after an edit at that index

skipped : {T : Type 0} (key : T → ℕ) (k : ℕ) (x : T) (xs : List T) → entry_at key k (x ∷ xs) ≡ None
    → (eqb (key x) k ≡ false) × (entry_at key k xs ≡ None)
skipped key k x xs absent =
    elim (cases_eq (key x) k) [
      | inl same ↦
          let found : entry_at key k (x ∷ xs) ≡ Some x = rw (eq-eqb _ _ same) refl in
          absurd (let wrong : Some x ≡ None = sym found ∙ absent in cc)
      | inr other ↦
          let past : entry_at key k (x ∷ xs) ≡ entry_at key k xs = rw (ne_eqb _ _ other) refl in
          (ne_eqb _ _ other, sym past ∙ absent)
    ]

pub without_absent : {T : Type 0} (key : T → ℕ) (k : ℕ) (xs : List T) → entry_at key k xs ≡ None
    → without_entry key k xs ≡ xs
without_absent key k [] absent = refl
without_absent {T} key k (x ∷ xs) absent =
    let rest = skipped key k x xs absent in
    rw rest.0 (ap (λ (ys : List T). x ∷ ys) (without_absent key k xs rest.1))

pub changed_absent : {T : Type 0} (key : T → ℕ) (y : T) (xs : List T) → entry_at key (key y) xs ≡ None
    → with_entry_changed key y xs ≡ xs
changed_absent key y [] absent = refl
changed_absent {T} key y (x ∷ xs) absent =
    let rest = skipped key (key y) x xs absent in
    rw rest.0 (ap (λ (ys : List T). x ∷ ys) (changed_absent key y xs rest.1))

absent_later : {T : Type 0} (key : T → ℕ) (k : ℕ) (x : T) (xs : List T) → IsAscending key (x ∷ xs) → k ≤ key x
    → entry_at key k xs ≡ None
absent_later key k x xs up ge =
    not_later key k xs (each_weaker (λ z. key x < key z) (λ z. k < key z) (λ z h. omega (arith, ge, h)) xs up.0)

pub inserted : {T : Type 0} (key : T → ℕ) (y : T) (xs : List T) → entry_at key (key y) xs ≡ None
    → insert xs (place_of key (key y) xs) y ≡ with_entry key y xs
inserted key y [] absent = refl
inserted {T} key y (x ∷ xs) absent =
    let rest = skipped key (key y) x xs absent in
    let other : key x ≡ key y → ⊥ = eqb-false _ _ rest.0 in
    elim (cases_lt (key x) (key y)) [
      | inl below ↦
          let at : place_of key (key y) (x ∷ xs) ≡ suc (place_of key (key y) xs) = rw (lt-ltb _ _ below) refl in
          let test : ltb (key y) (key x) ≡ false = le-ltb _ _ (omega (arith, below)) in
          rw (at, test) (ap (λ (ys : List T). x ∷ ys) (inserted key y xs rest.1))
      | inr ge ↦
          let at : place_of key (key y) (x ∷ xs) ≡ 0 = rw (le-ltb _ _ ge) refl in
          let test : ltb (key y) (key x) ≡ true = lt-ltb _ _ (omega (arith, ge, other)) in
          rw (at, test) refl
    ]

pub removed : {T : Type 0} (key : T → ℕ) (k : ℕ) (xs : List T) (d : T) → IsAscending key xs
    → place_of key k xs < length xs
    → key (get_or xs (place_of key k xs) d) ≡ k → remove xs (place_of key k xs) ≡ without_entry key k xs
removed key k [] d up lt same = refl
removed {T} key k (x ∷ xs) d up lt same =
    elim (cases_lt (key x) k) [
      | inl below ↦
          let at : place_of key k (x ∷ xs) ≡ suc (place_of key k xs) = rw (lt-ltb _ _ below) refl in
          let other : eqb (key x) k ≡ false = ne_eqb _ _ (λ e. omega (arith, below, e)) in
          let same' : key (get_or xs (place_of key k xs) d) ≡ k =
          sym (ap (λ (n : ℕ). key (get_or (x ∷ xs) n d)) at) ∙ same in
          rw (at, other) (ap (λ (ys : List T). x ∷ ys) (removed key k xs d up.1 (omega (arith, lt, at)) same'))
      | inr ge ↦
          let at : place_of key k (x ∷ xs) ≡ 0 = rw (le-ltb _ _ ge) refl in
          let here : key x ≡ k = sym (ap (λ (n : ℕ). key (get_or (x ∷ xs) n d)) at) ∙ same in
          rw (at, eq-eqb _ _ here) (sym (without_absent key k xs (absent_later key k x xs up ge)))
    ]

pub changed : {T : Type 0} (key : T → ℕ) (y : T) (xs : List T) (d : T) → IsAscending key xs
    → place_of key (key y) xs < length xs
    → key (get_or xs (place_of key (key y) xs) d) ≡ key y
    → set xs (place_of key (key y) xs) y ≡ with_entry_changed key y xs
changed key y [] d up lt same = refl
changed {T} key y (x ∷ xs) d up lt same =
    elim (cases_lt (key x) (key y)) [
      | inl below ↦
          let at : place_of key (key y) (x ∷ xs) ≡ suc (place_of key (key y) xs) = rw (lt-ltb _ _ below) refl in
          let other : eqb (key x) (key y) ≡ false = ne_eqb _ _ (λ e. omega (arith, below, e)) in
          let same' : key (get_or xs (place_of key (key y) xs) d) ≡ key y =
          sym (ap (λ (n : ℕ). key (get_or (x ∷ xs) n d)) at) ∙ same in
          rw (at, other) (ap (λ (ys : List T). x ∷ ys) (changed key y xs d up.1 (omega (arith, lt, at)) same'))
      | inr ge ↦
          let at : place_of key (key y) (x ∷ xs) ≡ 0 = rw (le-ltb _ _ ge) refl in
          let here : key x ≡ key y = sym (ap (λ (n : ℕ). key (get_or (x ∷ xs) n d)) at) ∙ same in
          rw (at, eq-eqb _ _ here)
          (ap (λ (ys : List T). y ∷ ys) (sym (changed_absent key y xs (absent_later key (key y) x xs up ge))))
    ]

-- ---- what a search finds

pub record IsFoundAt {T : Type 0} (key : T → ℕ) (k : ℕ) (xs : List T) (p : ℕ) : Type 0 where
  pub found : slice_get xs p ≡ entry_at key k xs
  pub in_bounds : p < length xs
  pub removed : remove xs p ≡ without_entry key k xs
  pub changed : (y : T) → key y ≡ k → set xs p y ≡ with_entry_changed key y xs

pub record IsAbsentAt {T : Type 0} (key : T → ℕ) (k : ℕ) (xs : List T) (p : ℕ) : Type 0 where
  pub absent : entry_at key k xs ≡ None
  pub room : p ≤ length xs
  pub inserted : (y : T) → key y ≡ k → insert xs p y ≡ with_entry key y xs

found_there : {T : Type 0} (key : T → ℕ) (k : ℕ) (xs : List T) (p : ℕ) (d : T) → IsAscending key xs
    → p ≡ place_of key k xs
    → p < length xs → key (get_or xs p d) ≡ k → IsFoundAt key k xs p
found_there {T} key k xs p d up at lt same =
    let lt' : place_of key k xs < length xs = omega (arith, lt, at) in
    let same' : key (get_or xs (place_of key k xs) d) ≡ k = ap (λ (n : ℕ). key (get_or xs n d)) (sym at) ∙ same in
    rw at (record {
      found = slice_get-get_or xs (place_of key k xs) d lt' ∙ sym (found_at key k xs d up lt' same');
      in_bounds = lt';
      removed = removed key k xs d up lt' same';
      changed = λ y e. let lt'' : place_of key (key y) xs < length xs = (rw e lt') in
          let same'' : key (get_or xs (place_of key (key y) xs) d) ≡ key y = (rw e same') in
          ap (λ (n : ℕ). set xs (place_of key n xs) y) (sym e) ∙ changed key y xs d up lt'' same'';
    })

pub found_here : {T : Type 0} (key : T → ℕ) (k : ℕ) (xs : List T) (i : ℕ) (d : T) → IsAscending key xs → i < length xs
    → key (get_or xs i d) ≡ k → IsFoundAt key k xs i
found_here key k xs i d up lt same = found_there key k xs i d up (place_here key k xs i d up lt same) lt same

absent_there : {T : Type 0} (key : T → ℕ) (k : ℕ) (xs : List T) (p : ℕ) → entry_at key k xs ≡ None
    → p ≡ place_of key k xs → IsAbsentAt key k xs p
absent_there {T} key k xs p absent at = record {
  absent = absent;
  room = omega (arith, at, place_bound key k xs);
  inserted = λ y e. let none : entry_at key (key y) xs ≡ None = (rw e absent) in
      ap (λ (n : ℕ). insert xs n y) (at ∙ ap (λ (m : ℕ). place_of key m xs) (sym e)) ∙ inserted key y xs none;
}

entry_absent : {T : Type 0} (key : T → ℕ) (k : ℕ) (xs : List T) → IsAscending key xs
    → ((d : T) → place_of key k xs < length xs → k < key (get_or xs (place_of key k xs) d)) → entry_at key k xs ≡ None
entry_absent key k [] up apart = refl
entry_absent key k (x ∷ xs) up apart =
    elim (cases_lt (place_of key k (x ∷ xs)) (length (x ∷ xs))) [
      | inl lt ↦ absent_at key k (x ∷ xs) x up lt (λ same. omega (arith, same, apart x lt))
      | inr past ↦ absent_past key k (x ∷ xs) past
    ]

-- no member is past the last
pub apart_at_end : {T : Type 0} (key : T → ℕ) (k : ℕ) (xs : List T) (d : T) → length xs < length xs
    → k < key (get_or xs (length xs) d)
apart_at_end key k xs d past = absurd (omega (arith, past))

-- nothing is left between what is below and what is above
pub absent_between : {T : Type 0} (key : T → ℕ) (k : ℕ) (xs : List T) (low high : ℕ) → IsAscending key xs → high ≤ low
    → low ≤ place_of key k xs → place_of key k xs ≤ high
    → ((d : T) → high < length xs → k < key (get_or xs high d)) → IsAbsentAt key k xs low
absent_between {T} key k xs low high up met from to apart =
    let at : low ≡ place_of key k xs = omega (arith, met, from, to) in
    let end : high ≡ place_of key k xs = omega (arith, met, from, to) in
    let past : (d : T) → place_of key k xs < length xs → k < key (get_or xs (place_of key k xs) d) = rw (← end) apart in
    absent_there key k xs low (entry_absent key k xs up past) at

slice_get_none : {T : Type 0} (xs : List T) (p : ℕ) → slice_get xs p ≡ None → p < length xs → ⊥
slice_get_none [] p none lt = omega (arith, lt)
slice_get_none (x ∷ xs) zero none lt = absurd cc
slice_get_none (x ∷ xs) (suc p) none lt = slice_get_none xs p none (omega (arith, lt))

-- a key that is at an index is not absent
pub not_both : {T : Type 0} (key : T → ℕ) (k : ℕ) (xs : List T) (p : ℕ) → slice_get xs p ≡ entry_at key k xs
    → p < length xs → entry_at key k xs ≡ None → ⊥
not_both key k xs p found lt absent = let there : slice_get xs p ≡ None = found ∙ absent in slice_get_none xs p there lt
