-- Lookups in ordered sets: how edits change them, that they determine the set, and the number of members of a set whose
-- keys are among those of another.
use Rattle.script_config.proofs.Words.{[], ◌<◌, ◌∙◌, ◌∷◌, ◌≡◌, ◌≢◌, ◌≤◌, AllByRecursion, IsAscending, List, None, Some}
use Rattle.script_config.proofs.Words.{ap, arith, ascends_with, cases_eq, cases_lt, changed_at, each_weaker, entry_at}
use Rattle.script_config.proofs.Words.{eq-eqb, eqb, false, inl, inr, le-ltb, length, length_with, lt-ltb, ne_eqb, refl}
use Rattle.script_config.proofs.Words.{sym, with_entry, without_entry, ℕ}
use Rattle.script_config.proofs.Members.{each_both}

pub some_is_none : {T : Type 0} {P : Type 0} (x : T) → Some x ≡ None → P
some_is_none x e = absurd (cc)

-- ---- one lookup

pub found_first : {T : Type 0} (key : T → ℕ) (k : ℕ) (x : T) (xs : List T) → key x ≡ k
    → entry_at key k (x ∷ xs) ≡ Some x
found_first key k x xs same = rw (eq-eqb _ _ same) refl

pub found_later : {T : Type 0} (key : T → ℕ) (k : ℕ) (x : T) (xs : List T) → (key x ≢ k)
    → entry_at key k (x ∷ xs) ≡ entry_at key k xs
found_later key k x xs other = rw (ne_eqb _ _ other) refl

pub found_never : {T : Type 0} (key : T → ℕ) (k : ℕ) (xs : List T) → AllByRecursion (λ x. k < key x) xs
    → entry_at key k xs ≡ None
found_never key k [] above = refl
found_never key k (x ∷ xs) above = found_later key k x xs (λ same. let h = above.0 in omega (arith, h, same))
    ∙ found_never key k xs above.1

-- a member found is the first, or one of those after it
pub found_cases : {T : Type 0} (key : T → ℕ) (k : ℕ) (x : T) (xs : List T) (y : T) → entry_at key k (x ∷ xs) ≡ Some y
    → (key x ≢ k) → entry_at key k xs ≡ Some y
found_cases key k x xs y e other = sym (found_later key k x xs other) ∙ e

-- each member is found by its key
pub each_found : {T : Type 0} (key : T → ℕ) (xs : List T) → IsAscending key xs
    → AllByRecursion (λ y. entry_at key (key y) xs ≡ Some y) xs
each_found key [] up = tt
each_found key (x ∷ xs) up = (
  found_first key (key x) x xs refl,
  each_both (λ y. key x < key y) (λ y. entry_at key (key y) xs ≡ Some y) (λ y. entry_at key (key y) (x ∷ xs) ≡ Some y)
      (λ y above found. found_later key (key y) x xs (λ same. omega (arith, above, same)) ∙ found) xs up.0
      (each_found key xs up.1),
)

-- ---- after edits

pub with_here : {T : Type 0} (key : T → ℕ) (y : T) (xs : List T) → entry_at key (key y) xs ≡ None
    → entry_at key (key y) (with_entry key y xs) ≡ Some y
with_here key y [] absent = found_first key (key y) y [] refl
with_here key y (x ∷ xs) absent =
    let other : key x ≢ key y = λ same. some_is_none x (sym (found_first key (key y) x xs same) ∙ absent) in
    elim (cases_lt (key y) (key x)) [
      | inl lt ↦ rw (lt-ltb _ _ lt) (found_first key (key y) y (x ∷ xs) refl)
      | inr ge ↦ rw (le-ltb _ _ ge) (found_later key (key y) x (with_entry key y xs) other
          ∙ with_here key y xs (sym (found_later key (key y) x xs other) ∙ absent))
    ]

pub with_others : {T : Type 0} (key : T → ℕ) (y : T) (xs : List T) (k : ℕ) → (k ≢ key y)
    → entry_at key k (with_entry key y xs) ≡ entry_at key k xs
with_others key y [] k other = found_later key k y [] (λ same. other (sym same))
with_others key y (x ∷ xs) k other =
    elim (cases_lt (key y) (key x)) [
      | inl lt ↦ rw (lt-ltb _ _ lt) (found_later key k y (x ∷ xs) (λ same. other (sym same)))
      | inr ge ↦ rw (le-ltb _ _ ge) (elim (cases_eq (key x) k) [
        | inl same ↦ found_first key k x (with_entry key y xs) same ∙ sym (found_first key k x xs same)
        | inr differs ↦ found_later key k x (with_entry key y xs) differs ∙ with_others key y xs k other
            ∙ sym (found_later key k x xs differs)
      ])
    ]

pub without_here : {T : Type 0} (key : T → ℕ) (k : ℕ) (xs : List T) → entry_at key k (without_entry key k xs) ≡ None
without_here key k [] = refl
without_here key k (x ∷ xs) =
    elim (cases_eq (key x) k) [
      | inl same ↦ rw (eq-eqb _ _ same) (without_here key k xs)
      | inr other ↦ let test : eqb (key x) k ≡ false = ne_eqb _ _ other in
          rw test (found_later key k x (without_entry key k xs) other ∙ without_here key k xs)
    ]

pub without_others : {T : Type 0} (key : T → ℕ) (j : ℕ) (xs : List T) (k : ℕ) → (k ≢ j)
    → entry_at key k (without_entry key j xs) ≡ entry_at key k xs
without_others key j [] k other = refl
without_others key j (x ∷ xs) k other =
    elim (cases_eq (key x) j) [
      | inl same ↦ rw (eq-eqb _ _ same) (without_others key j xs k other
          ∙ sym (found_later key k x xs (λ e. other (sym e ∙ same))))
      | inr differs ↦ let test : eqb (key x) j ≡ false = ne_eqb _ _ differs in rw test (elim (cases_eq (key x) k) [
        | inl here ↦ found_first key k x (without_entry key j xs) here ∙ sym (found_first key k x xs here)
        | inr past ↦ found_later key k x (without_entry key j xs) past ∙ without_others key j xs k other
            ∙ sym (found_later key k x xs past)
      ])
    ]

pub changed_found : {T : Type 0} (key : T → ℕ) (k : ℕ) (change : T → T) (xs : List T) (y : T)
    → ((x : T) → key (change x) ≡ key x) → entry_at key k xs ≡ Some y
    → entry_at key k (changed_at key k change xs) ≡ Some (change y)
changed_found key k change [] y keeps e = some_is_none y (sym e)
changed_found key k change (x ∷ xs) y keeps e =
    elim (cases_eq (key x) k) [
      | inl same ↦ rw (eq-eqb _ _ same) (
          let is : Some x ≡ Some y = sym (found_first key k x xs same) ∙ e in
          let one : x ≡ y = cc in
          found_first key k (change x) (changed_at key k change xs) (keeps x ∙ same) ∙ ap (λ z. Some (change z)) one)
      | inr other ↦ let test : eqb (key x) k ≡ false = ne_eqb _ _ other in rw test (
          found_later key k x (changed_at key k change xs) other
          ∙ changed_found key k change xs y keeps (found_cases key k x xs y e other))
    ]

pub changed_others : {T : Type 0} (key : T → ℕ) (j : ℕ) (change : T → T) (xs : List T) (k : ℕ)
    → ((x : T) → key (change x) ≡ key x) → (k ≢ j) → entry_at key k (changed_at key j change xs) ≡ entry_at key k xs
changed_others key j change [] k keeps other = refl
changed_others key j change (x ∷ xs) k keeps other =
    elim (cases_eq (key x) j) [
      | inl same ↦ rw (eq-eqb _ _ same) (
          found_later key k (change x) (changed_at key j change xs) (λ e. other (sym e ∙ keeps x ∙ same))
          ∙ changed_others key j change xs k keeps other ∙ sym (found_later key k x xs (λ e. other (sym e ∙ same))))
      | inr differs ↦ let test : eqb (key x) j ≡ false = ne_eqb _ _ differs in rw test (elim (cases_eq (key x) k) [
        | inl here ↦ found_first key k x (changed_at key j change xs) here ∙ sym (found_first key k x xs here)
        | inr past ↦ found_later key k x (changed_at key j change xs) past
            ∙ changed_others key j change xs k keeps other ∙ sym (found_later key k x xs past)
      ])
    ]

-- ---- lookups determine the set

absent_behind : {T : Type 0} (key : T → ℕ) (x : T) (xs : List T) (k : ℕ) → IsAscending key (x ∷ xs) → key x ≡ k
    → entry_at key k xs ≡ None
absent_behind key x xs k up same =
    found_never key k xs (each_weaker (λ z. key x < key z) (λ z. k < key z) (λ z h. omega (arith, h, same)) xs up.0)

above_found : {T : Type 0} (key : T → ℕ) (k : ℕ) (n : ℕ) (xs : List T) (y : T) → AllByRecursion (λ x. n < key x) xs
    → entry_at key k xs ≡ Some y → n < k
above_found key k n [] y above e = some_is_none y (sym e)
above_found key k n (x ∷ xs) y above e =
    elim (cases_eq (key x) k) [
      | inl same ↦ let h = above.0 in omega (arith, h, same)
      | inr other ↦ above_found key k n xs y above.1 (found_cases key k x xs y e other)
    ]

-- lists with the same lookups have the same first member
heads_equal : {T : Type 0} (key : T → ℕ) (x y : T) (xs ys : List T) → IsAscending key (x ∷ xs)
    → IsAscending key (y ∷ ys)
    → ((k : ℕ) → entry_at key k (x ∷ xs) ≡ entry_at key k (y ∷ ys)) → x ≡ y
heads_equal key x y xs ys h k same =
    elim (cases_eq (key y) (key x)) [
      | inl here ↦
          let e : Some x ≡ Some y = sym (found_first key (key x) x xs refl) ∙ same (key x)
          ∙ found_first key (key x) y ys here in
          cc
      | inr other ↦
          let one : entry_at key (key x) ys ≡ Some x =
          sym (found_later key (key x) y ys other) ∙ sym (same (key x)) ∙ found_first key (key x) x xs refl in
          let two : entry_at key (key y) xs ≡ Some y =
          sym (found_later key (key y) x xs (λ e. other (sym e))) ∙ same (key y)
          ∙ found_first key (key y) y ys refl in
          let less = above_found key (key x) (key y) ys x k.0 one in
          let more = above_found key (key y) (key x) xs y h.0 two in
          absurd (omega (arith, less, more))
    ]

pub same_found : {T : Type 0} (key : T → ℕ) (xs ys : List T) → IsAscending key xs → IsAscending key ys
    → ((k : ℕ) → entry_at key k xs ≡ entry_at key k ys) → xs ≡ ys
same_found key [] [] h k same = refl
same_found key [] (y ∷ ys) h k same = some_is_none y (sym (found_first key (key y) y ys refl) ∙ sym (same (key y)))
same_found key (x ∷ xs) [] h k same = some_is_none x (sym (found_first key (key x) x xs refl) ∙ same (key x))
same_found key (x ∷ xs) (y ∷ ys) h k same =
    let head : x ≡ y = heads_equal key x y xs ys h k same in
    let tail : xs ≡ ys = same_found key xs ys h.1 k.1 (λ j. elim (cases_eq (key x) j) [
      | inl here ↦ absent_behind key x xs j h here ∙ sym (absent_behind key y ys j k (sym (ap key head) ∙ here))
      | inr other ↦ sym (found_later key j x xs other) ∙ same j ∙ found_later key j y ys (λ e. other (ap key head ∙ e))
    ]) in
    cc

-- ---- sets whose keys are among those of another

abbrev pub AreAmong : {T : Type 0} → (T → ℕ) → List T → List T → Type 0
AreAmong {T} key xs ys = (k : ℕ) (x : T) → entry_at key k xs ≡ Some x → (y : T) × (entry_at key k ys ≡ Some y)

pub among_shorter : {T : Type 0} (key : T → ℕ) (xs ys : List T) → IsAscending key xs → IsAscending key ys
    → AreAmong key xs ys → length xs ≤ length ys
among_shorter key [] ys h k among = omega arith
among_shorter key (x ∷ xs) [] h k among =
    let found = among (key x) x (found_first key (key x) x xs refl) in some_is_none found.0 (sym found.1)
among_shorter key (x ∷ xs) (y ∷ ys) h k among =
    elim (cases_lt (key y) (key x)) [
      | inl lt ↦
          let rest = among_shorter key (x ∷ xs) ys h k.1 (λ j z e.
          let found = among j z e in
          let at : key x ≤ j = (elim (cases_eq (key x) j) [
            | inl same ↦ omega (arith, same)
            | inr other ↦ let above =
                above_found key j (key x) xs z h.0 (found_cases key j x xs z e other) in omega (arith, above)
          ]) in
          (found.0, found_cases key j y ys found.0 found.1 (λ same. omega (arith, same, at, lt)))) in
          omega (arith, rest)
      | inr ge ↦ elim (cases_eq (key y) (key x)) [
        | inl same ↦
            let rest = among_shorter key xs ys h.1 k.1 (λ j z e.
            let above = above_found key j (key x) xs z h.0 e in
            let found = among j z (found_later key j x xs (λ e'. omega (arith, e', above)) ∙ e) in
            (found.0, found_cases key j y ys found.0 found.1 (λ e'. omega (arith, e', above, same)))) in
            omega (arith, rest)
        | inr other ↦
            let found = among (key x) x (found_first key (key x) x xs refl) in
            let above = above_found key (key x) (key y) ys found.0 k.0
            (found_cases key (key x) y ys found.0 found.1 other) in
            absurd (omega (arith, above, ge))
      ]
    ]

with_among : {T : Type 0} (key : T → ℕ) (y : T) (xs ys : List T) (z : T) → entry_at key (key y) ys ≡ Some z
    → AreAmong key xs ys → AreAmong key (with_entry key y xs) ys
with_among key y xs ys z there among k x e =
    elim (cases_eq k (key y)) [
      | inl same ↦ (z, ap (λ (i : ℕ). entry_at key i ys) same ∙ there)
      | inr other ↦ among k x (sym (with_others key y xs k other) ∙ e)
    ]

-- there is room for one more member whose key is in the list and unused
pub room_for : {T : Type 0} (key : T → ℕ) (y : T) (xs ys : List T) → IsAscending key xs → IsAscending key ys
    → entry_at key (key y) xs ≡ None → (z : T) → entry_at key (key y) ys ≡ Some z
    → AreAmong key xs ys → length xs < length ys
room_for key y xs ys up above free z there among =
    let one_more : length (with_entry key y xs) ≤ length ys =
    among_shorter key (with_entry key y xs) ys (ascends_with key y xs up free) above
    (with_among key y xs ys z there among) in
    let longer = length_with key y xs in
    omega (arith, one_more, longer)
