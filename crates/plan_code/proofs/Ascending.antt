-- Lists in ascending order of a key: reading them in order, and binary search.
use Rattle.plan_code.proofs.Words.{[], ◌+◌, ◌<◌, ◌↔◌, ◌∷◌, ◌≡◌, ◌≢◌, ◌≤◌, AllByRecursion, IsAscending, IsLabel, Label}
use Rattle.plan_code.proofs.Words.{List, None, Some, ap, arith, cases_lt, drop, drop_more, eq-eqb, eqb, find, get_or}
use Rattle.plan_code.proofs.Words.{get_or_default, inl, inr, label_key, length, ne_eqb, refl, suc, zero, ℕ}
use Rattle.mux_types.proofs.Tables.{each_weaker}

-- the keys ascend, and the first is `low` or more
abbrev pub AscendsFrom : {T : Type 0} → (T → ℕ) → ℕ → List T → Type 0
AscendsFrom key low [] = Unit {0}
AscendsFrom key low (x ∷ xs) = (low ≤ key x) × AscendsFrom key (key x + 1) xs

each_above : {T : Type 0} (key : T → ℕ) (low : ℕ) (xs : List T) → AscendsFrom key (low + 1) xs
    → AllByRecursion (λ y. low < key y) xs
each_above key low [] up = tt
each_above key low (x ∷ xs) up = (
  omega (arith, up.0),
  each_weaker (λ y. key x < key y) (λ y. low < key y) (λ y h. omega (arith, h, up.0)) xs
      (each_above key (key x) xs up.1),
)

pub from_ascends : {T : Type 0} (key : T → ℕ) (low : ℕ) (xs : List T) → AscendsFrom key low xs → IsAscending key xs
from_ascends key low [] up = tt
from_ascends key low (x ∷ xs) up = (each_above key (key x) xs up.1, from_ascends key (key x + 1) xs up.1)

pub ascends_from : {T : Type 0} (key : T → ℕ) (low : ℕ) (xs : List T) → IsAscending key xs
    → AllByRecursion (λ y. low ≤ key y) xs → AscendsFrom key low xs
ascends_from key low [] up above = tt
ascends_from key low (x ∷ xs) up above = (
  above.0,
  ascends_from key (key x + 1) xs up.1
      (each_weaker (λ y. key x < key y) (λ y. key x + 1 ≤ key y) (λ y h. omega (arith, h)) xs up.0),
)

each_from_zero : {T : Type 0} (key : T → ℕ) (xs : List T) → AllByRecursion (λ y. 0 ≤ key y) xs
each_from_zero key [] = tt
each_from_zero key (x ∷ xs) = (omega arith, each_from_zero key xs)

pub ascends_from_zero : {T : Type 0} (key : T → ℕ) (xs : List T) → IsAscending key xs → AscendsFrom key 0 xs
ascends_from_zero key xs up = ascends_from key 0 xs up (each_from_zero key xs)

-- ---- labels, as a loop tests them

pub record AreLabels (count low : ℕ) (xs : List Label) : Type 0 where
  pub formed : AllByRecursion (IsLabel count) xs
  pub ascending : AscendsFrom label_key low xs

pub are_labels_start : (count : ℕ) (xs : List Label) → (AllByRecursion (IsLabel count) xs × IsAscending label_key xs)
    ↔ AreLabels count 0 xs
are_labels_start count xs = (
  λ h. record { formed = h.0; ascending = ascends_from_zero label_key xs h.1 },
  λ h. (h.formed, from_ascends label_key 0 xs h.ascending),
)

pub not_labels_below : (count low i pc : ℕ) (xs : List Label) (d : Label) → i < length xs → pc ≡ (get_or xs i d).pc
    → pc < low → AreLabels count low (drop i xs) → ⊥
not_labels_below count low i pc xs d lt is below h =
    omega (arith, is, below, (rw (drop_more xs i d lt) at h).ascending.0)

-- ---- binary search

each_at : {T : Type 0} (P : T → Type 0) (xs : List T) (i : ℕ) (d : T) → AllByRecursion P xs → i < length xs
    → P (get_or xs i d)
each_at P [] i d all lt = absurd (omega (arith, lt))
each_at P (x ∷ xs) zero d all lt = all.0
each_at P (x ∷ xs) (suc i) d all lt = each_at P xs i d all.1 (omega (arith, lt))

pub ascends_between : {T : Type 0} (key : T → ℕ) (xs : List T) (i j : ℕ) (d : T) → IsAscending key xs → i < j
    → j < length xs → key (get_or xs i d) < key (get_or xs j d)
ascends_between key [] i j d up lt within = absurd (omega (arith, within))
ascends_between key (x ∷ xs) i zero d up lt within = absurd (omega (arith, lt))
ascends_between key (x ∷ xs) zero (suc j) d up lt within =
    each_at (λ y. key x < key y) xs j d up.0 (omega (arith, within))
ascends_between key (x ∷ xs) (suc i) (suc j) d up lt within =
    ascends_between key xs i j d up.1 (omega (arith, lt)) (omega (arith, within))

pub find_at : {T : Type 0} (key : T → ℕ) (k : ℕ) (xs : List T) (i : ℕ) (d : T) → IsAscending key xs → i < length xs
    → key (get_or xs i d) ≡ k → find (λ x. eqb (key x) k) xs ≡ Some (get_or xs i d)
find_at key k [] i d up lt same = absurd (omega (arith, lt))
find_at key k (x ∷ xs) zero d up lt same = rw (eq-eqb _ _ same) refl
find_at key k (x ∷ xs) (suc i) d up lt same =
    let within : i < length xs = omega (arith, lt) in
    let other : key x ≡ k → ⊥ = λ e. omega (arith, e, same, each_at (λ y. key x < key y) xs i d up.0 within) in
    rw (ne_eqb _ _ other) (find_at key k xs i d up.1 within same)

pub find_none : {T : Type 0} (key : T → ℕ) (k : ℕ) (xs : List T) (d : T)
    → ((i : ℕ) → i < length xs → key (get_or xs i d) ≡ k → ⊥) → find (λ x. eqb (key x) k) xs ≡ None
find_none key k [] d absent = refl
find_none key k (x ∷ xs) d absent =
    rw (ne_eqb _ _ (absent 0 (omega arith))) (find_none key k xs d (λ i lt. absent (suc i) (omega (arith, lt))))

-- if the key at an index is below k, so are all keys before it; likewise above
pub below_middle : {T : Type 0} (key : T → ℕ) (k : ℕ) (xs : List T) (m : ℕ) (e : T) → IsAscending key xs → m < length xs
    → key (get_or xs m e) < k
    → (i : ℕ) (d : T) → i < m + 1 → key (get_or xs i d) < k
below_middle key k xs m e up within below i d lt =
    let same : key (get_or xs m e) ≡ key (get_or xs m d) = ap key (get_or_default xs m e d within) in
    elim (cases_lt i m) [
      | inl before ↦ omega (arith, same, below, ascends_between key xs i m d up before within)
      | inr after ↦ let here : i ≡ m = omega arith in rw here (omega (arith, same, below))
    ]

pub above_middle : {T : Type 0} (key : T → ℕ) (k : ℕ) (xs : List T) (m : ℕ) (e : T) → IsAscending key xs → m < length xs
    → key (get_or xs m e) ≢ k → k ≤ key (get_or xs m e) → (i : ℕ) (d : T) → m ≤ i → i < length xs
    → k < key (get_or xs i d)
above_middle key k xs m e up within other above i d from lt =
    let same : key (get_or xs m e) ≡ key (get_or xs m d) = ap key (get_or_default xs m e d within) in
    elim (cases_lt m i) [
      | inl after ↦ omega (arith, same, above, other, ascends_between key xs m i d up after lt)
      | inr here ↦ let at : i ≡ m = omega arith in rw at (omega (arith, same, above, other))
    ]

-- no entry is left between those below and those above
pub find_between : {T : Type 0} (key : T → ℕ) (k : ℕ) (xs : List T) (low high : ℕ) → high ≤ low
    → ((i : ℕ) (d : T) → i < low → key (get_or xs i d) < k)
    → ((i : ℕ) (d : T) → high ≤ i → i < length xs → k < key (get_or xs i d))
    → find (λ x. eqb (key x) k) xs ≡ None
find_between key k [] low high met below above = refl
find_between key k (x ∷ xs) low high met below above =
    find_none key k (x ∷ xs) x (λ i lt same.
    elim (cases_lt i low) [
      | inl before ↦ omega (arith, same, below i x before)
      | inr after ↦ omega (arith, same, above i x (omega arith) lt)
    ])
