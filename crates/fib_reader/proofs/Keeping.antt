-- Sets of entries, kept in ascending order of their identifiers.
use Rattle.fib_reader.proofs.Words.{[], ◌++◌, ◌+◌, ◌-◌, ◌<◌, ◌||◌, ◌∙◌, ◌∷◌, ◌≡◌, ◌≢◌, ◌≤◌, AllByRecursion, Bool}
use Rattle.fib_reader.proofs.Words.{Bor, IsAscending, IsRaw, List, Option, Raw, Some, absent_told, ap, arith}
use Rattle.fib_reader.proofs.Words.{ascends_with, cases_Bool, cases_eq, cond, cond_both, each_changed, each_weaker}
use Rattle.fib_reader.proofs.Words.{each_with, entry_at, eq-eqb, false, found_here, get_or_from_slice_get, has_entry}
use Rattle.fib_reader.proofs.Words.{has_room, identifier_of, inl, inr, is_found_lent, is_known, is_some, kept, length}
use Rattle.fib_reader.proofs.Words.{length_with, lt-ltb, nat_lt, ne_eqb, option_copied, or_left, or_right, present}
use Rattle.fib_reader.proofs.Words.{refl, slice_get, slice_get_within, subst, suc, sym, take, take-append_seam, true}
use Rattle.fib_reader.proofs.Words.{with_entry, with_entry_changed, zero, ℕ}

-- the list after a known entry is kept, and after a new one is
pub kept-known : (raw : Raw) (raws : List Raw) → is_known raw raws ≡ true
    → kept raw raws ≡ with_entry_changed identifier_of raw raws
kept-known raw raws known = rw (known) refl

pub kept-new : (raw : Raw) (raws : List Raw) → is_known raw raws ≡ false
    → kept raw raws ≡ with_entry identifier_of raw raws
kept-new raw raws known = rw (known) refl

pub room_for_known : (raw : Raw) (raws : List Raw) → is_known raw raws ≡ true → has_room raw raws ≡ true
room_for_known raw raws known = ap (λ b. b || nat_lt (length raws) 64) known

pub room_for_new : (raw : Raw) (raws : List Raw) → length raws < 64 → has_room raw raws ≡ true
room_for_new raw raws few = or_right (is_known raw raws) (nat_lt (length raws) 64) (lt-ltb (length raws) 64 few)

-- a property of each entry is preserved
pub each_kept : (P : Raw → Type 0) (raw : Raw) (raws : List Raw) → P raw → AllByRecursion P raws
    → AllByRecursion P (kept raw raws)
each_kept P raw raws one all =
    cond_both (is_known raw raws) (with_entry_changed identifier_of raw raws) (with_entry identifier_of raw raws)
    (AllByRecursion P)
    (λ known. each_changed P identifier_of raw (λ x same p. one) raws all)
    (λ new. each_with P identifier_of raw raws one all)

-- ---- there are at most sixty-four sub-channels

-- at most this many numbers lie in a range
few_between :
    (low high : ℕ) (xs : List Raw) → IsAscending identifier_of xs → AllByRecursion (λ x. low ≤ identifier_of x) xs
    → AllByRecursion (λ x. identifier_of x < high) xs → length xs ≤ high - low
few_between low high [] up from below = omega arith
few_between low high (x ∷ xs) up from below =
    let above : AllByRecursion (λ y. identifier_of x + 1 ≤ identifier_of y) xs =
    each_weaker (λ y. identifier_of x < identifier_of y) (λ y. identifier_of x + 1 ≤ identifier_of y)
    (λ y lt. omega arith) xs up.0 in
    let more = few_between (identifier_of x + 1) high xs up.1 above below.1 in
    omega arith

-- a new one would be one more, and all are below 64
pub room_for_subs :
    (raw : Raw) (raws : List Raw) → IsAscending identifier_of raws
    → AllByRecursion (λ x. (x.ext ≡ 1) × (identifier_of x < 64)) raws
    → identifier_of raw < 64 → has_room raw raws ≡ true
room_for_subs raw raws up all one =
    elim (cases_Bool (is_known raw raws)) [
      | inl known ↦ room_for_known raw raws known
      | inr new ↦
          let below : AllByRecursion (λ x. identifier_of x < 64) raws =
          each_weaker (λ x. (x.ext ≡ 1) × (identifier_of x < 64)) (λ x. identifier_of x < 64) (λ x h. h.1) raws all in
          let more = each_with (λ x. identifier_of x < 64) identifier_of raw raws one below in
          let few = few_between 0 64 (with_entry identifier_of raw raws)
          (ascends_with identifier_of raw raws up (absent_told identifier_of (identifier_of raw) raws new))
          (each_weaker (λ x. identifier_of x < 64) (λ x. 0 ≤ identifier_of x) (λ x h. omega arith)
          (with_entry identifier_of raw raws) more) more in
          room_for_new raw raws (omega (arith, few, length_with identifier_of raw raws))
    ]

-- whether a look-up finds an entry
pub known_if_found :
    {T : Type 0} (key : T → ℕ) (k i : ℕ) (xs : List T) (o : Option (Bor T)) (b : Bool) → b ≡ is_some o → i ≡ k
    → option_copied o ≡ entry_at key i xs → b ≡ has_entry key k xs
known_if_found key k i xs o b some same told = rw (← same) (some ∙ is_found_lent (λ r. r.now) key i xs o told)

-- an entry with equal parts
pub raw_again :
    (raw : Raw) (ext : ℕ) (long : Bool) (bytes : List ℕ) → IsRaw raw → ext ≡ raw.ext → long ≡ raw.long
    → bytes ≡ raw.bytes
    → IsRaw (record { ext = ext; long = long; bytes = bytes })
raw_again raw ext long bytes is e l b = rw e (rw l (rw b is))

pub raw_same :
    (raw : Raw) (ext : ℕ) (long : Bool) (bytes : List ℕ) → ext ≡ raw.ext → long ≡ raw.long → bytes ≡ raw.bytes
    → record { ext = ext; long = long; bytes = bytes } ≡ raw
raw_same raw ext long bytes e l b = rw (e, l, b) refl

pub copied_front : (n : ℕ) (xs ys zs : List ℕ) → length zs ≡ n → xs ≡ zs → take n (xs ++ ys) ≡ zs
copied_front n xs ys zs len same = rw (same, ← len) (take-append_seam zs ys)

pub each_after :
    (P : Raw → Type 0) (raw : Raw) (old new : List Raw) (b : Bool) → P raw → AllByRecursion P old
    → (b ≡ true → new ≡ kept raw old)
    → (b ≡ false → new ≡ old) → AllByRecursion P new
each_after P raw old new true one all taken refused = rw (taken refl) (each_kept P raw old one all)
each_after P raw old new false one all taken refused = subst (AllByRecursion P) (sym (refused refl)) all

-- ---- an entry that is already present

unchanged_above : (raw : Raw) (raws : List Raw) → AllByRecursion (λ x. identifier_of raw < identifier_of x) raws
    → with_entry_changed identifier_of raw raws ≡ raws
unchanged_above raw [] above = refl
unchanged_above raw (x ∷ xs) above =
    let other : identifier_of x ≢ identifier_of raw = (let lt = above.0 in λ e. omega arith) in
    rw (ne_eqb (identifier_of x) (identifier_of raw) other, unchanged_above raw xs above.1) refl

changed_for_same :
    (raw : Raw) (raws : List Raw) → IsAscending identifier_of raws
    → entry_at identifier_of (identifier_of raw) raws ≡ Some raw
    → with_entry_changed identifier_of raw raws ≡ raws
changed_for_same raw [] up told = refl
changed_for_same raw (x ∷ xs) up told =
    elim (cases_eq (identifier_of x) (identifier_of raw)) [
      | inl same ↦
          let test = eq-eqb (identifier_of x) (identifier_of raw) same in
          ap (λ b. cond b raw x ∷ with_entry_changed identifier_of raw xs) test
          ∙ ap (λ t. raw ∷ t) (unchanged_above raw xs
          (subst (λ n. AllByRecursion (λ z. n < identifier_of z) xs) same up.0))
          ∙ ap (λ y. y ∷ xs) (sym cc)
      | inr other ↦
          let test = ne_eqb (identifier_of x) (identifier_of raw) other in
          ap (λ b. cond b raw x ∷ with_entry_changed identifier_of raw xs) test
          ∙ ap (λ t. x ∷ t)
          (changed_for_same raw xs up.1
          (sym (ap (λ b. cond b (Some x) (entry_at identifier_of (identifier_of raw) xs)) test) ∙ told))
    ]

pub kept_where_told :
    (raw : Raw) (raws : List Raw) → IsAscending identifier_of raws
    → entry_at identifier_of (identifier_of raw) raws ≡ Some raw
    → kept raw raws ≡ raws
kept_where_told raw raws up told =
    kept-known raw raws (present identifier_of (identifier_of raw) raws raw told) ∙ changed_for_same raw raws up told

-- the same for an entry that is present at an index
pub known_where_found : (raw : Raw) (raws : List Raw) (place : ℕ) → slice_get raws place ≡ Some raw
    → is_known raw raws ≡ true
known_where_found raw [] place found = absurd (cc)
known_where_found raw (x ∷ xs) zero found =
    let same : x ≡ raw = (cc) in
    or_left _ _ (eq-eqb (identifier_of x) (identifier_of raw) (ap identifier_of same))
known_where_found raw (x ∷ xs) (suc i) found = or_right _ _ (known_where_found raw xs i found)

pub kept_where_found :
    (raw : Raw) (raws : List Raw) (place : ℕ) → IsAscending identifier_of raws → slice_get raws place ≡ Some raw
    → raws ≡ kept raw raws
kept_where_found raw raws place up found =
    let here = found_here identifier_of (identifier_of raw) raws place raw up (slice_get_within raws place raw found)
    (ap identifier_of (get_or_from_slice_get raws place raw raw found)) in
    sym (kept_where_told raw raws up (sym here.found ∙ found))
