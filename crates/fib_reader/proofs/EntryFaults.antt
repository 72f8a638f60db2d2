-- The walk over entries stops where the bytes are at fault, and only there.
use Rattle.fib_reader.proofs.Words.{[], ◌%◌, ◌++◌, ◌+◌, ◌-◌, ◌/◌, ◌<◌, ◌==◌, ◌∙◌, ◌∷◌, ◌≡◌, ◌≢◌, ◌≤◌, AreEntries}
use Rattle.fib_reader.proofs.Words.{BeginsNone, Bool, IsBodyFault, IsCounted, IsEntry, IsGood, IsNoEntryAt, IsNotOneAt}
use Rattle.fib_reader.proofs.Words.{List, None, Option, Some, ap, append_assoc, arith, body_fault, cases_lt, cond, drop}
use Rattle.fib_reader.proofs.Words.{drop-append_seam, ensemble_fault, ensemble_len, entry_len, eqb-false, eqb-true}
use Rattle.fib_reader.proofs.Words.{false, get_or, get_or_append_left, inl, inr, le-ltb, length, length-append}
use Rattle.fib_reader.proofs.Words.{length-drop, length-take-le, lt-ltb, ltb-false, ltb-true, nat_lt, refl, subst, suc}
use Rattle.fib_reader.proofs.Words.{sym, take, take-append-drop, true, zero, ℕ}
use Rattle.fib_reader.specs.FirstFault.{entries_fault}
use Rattle.fib_reader.proofs.Lengths.{some_bytes, entry_len_more, cut_len}
use Rattle.fib_reader.proofs.FaultSteps.{none_in_nothing}

-- ---- what the walk finds is a fault

pub too_few : (ext : ℕ) (long : Bool) (bytes : List ℕ) → length bytes < entry_len ext long bytes
    → BeginsNone ext long bytes
too_few ext long bytes few e rest split good =
    let same = ap (entry_len ext long) split ∙ entry_len_more ext long e rest (omega arith) in
    let size : length bytes ≡ length e + length rest = ap length split ∙ length-append e rest in
    omega arith

one_entry_on :
    (ext : ℕ) (long : Bool) (e rest : List ℕ) (place : ℕ) → IsEntry ext long e → IsNoEntryAt ext long rest place
    → IsNoEntryAt ext long (e ++ rest) (length e + place)
one_entry_on ext long e rest place is h = record {
  front = e ++ h.front;
  left = h.left;
  entries = e ∷ h.entries;
  split = rw (h.split) (sym (append_assoc e h.front h.left));
  whole = (h.front, refl, is, h.whole);
  place_is = rw (← h.place_is) (length-append e h.front);
  some = h.some;
  none = h.none;
}

-- the fault of entries whose bytes begin at an offset
abbrev NoEntry : ℕ → Bool → ℕ → List ℕ → ℕ → Type 0
NoEntry ext long place bytes at = (within : ℕ) × (at ≡ place + within) × IsNoEntryAt ext long bytes within

entries_step :
    (t : Bool) (n ext : ℕ) (long : Bool) (place b : ℕ) (bs : List ℕ) (at : ℕ)
    → nat_lt (length (b ∷ bs)) (entry_len ext long (b ∷ bs)) ≡ t
    → cond t (Some place) (entries_fault n ext long (place + entry_len ext long (b ∷ bs))
    (drop (entry_len ext long (b ∷ bs)) (b ∷ bs))) ≡ Some at
    → (entries_fault n ext long (place + entry_len ext long (b ∷ bs)) (drop (entry_len ext long (b ∷ bs)) (b ∷ bs))
    ≡ Some at
    → NoEntry ext long (place + entry_len ext long (b ∷ bs)) (drop (entry_len ext long (b ∷ bs)) (b ∷ bs)) at)
    → NoEntry ext long place (b ∷ bs) at
entries_step true n ext long place b bs at few found more =
    let same : place ≡ at = (cc) in (
      0,
      omega arith,
      record {
        front = [];
        left = b ∷ bs;
        entries = [];
        split = refl;
        whole = refl;
        place_is = refl;
        some = λ e. absurd (cc);
        none = too_few ext long (b ∷ bs) (ltb-true _ _ few);
      },
    )
entries_step false n ext long place b bs at few found more =
    let len : ℕ = entry_len ext long (b ∷ bs) in
    let rest = more found in
    let fits : len ≤ length (b ∷ bs) = ltb-false _ _ few in
    let size : length (take len (b ∷ bs)) ≡ len = length-take-le len (b ∷ bs) fits in
    let is = rest.1 in (
      length (take len (b ∷ bs)) + rest.0,
      omega arith,
      subst (λ (x : List ℕ). IsNoEntryAt ext long x (length (take len (b ∷ bs)) + rest.0))
          (take-append-drop len (b ∷ bs))
          (one_entry_on ext long (take len (b ∷ bs)) (drop len (b ∷ bs)) rest.0 (cut_len ext long (b ∷ bs) fits)
          rest.2),
    )

entries_found :
    (n ext : ℕ) (long : Bool) (place : ℕ) (bytes : List ℕ) (at : ℕ) → length bytes ≤ n
    → entries_fault n ext long place bytes ≡ Some at → NoEntry ext long place bytes at
unfolding entries_fault
entries_found n ext long place [] at enough found =
    let none : entries_fault n ext long place [] ≡ None = none_in_nothing n ext long place in absurd (cc)
entries_found zero ext long place (b ∷ bs) at enough found = absurd (omega arith)
entries_found (suc n) ext long place (b ∷ bs) at enough found =
    let len : ℕ = entry_len ext long (b ∷ bs) in
    let big : 3 ≤ len = some_bytes ext long (b ∷ bs) in
    let fewer : length (drop len (b ∷ bs)) ≡ suc (length bs) - len = length-drop len (b ∷ bs) in
    entries_step (nat_lt (length (b ∷ bs)) len) n ext long place b bs at refl found
    (λ later. entries_found n ext long (place + len) (drop len (b ∷ bs)) at (omega arith) later)

-- ---- FIG 0/0

four : (t : Bool) → 4 ≤ cond t 4 5
four true = omega arith
four false = omega arith

-- the counts of an entry are those of bytes that begin with it
same_counts :
    (long : Bool) (bytes e rest : List ℕ) → bytes ≡ e ++ rest → IsEntry 0 long e
    → (get_or bytes 2 0 ≡ get_or e 2 0) × (get_or bytes 3 0 ≡ get_or e 3 0)
same_counts long bytes e rest split is =
    let some : 4 ≤ ensemble_len e = four (get_or e 2 0 / 64 == 0) in (
      rw (split) (get_or_append_left e rest 0 2 (omega arith)),
      rw (split) (get_or_append_left e rest 0 3 (omega arith)),
    )

uncounted : (long : Bool) (bytes : List ℕ) → (IsCounted bytes → ⊥) → BeginsNone 0 long bytes
uncounted long bytes not e rest split good =
    let same = same_counts long bytes e rest split good.0 in
    let counted = good.1 refl in
    not (omega arith, omega arith)

-- the first four or five bytes are the entry, if they are present and its counts are in range
whole_front : (long : Bool) (bytes : List ℕ) → ensemble_len bytes ≤ length bytes → IsCounted bytes
    → IsGood 0 long (take (ensemble_len bytes) bytes)
whole_front long bytes fits counted =
    let is : IsEntry 0 long (take (ensemble_len bytes) bytes) = cut_len 0 long bytes fits in
    let same = same_counts long bytes (take (ensemble_len bytes) bytes) (drop (ensemble_len bytes) bytes)
    (sym (take-append-drop (ensemble_len bytes) bytes)) is in
    (is, λ zero_ext. (omega arith, omega arith))

not_nothing : (xs : List ℕ) → 0 < length xs → xs ≢ []
not_nothing [] some = λ e. omega arith
not_nothing (x ∷ xs) some = λ e. absurd (cc)

abbrev NotOne : Bool → ℕ → List ℕ → ℕ → Type 0
NotOne long place bytes at = (within : ℕ) × (at ≡ place + within) × IsNotOneAt long bytes within

ensemble_cases :
    (a b c d : Bool) (long : Bool) (place : ℕ) (bytes : List ℕ) (at : ℕ)
    → nat_lt (length bytes) (ensemble_len bytes) ≡ a → nat_lt 19 (get_or bytes 2 0 % 32) ≡ b
    → nat_lt 249 (get_or bytes 3 0) ≡ c
    → nat_lt (ensemble_len bytes) (length bytes) ≡ d
    → cond a (Some place) (cond b (Some place) (cond c (Some place) (cond d (Some (place + ensemble_len bytes)) None)))
    ≡ Some at
    → NotOne long place bytes at
ensemble_cases true b c d long place bytes at p q r s found =
    let same : place ≡ at = (cc) in
    (0, omega arith, inl (refl, too_few 0 long bytes (ltb-true _ _ p)))
ensemble_cases false true c d long place bytes at p q r s found =
    let same : place ≡ at = (cc) in
    let high : 19 < get_or bytes 2 0 % 32 = ltb-true _ _ q in
    (0, omega arith, inl (refl, uncounted long bytes (λ counted. (let there = counted.0 in omega arith))))
ensemble_cases false false true d long place bytes at p q r s found =
    let same : place ≡ at = (cc) in
    let low : 249 < get_or bytes 3 0 = ltb-true _ _ r in
    (0, omega arith, inl (refl, uncounted long bytes (λ counted. (let there = counted.1 in omega arith))))
ensemble_cases false false false true long place bytes at p q r s found =
    let len : ℕ = ensemble_len bytes in
    let fits : len ≤ length bytes = ltb-false _ _ p in
    let high : get_or bytes 2 0 % 32 ≤ 19 = ltb-false _ _ q in
    let low : get_or bytes 3 0 ≤ 249 = ltb-false _ _ r in
    let more : len < length bytes = ltb-true _ _ s in
    let left : length (drop len bytes) ≡ length bytes - len = length-drop len bytes in (
      len,
      sym (cc),
      inr (
        take len bytes,
        drop len bytes,
        sym (take-append-drop len bytes),
        whole_front long bytes fits (omega arith, omega arith),
        not_nothing (drop len bytes) (omega arith),
        sym (length-take-le len bytes fits),
      ),
    )
ensemble_cases false false false false long place bytes at p q r s found = absurd (cc)

pub body_found :
    (b : Bool) (ext : ℕ) (long : Bool) (place : ℕ) (bytes : List ℕ) (at : ℕ) → (ext == 0) ≡ b
    → body_fault ext long place bytes ≡ Some at → (within : ℕ) × (at ≡ place + within)
    × IsBodyFault ext long bytes within
body_found true ext long place bytes at is found =
    let one = ensemble_cases (nat_lt (length bytes) (ensemble_len bytes)) (nat_lt 19 (get_or bytes 2 0 % 32))
    (nat_lt 249 (get_or bytes 3 0))
    (nat_lt (ensemble_len bytes) (length bytes)) long place bytes at refl refl refl refl
    (sym (ap (λ t. cond t (ensemble_fault place bytes) (entries_fault (length bytes) ext long place bytes)) is)
    ∙ found) in
    (one.0, one.1, inr (eqb-true ext 0 is, one.2))
body_found false ext long place bytes at is found =
    let one = entries_found (length bytes) ext long place bytes at (omega arith)
    (sym (ap (λ t. cond t (ensemble_fault place bytes) (entries_fault (length bytes) ext long place bytes)) is)
    ∙ found) in
    (one.0, one.1, inl (eqb-false ext 0 is, one.2))

-- ---- if there is a fault, the walk finds it

begins_none_short :
    (ext : ℕ) (long : Bool) (bytes : List ℕ) → ext ≢ 0 → BeginsNone ext long bytes
    → length bytes < entry_len ext long bytes
begins_none_short ext long bytes other none =
    elim (cases_lt (length bytes) (entry_len ext long bytes)) [
      | inl few ↦ few
      | inr fits ↦ absurd (none (take (entry_len ext long bytes) bytes) (drop (entry_len ext long bytes) bytes)
          (sym (take-append-drop (entry_len ext long bytes) bytes))
          (cut_len ext long bytes fits, λ zero_ext. absurd (other zero_ext)))
    ]

entries_given :
    (n ext : ℕ) (long : Bool) (place : ℕ) (bytes front left : List ℕ) (es : List (List ℕ)) → ext ≢ 0 → length bytes ≤ n
    → bytes ≡ front ++ left → AreEntries ext long front es → left ≢ [] → BeginsNone ext long left
    → entries_fault n ext long place bytes ≡ Some (place + length front)
unfolding entries_fault
entries_given n ext long place [] front left [] other enough split whole some none =
    let same : [] ≡ left = split ∙ ap (λ x. x ++ left) whole in absurd (some (sym same))
entries_given (suc n) ext long place (b ∷ bs) front left [] other enough split whole some none =
    let same : b ∷ bs ≡ left = split ∙ ap (λ x. x ++ left) whole in
    let short = begins_none_short ext long (b ∷ bs) other (subst (BeginsNone ext long) (sym same) none) in
    rw (lt-ltb _ _ short) (ap Some (let no_front : length front ≡ 0 = ap length whole in omega arith))
entries_given n ext long place [] front left (e ∷ es) other enough split whole some none =
    let big : 3 ≤ entry_len ext long e = some_bytes ext long e in
    let size : length front ≡ length e + length whole.0 = ap length whole.1 ∙ length-append e whole.0 in
    let all : 0 ≡ length front + length left = ap length split ∙ length-append front left in
    absurd (omega arith)
entries_given (suc n) ext long place (b ∷ bs) front left (e ∷ es) other enough split whole some none =
    let rest : List ℕ = whole.0 in
    let all : b ∷ bs ≡ e ++ (rest ++ left) = split ∙ ap (λ x. x ++ left) whole.1 ∙ append_assoc e rest left in
    let same = ap (entry_len ext long) all ∙ entry_len_more ext long e (rest ++ left) (omega arith) ∙ sym whole.2 in
    let big : 3 ≤ entry_len ext long e = some_bytes ext long e in
    let size : length (b ∷ bs) ≡ length e + length (rest ++ left) = ap length all ∙ length-append e (rest ++ left) in
    let there : drop (entry_len ext long (b ∷ bs)) (b ∷ bs) ≡ rest ++ left =
    rw (same) (ap (drop (length e)) all ∙ drop-append_seam e (rest ++ left)) in
    let lengths : length front ≡ length e + length rest = ap length whole.1 ∙ length-append e rest in
    rw (le-ltb (length (b ∷ bs)) (entry_len ext long (b ∷ bs)) (omega arith))
    (ap (entries_fault n ext long (place + entry_len ext long (b ∷ bs))) there
    ∙ entries_given n ext long (place + entry_len ext long (b ∷ bs)) (rest ++ left) rest left es other (omega arith)
    refl whole.3 some none ∙ ap Some (omega arith))
entries_given zero ext long place (b ∷ bs) front left _ other enough split whole some none = absurd (omega arith)

one_fails :
    (a b c : Bool) (s x : Option ℕ) → (a ≡ false → b ≡ false → c ≡ false → ⊥) → cond a s (cond b s (cond c s x)) ≡ s
one_fails false false false s x not = absurd (not refl refl refl)
one_fails _ _ _ s x not = refl

ensemble_given : (long : Bool) (place : ℕ) (bytes : List ℕ) (within : ℕ) → IsNotOneAt long bytes within
    → ensemble_fault place bytes ≡ Some (place + within)
ensemble_given long place bytes within h =
    let len : ℕ = ensemble_len bytes in
    elim h [
      | inl nowhere ↦
          one_fails (nat_lt (length bytes) len) (nat_lt 19 (get_or bytes 2 0 % 32)) (nat_lt 249 (get_or bytes 3 0))
          (Some place)
          (cond (nat_lt len (length bytes)) (Some (place + len)) None)
          (λ p q r.
          let high : get_or bytes 2 0 % 32 ≤ 19 = ltb-false _ _ q in
          let low : get_or bytes 3 0 ≤ 249 = ltb-false _ _ r in
          nowhere.1 (take len bytes) (drop len bytes) (sym (take-append-drop len bytes))
          (whole_front long bytes (ltb-false _ _ p) (omega arith, omega arith)))
          ∙ ap Some (let zero_in = nowhere.0 in omega arith)
      | inr more ↦
          let e : List ℕ = more.0 in
          let left : List ℕ = more.1 in
          let split : bytes ≡ e ++ left = more.2 in
          let good : IsGood 0 long e = more.3 in
          let same : len ≡ length e = ap ensemble_len split ∙ entry_len_more 0 long e left (omega arith) ∙ sym good.0 in
          let counts = same_counts long bytes e left split good.0 in
          let counted = good.1 refl in
          let size : length bytes ≡ length e + length left = ap length split ∙ length-append e left in
          let some_left : 0 < length left = something left more.4 in
          ap (λ t. cond t (Some place) (cond (nat_lt 19 (get_or bytes 2 0 % 32)) (Some place)
          (cond (nat_lt 249 (get_or bytes 3 0)) (Some place)
          (cond (nat_lt len (length bytes)) (Some (place + len)) None))))
          (le-ltb (length bytes) len (omega arith))
          ∙ ap (λ t. cond t (Some place)
          (cond (nat_lt 249 (get_or bytes 3 0)) (Some place)
          (cond (nat_lt len (length bytes)) (Some (place + len)) None)))
          (le-ltb 19 (get_or bytes 2 0 % 32) (omega arith))
          ∙ ap (λ t. cond t (Some place) (cond (nat_lt len (length bytes)) (Some (place + len)) None))
          (le-ltb 249 (get_or bytes 3 0) (omega arith))
          ∙ ap (λ t. cond t (Some (place + len)) None) (lt-ltb len (length bytes) (omega arith))
          ∙ ap Some (let at_end = more.5 in omega arith)
    ]
  where
    something : (xs : List ℕ) → xs ≢ [] → 0 < length xs
    something [] not = absurd (not refl)
    something (x ∷ xs) not = omega arith

pub body_given :
    (b : Bool) (ext : ℕ) (long : Bool) (place : ℕ) (bytes : List ℕ) (within : ℕ) → (ext == 0) ≡ b
    → IsBodyFault ext long bytes within → body_fault ext long place bytes ≡ Some (place + within)
body_given true ext long place bytes within is h =
    elim h [
      | inl entries ↦ absurd (entries.0 (eqb-true ext 0 is))
      | inr one ↦ ap (λ t. cond t (ensemble_fault place bytes) (entries_fault (length bytes) ext long place bytes)) is
          ∙ ensemble_given long place bytes within one.1
    ]
body_given false ext long place bytes within is h =
    elim h [
      | inl entries ↦
          let at = entries.1 in
          ap (λ t. cond t (ensemble_fault place bytes) (entries_fault (length bytes) ext long place bytes)) is
          ∙ entries_given (length bytes) ext long place bytes at.front at.left at.entries entries.0 (omega arith)
          at.split at.whole at.some at.none
          ∙ ap (λ n. Some (place + n)) at.place_is
      | inr one ↦ absurd (eqb-false ext 0 is one.0)
    ]
