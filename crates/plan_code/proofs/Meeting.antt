-- Whether one of a set of contacts is closed, or open, as a test of bits.
use Rattle.plan_code.proofs.Words.{◌&&◌, ◌+◌, ◌<◌, ◌||◌, ◌∙◌, ◌≡◌, ◌≤◌, ◌⊎◌, Bool, Contacts, ap, arith, bit_and, bit_at}
use Rattle.plan_code.proofs.Words.{bit_at-lt, bit_at-zero, bit_at_above, bit_at_and, cases_lt, contact_ids, eqb}
use Rattle.plan_code.proofs.Words.{eqb-true, false, false≢true, inl, inr, is_closed, is_in, list_any, min, not}
use Rattle.plan_code.proofs.Words.{range_with_len, refl, same_from_bits, suc, sym, true, zero, ℕ}
use Rattle.plan_code.specs.Flags.{any_closed, any_open}

-- ---- numbers in a range that pass a test

none_by : (a b : Bool) → (a || b) ≡ false → (a ≡ false) × (b ≡ false)
none_by false b e = (refl, e)
none_by true b e = absurd (false≢true (sym e))

none_in : (p : ℕ → Bool) (n a i : ℕ) → list_any p (range_with_len a n) ≡ false → a ≤ i → i < a + n → p i ≡ false
none_in p zero a i e from below = absurd (omega (arith, from, below))
none_in p (suc n) a i e from below =
    let parts = none_by (p a) (list_any p (range_with_len (a + 1) n)) e in
    elim (cases_lt a i) [
      | inl later ↦ none_in p n (a + 1) i parts.1 (omega (arith, later)) (omega (arith, below))
      | inr here ↦ let same : a ≡ i = omega (arith, from, here) in ap p (sym same) ∙ parts.0
    ]

all_none : (p : ℕ → Bool) (n a : ℕ) → ((i : ℕ) → p i ≡ false) → list_any p (range_with_len a n) ≡ false
all_none p zero a none = refl
all_none p (suc n) a none = rw (none a) (all_none p n (a + 1) none)

some_by : (a b : Bool) → (a || b) ≡ true → (a ≡ true) ⊎ (b ≡ true)
some_by true b e = inl refl
some_by false b e = inr e

some_in : (p : ℕ → Bool) (n a : ℕ) → list_any p (range_with_len a n) ≡ true → (i : ℕ) × (i < a + n) × (p i ≡ true)
some_in p zero a e = absurd (false≢true e)
some_in p (suc n) a e =
    elim (some_by (p a) (list_any p (range_with_len (a + 1) n)) e) [
      | inl here ↦ (a, omega arith, here)
      | inr later ↦ let found = some_in p n (a + 1) later in (found.0, omega (arith, found.1), found.2)
    ]

holds_in : (p : ℕ → Bool) (c : ℕ) → c < 16 → p c ≡ true → (any : Bool) → list_any p contact_ids ≡ any → any ≡ true
holds_in p c low holds true found = refl
holds_in p c low holds false found =
    absurd (false≢true (sym (none_in p 16 0 c found (omega arith) (omega (arith, low))) ∙ holds))

-- where two numbers have the same bits exactly if no contact passes the test
tested_bits : (p : ℕ → Bool) (x y : ℕ)
    → ((i : ℕ) → i < 16 → p i ≡ false → bit_at x i ≡ bit_at y i) → ((i : ℕ) → 16 ≤ i → bit_at x i ≡ bit_at y i)
    → ((i : ℕ) → bit_at x i ≡ bit_at y i → p i ≡ false) → (same any : Bool) → eqb x y ≡ same
    → list_any p contact_ids ≡ any → not same ≡ any
tested_bits p x y below above none true true is found =
    let not_found = all_none p 16 0 (λ i. none i (ap (λ (n : ℕ). bit_at n i) (eqb-true x y is))) in
    absurd (false≢true (sym not_found ∙ found))
tested_bits p x y below above none false false is found =
    let bits : (i : ℕ) → bit_at x i ≡ bit_at y i =
    λ i. elim (cases_lt i 16) [
      | inl low ↦ below i low (none_in p 16 0 i found (omega arith) (omega (arith, low)))
      | inr high ↦ above i high
    ] in
    absurd (grind (arith, same_from_bits x y bits, is))
tested_bits p x y below above none _ _ is found = refl

-- ---- one of a set of contacts

both_by : (a b : Bool) → (a && b) ≡ true → (a ≡ true) × (b ≡ true)
both_by true b e = (refl, e)
both_by false b e = absurd (false≢true e)

by_both : (a b : Bool) → a ≡ true → b ≡ true → (a && b) ≡ true
by_both true b e f = f
by_both false b e f = absurd (false≢true e)

not_true : (b : Bool) → not b ≡ true → b ≡ false
not_true false e = refl
not_true true e = absurd (false≢true e)

pub closed_is : (set contacts : Contacts) → any_closed set contacts ≡ true → (c : ℕ) × (c < 16) × (is_in set c ≡ true)
    × (is_closed contacts c ≡ true)
unfolding any_closed
closed_is set contacts e =
    let found = some_in (λ c. is_in set c && is_closed contacts c) 16 0 e in
    let both = both_by (is_in set found.0) (is_closed contacts found.0) found.2 in
    (found.0, omega (arith, found.1), both.0, both.1)

pub is_closed_one : (set contacts : Contacts) (c : ℕ) → c < 16 → is_in set c ≡ true → is_closed contacts c ≡ true
    → any_closed set contacts ≡ true
unfolding any_closed
is_closed_one set contacts c low has level =
    holds_in (λ k. is_in set k && is_closed contacts k) _ low (by_both _ _ has level) _ refl

pub open_is : (set contacts : Contacts) → any_open set contacts ≡ true → (c : ℕ) × (c < 16) × (is_in set c ≡ true)
    × (is_closed contacts c ≡ false)
unfolding any_open
open_is set contacts e =
    let found = some_in (λ c. is_in set c && not (is_closed contacts c)) 16 0 e in
    let both = both_by (is_in set found.0) (not (is_closed contacts found.0)) found.2 in
    (found.0, omega (arith, found.1), both.0, not_true (is_closed contacts found.0) both.1)

pub is_open_one : (set contacts : Contacts) (c : ℕ) → c < 16 → is_in set c ≡ true → is_closed contacts c ≡ false
    → any_open set contacts ≡ true
unfolding any_open
is_open_one set contacts c low has level =
    holds_in (λ k. is_in set k && not (is_closed contacts k)) _ low (by_both _ _ has (ap not level)) _ refl

-- ---- bits of both sets

bit_cases : (P : ℕ → Type 0) (n : ℕ) → n < 2 → P 0 → P 1 → P n
bit_cases P zero lt none one = none
bit_cases P (suc zero) lt none one = one
bit_cases P (suc (suc n)) lt none one = absurd (omega (arith, lt))

not_both : (a b : ℕ) → a < 2 → b < 2 → (eqb a 1 && eqb b 1) ≡ false → min a b ≡ 0
not_both a b lt lt' =
    bit_cases (λ n. (eqb n 1 && eqb b 1) ≡ false → min n b ≡ 0) a lt (λ e. omega arith)
    (bit_cases (λ n. (eqb 1 1 && eqb n 1) ≡ false → min 1 n ≡ 0) b lt' (λ e. refl) (λ e. absurd (false≢true (sym e))))

both_none : (a b : ℕ) → a < 2 → b < 2 → min a b ≡ 0 → (eqb a 1 && eqb b 1) ≡ false
both_none a b lt lt' =
    bit_cases (λ n. min n b ≡ 0 → (eqb n 1 && eqb b 1) ≡ false) a lt (λ e. refl)
    (bit_cases (λ n. min 1 n ≡ 0 → (eqb 1 1 && eqb n 1) ≡ false) b lt' (λ e. refl)
    (λ e. absurd (let wrong : 1 ≡ 0 = e in omega (arith, wrong))))

not_left : (a b : ℕ) → a < 2 → b < 2 → (eqb b 1 && not (eqb a 1)) ≡ false → min a b ≡ b
not_left a b lt lt' =
    bit_cases (λ n. (eqb n 1 && not (eqb a 1)) ≡ false → min a n ≡ n) b lt' (λ e. omega arith)
    (bit_cases (λ n. (eqb 1 1 && not (eqb n 1)) ≡ false → min n 1 ≡ 1) a lt (λ e. absurd (false≢true (sym e)))
    (λ e. refl))

left_none : (a b : ℕ) → a < 2 → b < 2 → min a b ≡ b → (eqb b 1 && not (eqb a 1)) ≡ false
left_none a b lt lt' =
    bit_cases (λ n. min a n ≡ n → (eqb n 1 && not (eqb a 1)) ≡ false) b lt' (λ e. refl)
    (bit_cases (λ n. min n 1 ≡ 1 → (eqb 1 1 && not (eqb n 1)) ≡ false) a lt
    (λ e. absurd (let wrong : 0 ≡ 1 = e in omega (arith, wrong))) (λ e. refl))

-- ---- the tests

pub meets : (set contacts : Contacts) → set.0 < 65536 → not (eqb (bit_and set.0 contacts.0) 0) ≡ any_closed set contacts
unfolding any_closed
meets set contacts small =
    tested_bits (λ c. is_in set c && is_closed contacts c) (bit_and set.0 contacts.0) 0
    (λ i low e. bit_at_and set.0 contacts.0 i ∙ not_both (bit_at set.0 i) (bit_at contacts.0 i) (bit_at-lt set.0 i)
    (bit_at-lt contacts.0 i) e ∙ sym (bit_at-zero i))
    (λ i high.
    bit_at_and set.0 contacts.0 i ∙ omega (arith, bit_at_above set.0 16 i small high) ∙ sym (bit_at-zero i))
    (λ i e. both_none (bit_at set.0 i) (bit_at contacts.0 i) (bit_at-lt set.0 i) (bit_at-lt contacts.0 i)
    (sym (bit_at_and set.0 contacts.0 i) ∙ e ∙ bit_at-zero i))
    _ _ refl refl

pub lacks : (set contacts : Contacts) → set.0 < 65536 → not (eqb (bit_and contacts.0 set.0) set.0)
    ≡ any_open set contacts
unfolding any_open
lacks set contacts small =
    tested_bits (λ c. is_in set c && not (is_closed contacts c)) (bit_and contacts.0 set.0) set.0
    (λ i low e. bit_at_and contacts.0 set.0 i ∙ not_left (bit_at contacts.0 i) (bit_at set.0 i) (bit_at-lt contacts.0 i)
    (bit_at-lt set.0 i) e)
    (λ i high.
    bit_at_and contacts.0 set.0 i ∙ omega (arith, bit_at_above set.0 16 i small high))
    (λ i e. left_none (bit_at contacts.0 i) (bit_at set.0 i) (bit_at-lt contacts.0 i) (bit_at-lt set.0 i)
    (sym (bit_at_and contacts.0 set.0 i) ∙ e))
    _ _ refl refl
