-- The register performs the long division: the rest of the dividend, with the register added at its front, leaves the
-- remainder that the whole leaves.
use Rattle.fib_codec.proofs.Words.{[], ◌%◌, ◌*◌, ◌++◌, ◌+◌, ◌-◌, ◌/◌, ◌<◌, ◌^◌, ◌∙◌, ◌∷◌, ◌≡◌, ◌≤◌, AreBits, List}
use Rattle.fib_codec.proofs.Words.{after_all, ap, append_assoc, arith, bit_and, bit_at, bit_at-lt, bit_at-suc}
use Rattle.fib_codec.proofs.Words.{bit_at_cat_low, bit_at_ones, bit_at_xor, bit_xor, bits_of_bytes, cases_Bool}
use Rattle.fib_codec.proofs.Words.{check_bits, cond-false, cond-true, dividend, eqb, eqb-false, eqb-true, generator}
use Rattle.fib_codec.proofs.Words.{inl, inr, length, map, next, plus, refl, replicate, shr_and_one, suc, sym}
use Rattle.fib_codec.proofs.Words.{without_leading, zero, ℕ}
use Rattle.fib_codec.specs.Crc.{low_bits, divided}
use Rattle.fib_codec.specs.Register.{after}

-- ---- bits of numbers
pub bits_of-suc : (w n : ℕ) → low_bits (suc w) n ≡ bit_at n w ∷ low_bits w n
unfolding low_bits
bits_of-suc w n = refl

pub bits_of-zero : (n : ℕ) → low_bits 0 n ≡ []
unfolding low_bits
bits_of-zero n = refl

pub length-bits_of : (w n : ℕ) → length (low_bits w n) ≡ w
unfolding low_bits
length-bits_of zero n = refl
length-bits_of (suc w) n = ap suc (length-bits_of w n)

pub bits_of_are : (w n : ℕ) → AreBits (low_bits w n)
unfolding low_bits
bits_of_are zero n = tt
bits_of_are (suc w) n = (bit_at-lt n w, bits_of_are w n)

pub bits_of-xor : (w a b : ℕ) → low_bits w (bit_xor a b) ≡ plus (low_bits w a) (low_bits w b)
unfolding low_bits
bits_of-xor zero a b = refl
bits_of-xor (suc w) a b = rw (bit_at_xor a b w, bits_of-xor w a b) refl

-- shifted by one bit
pub bits_of-moved : (w n : ℕ) → low_bits (suc w) (n * 2) ≡ low_bits w n ++ 0 ∷ []
unfolding low_bits
bits_of-moved zero n = let low : n * 2 / 2 ^ 0 % 2 ≡ 0 = omega arith in rw low refl
bits_of-moved (suc w) n =
    let top : bit_at (n * 2) (suc w) ≡ bit_at n w = bit_at-suc (n * 2) w ∙ ap (λ k. bit_at k w) (omega arith) in
    rw (top, bits_of-moved w n) refl

-- multiples of a power of two do not change the bits below it
pub bits_of-below : (w a k b : ℕ) → w ≤ k → low_bits w (a * 2 ^ k + b) ≡ low_bits w b
unfolding low_bits
bits_of-below zero a k b h = refl
bits_of-below (suc w) a k b h =
    rw (bit_at_cat_low a k b w (omega arith), bits_of-below w a k b (omega arith)) refl

pub bits_of-word : (w n : ℕ) → w ≤ 16 → low_bits w (n % 65536) ≡ low_bits w n
bits_of-word w n h =
    sym (bits_of-below w (n / 65536) 16 (n % 65536) h) ∙ ap (λ k. low_bits w k) (omega arith)

-- ---- sums of lists
pub plus-nil : (xs : List ℕ) → plus xs [] ≡ xs
plus-nil [] = refl
plus-nil (x ∷ xs) = refl

pub plus-push_zero : (m xs : List ℕ) → AreBits m → plus m (xs ++ 0 ∷ []) ≡ plus m xs
plus-push_zero [] xs h = refl
plus-push_zero (b ∷ m) [] h =
    let same : (b + 0) % 2 ≡ b = omega arith in
    rw (same, plus-nil m) refl
plus-push_zero (b ∷ m) (x ∷ xs) h = rw (plus-push_zero m xs h.1) refl

pub plus-plus : (m xs ys : List ℕ) → length xs ≡ length ys → plus (plus m xs) ys ≡ plus m (plus xs ys)
plus-plus [] xs ys h = refl
plus-plus (b ∷ m) [] [] h = refl
plus-plus (b ∷ m) [] (y ∷ ys) h = cc
plus-plus (b ∷ m) (x ∷ xs) [] h = cc
plus-plus (b ∷ m) (x ∷ xs) (y ∷ ys) h =
    let head : ((b + x) % 2 + y) % 2 ≡ (b + (x + y) % 2) % 2 = omega arith in
    rw (head, plus-plus m xs ys (omega arith)) refl

pub plus-append : (xs ys m l : List ℕ) → length xs ≡ length ys → plus (xs ++ m) (ys ++ l) ≡ plus xs ys ++ plus m l
plus-append [] [] m l h = refl
plus-append (x ∷ xs) (y ∷ ys) m l h = rw (plus-append xs ys m l (omega arith)) refl
plus-append _ _ m l h = cc

pub AreBits-append : (xs ys : List ℕ) → AreBits xs → AreBits ys → AreBits (xs ++ ys)
AreBits-append [] ys h k = k
AreBits-append (x ∷ xs) ys h k = (h.0, AreBits-append xs ys h.1 k)

pub AreBits-replicate : (n : ℕ) → AreBits (replicate n 0)
AreBits-replicate zero = tt
AreBits-replicate (suc n) = (omega arith, AreBits-replicate n)

pub AreBits-bytes : (bytes : List ℕ) → AreBits (bits_of_bytes bytes)
AreBits-bytes [] = tt
AreBits-bytes (b ∷ bs) = AreBits-append (low_bits 8 b) (bits_of_bytes bs) (bits_of_are 8 b) (AreBits-bytes bs)

-- ---- the division
pub divided-suc : (n b : ℕ) (bits : List ℕ) → divided (suc n) (b ∷ bits) ≡ divided n (without_leading b bits)
unfolding divided
divided-suc n b bits = refl

pub divided-zero : (bits : List ℕ) → divided 0 bits ≡ bits
unfolding divided
divided-zero bits = refl

generator_is : low_bits 16 4129 ≡ generator
unfolding low_bits
generator_is = refl

-- the leading bit of the dividend is 0
no_place : (r b : ℕ) (m : List ℕ) (n : ℕ) → AreBits m → b < 2 → bit_at r 15 ≡ b
    → divided (suc n) (plus (b ∷ m) (low_bits 16 r)) ≡ divided n (plus m (low_bits 16 (r * 2 % 65536)))
no_place r b m n are bit same =
    let zero_on_top : (b + bit_at r 15) % 2 ≡ 0 = omega arith in
    let left : plus (b ∷ m) (low_bits 16 r) ≡ 0 ∷ plus m (low_bits 15 r) = rw (bits_of-suc 15 r, zero_on_top) refl in
    let right : plus m (low_bits 16 (r * 2 % 65536)) ≡ plus m (low_bits 15 r) =
    rw ((bits_of-word 16 (r * 2) (omega arith) ∙ bits_of-moved 15 r)) (plus-push_zero m (low_bits 15 r) are) in
    rw (left) (rw (right) (divided-suc n 0 (plus m (low_bits 15 r))))

-- it is 1
a_place : (r b : ℕ) (m : List ℕ) (n : ℕ) → AreBits m → b < 2 → (bit_at r 15 ≡ b → ⊥)
    → divided (suc n) (plus (b ∷ m) (low_bits 16 r)) ≡ divided n (plus m (low_bits 16 (bit_xor (r * 2 % 65536) 4129)))
a_place r b m n are bit differ =
    let one_on_top : (b + bit_at r 15) % 2 ≡ 1 = omega (arith, bit_at-lt r 15) in
    let moved = bits_of-word 16 (r * 2) (omega arith) ∙ bits_of-moved 15 r in
    let left : plus (b ∷ m) (low_bits 16 r) ≡ 1 ∷ plus m (low_bits 15 r) = rw (bits_of-suc 15 r, one_on_top) refl in
    let right : plus m (low_bits 16 (bit_xor (r * 2 % 65536) 4129)) ≡ plus (plus m (low_bits 15 r)) generator =
    ap (plus m) (bits_of-xor 16 (r * 2 % 65536) 4129 ∙ ap (plus (low_bits 16 (r * 2 % 65536))) generator_is)
    ∙ sym (plus-plus m (low_bits 16 (r * 2 % 65536)) generator (length-bits_of 16 (r * 2 % 65536)))
    ∙ ap (λ t. plus t generator) (ap (plus m) moved ∙ plus-push_zero m (low_bits 15 r) are) in
    rw (left) (rw (right) (divided-suc n 1 (plus m (low_bits 15 r))))

pub place_divides : (r b : ℕ) (m : List ℕ) (n : ℕ) → AreBits m → b < 2
    → divided (suc n) (plus (b ∷ m) (low_bits 16 r)) ≡ divided n (plus m (low_bits 16 (next r b)))
place_divides r b m n are bit =
    elim (cases_Bool (eqb (bit_at r 15) b)) [
      | inl same ↦ no_place r b m n are bit (eqb-true _ _ same)
          ∙ ap (λ k. divided n (plus m (low_bits 16 k))) (sym (cond-true (eqb (bit_at r 15) b) _ _ same))
      | inr differ ↦ a_place r b m n are bit (eqb-false _ _ differ)
          ∙ ap (λ k. divided n (plus m (low_bits 16 k))) (sym (cond-false (eqb (bit_at r 15) b) _ _ differ))
    ]

pub after-suc : (w k r : ℕ) → after (suc w) k r ≡ after w k (next r (bit_at k w))
unfolding after
after-suc w k r = refl

pub after-zero : (k r : ℕ) → after 0 k r ≡ r
unfolding after
after-zero k r = refl

-- an iteration of a loop over the bits of a byte
pub after_more : (place k r : ℕ) → place < 8
    → after (8 - place) k r ≡ after (8 - (place + 1)) k (next r (bit_and (k / 2 ^ (7 - place)) 1))
after_more place k r h =
    let count : 8 - place ≡ suc (7 - place) = omega arith in
    let below : 8 - (place + 1) ≡ 7 - place = omega arith in
    rw (count, below, shr_and_one k (7 - place)) (after-suc (7 - place) k r)

-- as many bits as the width
pub steps : (w k r : ℕ) (m : List ℕ) (n : ℕ) → AreBits m
    → divided (w + n) (plus (low_bits w k ++ m) (low_bits 16 r)) ≡ divided n (plus m (low_bits 16 (after w k r)))
steps zero k r m n are =
    let count : 0 + n ≡ n = omega arith in
    rw ((bits_of-zero k), count, after-zero k r) refl
steps (suc w) k r m n are =
    let count : suc w + n ≡ suc (w + n) = omega arith in
    let cut : low_bits (suc w) k ++ m ≡ bit_at k w ∷ (low_bits w k ++ m) = rw (bits_of-suc w k) refl in
    rw (count, cut) (rw (after-suc w k r) (place_divides r (bit_at k w) (low_bits w k ++ m) (w + n)
    (AreBits-append (low_bits w k) m (bits_of_are w k) are) (bit_at-lt k w) ∙ steps w k (next r (bit_at k w)) m n are))

-- ---- the whole message
pub taken : (bytes : List ℕ) (r : ℕ) (m : List ℕ) (n : ℕ) → AreBits m
    → divided (8 * length bytes + n) (plus (bits_of_bytes bytes ++ m) (low_bits 16 r))
    ≡ divided n (plus m (low_bits 16 (after_all bytes r)))
taken [] r m n are =
    let count : 8 * 0 + n ≡ n = omega arith in
    rw (count) refl
taken (b ∷ bs) r m n are =
    let rest = bits_of_bytes bs ++ m in
    let rest_are : AreBits rest = AreBits-append (bits_of_bytes bs) m (AreBits-bytes bs) are in
    let count : 8 * suc (length bs) + n ≡ 8 + (8 * length bs + n) = omega arith in
    rw (count, append_assoc (low_bits 8 b) (bits_of_bytes bs) m)
    (steps 8 b r rest (8 * length bs + n) rest_are ∙ taken bs (after 8 b r) m n are)

-- the inverted register is the CRC
turned : (w r : ℕ) → w ≤ 16 → map (λ b. 1 - b) (low_bits w r) ≡ low_bits w (bit_xor r 65535)
unfolding low_bits
turned zero r h = refl
turned (suc w) r h =
    let one : bit_at 65535 w ≡ 1 = bit_at_ones 16 w (omega arith) in
    let same : 1 - bit_at r w ≡ (bit_at r w + bit_at 65535 w) % 2 = omega (arith, bit_at-lt r w) in
    rw (bit_at_xor r 65535 w, turned w r (omega arith)) (rw (same) refl)

pub zeros_first : (m : List ℕ) → AreBits m → plus (replicate (length m) 0) m ≡ m
zeros_first [] h = refl
zeros_first (b ∷ m) h =
    let same : (0 + b) % 2 ≡ b = omega arith in
    rw (same, zeros_first m h.1) refl

-- the remainder when sixteen zeros are left under the register
pub word_left : (r : ℕ) → divided 0 (plus (replicate 16 0) (low_bits 16 r)) ≡ low_bits 16 r
word_left r =
    let long : length (low_bits 16 r) ≡ 16 = length-bits_of 16 r in
    cc (divided-zero (plus (replicate 16 0) (low_bits 16 r)), long, zeros_first (low_bits 16 r) (bits_of_are 16 r))

all_ones_start : low_bits 16 65535 ≡ replicate 16 1
unfolding low_bits
all_ones_start = refl

pub word_checks : (bytes : List ℕ) (r : ℕ) → r ≡ after_all bytes 65535
    → low_bits 16 (bit_xor r 65535) ≡ check_bits bytes
word_checks bytes r is =
    let count : 8 * length bytes ≡ 8 * length bytes + 0 = omega arith in
    let whole : divided (8 * length bytes) (dividend bytes) ≡ low_bits 16 r = rw (← all_ones_start, count)
    (rw (is) (taken bytes 65535 (replicate 16 0) 0 (AreBits-replicate 16) ∙ word_left _)) in
    rw (whole) (sym (turned 16 r (omega arith)))
