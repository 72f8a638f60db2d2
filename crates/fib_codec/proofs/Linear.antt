-- The division is linear, so a byte and the register before it act independently, and tables can process several bytes.
use Rattle.fib_codec.proofs.Words.{[], ◌%◌, ◌*◌, ◌++◌, ◌+◌, ◌/◌, ◌<◌, ◌^◌, ◌∙◌, ◌∷◌, ◌≡◌, AreBits, List, ap, append-nil}
use Rattle.fib_codec.proofs.Words.{arith, bit_at, bit_xor, cases_eq, cond_both, eqb, generator, inl, inr, length}
use Rattle.fib_codec.proofs.Words.{length-append, next, plus, refl, replicate, same_from_bits_below, shr-shr, suc, sym}
use Rattle.fib_codec.proofs.Words.{without_leading, xor_comm, xor_of_16, zero, ℕ}
use Rattle.fib_codec.specs.Crc.{low_bits, divided}
use Rattle.fib_codec.specs.Register.{after}
use Rattle.fib_codec.proofs.Division.{bits_of-suc, bits_of-zero, length-bits_of, bits_of_are, bits_of-xor}
use Rattle.fib_codec.proofs.Division.{bits_of-below, plus-nil, plus-plus, plus-append, AreBits-append}
use Rattle.fib_codec.proofs.Division.{AreBits-replicate, divided-suc, divided-zero, steps, word_left}

-- numbers with the same bits agree in each bit
same_bit : (w x y i : ℕ) → low_bits w x ≡ low_bits w y → i < w → bit_at x i ≡ bit_at y i
same_bit zero x y i h lt = absurd (omega arith)
same_bit (suc w) x y i h lt =
    let both : bit_at x w ∷ low_bits w x ≡ bit_at y w ∷ low_bits w y = sym (bits_of-suc w x) ∙ h ∙ bits_of-suc w y in
    let head : bit_at x w ≡ bit_at y w = cc in
    let tail : low_bits w x ≡ low_bits w y = cc in
    elim (cases_eq i w) [
      | inl e ↦ ap (bit_at x) e ∙ head ∙ ap (bit_at y) (sym e)
      | inr ne ↦ same_bit w x y i tail (omega arith)
    ]

pub one_word : (x y : ℕ) → x < 65536 → y < 65536 → low_bits 16 x ≡ low_bits 16 y → x ≡ y
one_word x y p q h = same_from_bits_below 16 x y p q (λ i lt. same_bit 16 x y i h lt)

-- ---- one byte
-- a register of 0 adds nothing
zeros_are : low_bits 16 0 ≡ replicate 16 0
unfolding low_bits
zeros_are = refl

plus-zeros : (xs : List ℕ) (n : ℕ) → AreBits xs → plus xs (replicate n 0) ≡ xs
plus-zeros (x ∷ xs) (suc n) h =
    let same : (x + 0) % 2 ≡ x = omega arith in
    rw (same, plus-zeros xs n h.1) refl
plus-zeros _ _ h = refl

front_divides : (k n : ℕ) (m : List ℕ) → AreBits m
    → divided (8 + n) (low_bits 8 k ++ m) ≡ divided n (plus m (low_bits 16 (after 8 k 0)))
front_divides k n m are =
    let front = low_bits 8 k ++ m in
    let front_are : AreBits front = AreBits-append (low_bits 8 k) m (bits_of_are 8 k) are in
    rw (← ap (plus front) zeros_are ∙ plus-zeros front 16 front_are) (steps 8 k 0 m n are)

-- a u16 is its high byte and its low byte
split_at : (w r : ℕ) → low_bits (w + 8) r ≡ low_bits w (r / 256) ++ low_bits 8 r
split_at zero r =
    let start : 0 + 8 ≡ 8 = omega arith in
    rw (start, (bits_of-zero (r / 256))) refl
split_at (suc w) r =
    let count : suc w + 8 ≡ suc (w + 8) = omega arith in
    let turn : w + 8 ≡ 8 + w = omega arith in
    let top : bit_at r (w + 8) ≡ bit_at (r / 256) w = rw (turn, ← shr-shr r 8 w) refl in
    rw (count) (rw (bits_of-suc w (r / 256), ← split_at w r, ← top) (bits_of-suc (w + 8) r))

pub split : (r : ℕ) → low_bits 16 r ≡ low_bits 8 (r / 256) ++ low_bits 8 r
split r = split_at 8 r

no_bits : low_bits 8 0 ≡ replicate 8 0
unfolding low_bits
no_bits = refl

-- the low byte moved to the front
moved_up : (r : ℕ) → low_bits 16 (r * 256 % 65536) ≡ low_bits 8 r ++ replicate 8 0
moved_up r =
    let low : r * 256 % 65536 ≡ r % 256 * 2 ^ 8 + 0 = omega arith in
    split (r * 256 % 65536)
    ∙ ap (λ n. low_bits 8 n ++ low_bits 8 (r * 256 % 65536)) (omega arith)
    ∙ ap (λ bs. bs ++ low_bits 8 (r * 256 % 65536))
    (sym (bits_of-below 8 (r / 256) 8 (r % 256) (omega arith)) ∙ ap (low_bits 8) (omega arith))
    ∙ ap (λ bs. low_bits 8 r ++ bs) (ap (low_bits 8) low ∙ bits_of-below 8 (r % 256) 8 0 (omega arith) ∙ no_bits)

plus-push_zeros : (m xs : List ℕ) (n : ℕ) → AreBits m → plus m (xs ++ replicate n 0) ≡ plus m xs
plus-push_zeros [] xs n h = refl
plus-push_zeros (b ∷ m) [] n h = plus-zeros (b ∷ m) n h
plus-push_zeros (b ∷ m) (x ∷ xs) n h = rw (plus-push_zeros m xs n h.1) refl

plus-bits : (xs ys : List ℕ) → AreBits xs → AreBits (plus xs ys)
plus-bits [] ys h = tt
plus-bits (x ∷ xs) [] h = h
plus-bits (x ∷ xs) (y ∷ ys) h = (omega arith, plus-bits xs ys h.1)

pub length-plus : (xs ys : List ℕ) → length (plus xs ys) ≡ length xs
length-plus (x ∷ xs) (y ∷ ys) = ap suc (length-plus xs ys)
length-plus _ _ = refl

-- the register's high byte is added to the byte at the front, and its low byte to what follows
front_turned : (r byte : ℕ) (m : List ℕ)
    → plus (low_bits 8 byte ++ m) (low_bits 16 r) ≡ low_bits 8 (bit_xor (r / 256) byte) ++ plus m (low_bits 8 r)
front_turned r byte m =
    let long = length-bits_of 8 byte ∙ sym (length-bits_of 8 (r / 256)) in
    ap (plus (low_bits 8 byte ++ m)) (split r) ∙ plus-append _ _ _ _ long ∙ ap (λ t. t ++ plus m (low_bits 8 r))
    (sym (bits_of-xor _ _ _) ∙ ap (low_bits 8) (xor_comm byte (r / 256)))

pub by_table : (r byte t : ℕ) → t ≡ after 8 (bit_xor (r / 256) byte) 0 → (m : List ℕ) (n : ℕ) → AreBits m
    → divided (8 + n) (plus (low_bits 8 byte ++ m) (low_bits 16 r))
    ≡ divided n (plus m (low_bits 16 (bit_xor (r * 256 % 65536) t)))
by_table r byte t given m n are =
    let moved = r * 256 % 65536 in
    let long = length-bits_of 16 moved ∙ sym (length-bits_of 16 t) in
    let added : plus m (low_bits 16 moved) ≡ plus m (low_bits 8 r) = rw (moved_up r) (plus-push_zeros m _ 8 are) in
    let sum : plus m (low_bits 16 (bit_xor moved t)) ≡ plus (plus m (low_bits 8 r)) (low_bits 16 t) =
    rw (bits_of-xor 16 moved t) (rw (← added) (sym (plus-plus m (low_bits 16 moved) (low_bits 16 t) long))) in
    rw (front_turned _ _ _) (rw (sum, given) (front_divides _ _ _ (plus-bits _ _ are)))

-- ---- the division is linear
-- two lists can be added in either order
plus_turned : (m a b : List ℕ) → plus (plus m a) b ≡ plus (plus m b) a
plus_turned [] a b = refl
plus_turned (x ∷ m) [] [] = refl
plus_turned (x ∷ m) [] (c ∷ b) = refl
plus_turned (x ∷ m) (y ∷ a) [] = refl
plus_turned (x ∷ m) (y ∷ a) (c ∷ b) =
    let head : ((x + y) % 2 + c) % 2 ≡ ((x + c) % 2 + y) % 2 = omega arith in
    rw (head, plus_turned m a b) refl

plus_inside : (m a b : List ℕ) → length m ≡ length a → plus (plus m a) b ≡ plus m (plus a b)
plus_inside (x ∷ m) [] b h = cc
plus_inside (x ∷ m) (y ∷ a) (c ∷ b) h =
    let head : ((x + y) % 2 + c) % 2 ≡ (x + (y + c) % 2) % 2 = omega arith in
    rw (head, plus_inside m a b (omega arith)) refl
plus_inside _ _ _ h = refl

both_gone : (m a g : List ℕ) → length m ≡ length a → AreBits m → AreBits a → plus (plus m g) (plus a g) ≡ plus m a
both_gone (x ∷ m) [] g h p q = cc
both_gone (x ∷ m) (y ∷ a) (c ∷ g) h p q =
    let head : ((x + c) % 2 + (y + c) % 2) % 2 ≡ (x + y) % 2 = omega arith in
    rw (head, both_gone m a g (omega arith) p.1 q.1) refl
both_gone _ _ _ h p q = refl

pub divided-nil : (n : ℕ) → divided n [] ≡ []
unfolding divided
divided-nil zero = refl
divided-nil (suc n) = refl

pub without_bits : (b : ℕ) (xs : List ℕ) → AreBits xs → AreBits (without_leading b xs)
without_bits zero xs h = h
without_bits (suc b) xs h = plus-bits xs generator h

pub length-without : (b : ℕ) (xs : List ℕ) → length (without_leading b xs) ≡ length xs
length-without zero xs = refl
length-without (suc b) xs = length-plus xs generator

leading : (x y : ℕ) (xs ys : List ℕ) → x < 2 → y < 2 → length xs ≡ length ys → AreBits xs → AreBits ys
    → without_leading ((x + y) % 2) (plus xs ys) ≡ plus (without_leading x xs) (without_leading y ys)
leading zero zero xs ys p q h are bre = refl
leading zero (suc zero) xs ys p q h are bre = plus_inside xs ys generator h
leading (suc zero) zero xs ys p q h are bre = plus_turned xs ys generator
leading (suc zero) (suc zero) xs ys p q h are bre = sym (both_gone xs ys generator h are bre)
leading _ _ xs ys p q h are bre = absurd (omega arith)

divided-plus : (n : ℕ) (xs ys : List ℕ) → length xs ≡ length ys → AreBits xs → AreBits ys
    → divided n (plus xs ys) ≡ plus (divided n xs) (divided n ys)
divided-plus zero xs ys h are bre = rw (divided-zero ys, divided-zero xs) (divided-zero (plus xs ys))
divided-plus (suc n) [] ys h are bre = cc (divided-nil (suc n))
divided-plus (suc n) (x ∷ xs) [] h are bre = cc
divided-plus (suc n) (x ∷ xs) (y ∷ ys) h are bre =
    let same : length xs ≡ length ys = omega arith in
    let after_one = length-without x xs ∙ same ∙ sym (length-without y ys) in
    rw (divided-suc n y ys, divided-suc n x xs) (divided-suc n ((x + y) % 2) (plus xs ys)
    ∙ ap (divided n) (leading x y xs ys are.0 bre.0 same are.1 bre.1)
    ∙ divided-plus n (without_leading x xs) (without_leading y ys) after_one (without_bits x xs are.1)
    (without_bits y ys bre.1))

-- ---- two bytes
-- the register after a byte, as the remainder of that byte and the register
word_bits : (k : ℕ) → AreBits (low_bits 8 k ++ replicate 16 0)
word_bits k = AreBits-append (low_bits 8 k) (replicate 16 0) (bits_of_are 8 k) (AreBits-replicate 16)

as_rest : (k r : ℕ) → divided 8 (plus (low_bits 8 k ++ replicate 16 0) (low_bits 16 r)) ≡ low_bits 16 (after 8 k r)
as_rest k r = steps 8 k r (replicate 16 0) 0 (AreBits-replicate 16) ∙ word_left (after 8 k r)

-- what is added to the front can be added to zeros first
onto_zeros : (front xs : List ℕ) → length front ≡ 24 → AreBits front
    → plus front xs ≡ plus front (plus (low_bits 8 0 ++ replicate 16 0) xs)
onto_zeros front xs long are =
    let zeros : low_bits 8 0 ++ replicate 16 0 ≡ replicate 24 0 = rw (no_bits) refl in
    cc (plus-zeros front 24 are, plus_inside front (replicate 24 0) xs long, zeros)

word_long : (k : ℕ) → length (low_bits 8 k ++ replicate 16 0) ≡ 24
word_long k = length-append (low_bits 8 k) (replicate 16 0) ∙ ap (λ n. n + 16) (length-bits_of 8 k)

-- the remainder of a byte and a sum, as the sum of two remainders
apart_bits : (k : ℕ) (xs ys : List ℕ) → divided 8 (plus (plus (low_bits 8 k ++ replicate 16 0) xs) ys)
    ≡ plus (divided 8 (plus (low_bits 8 k ++ replicate 16 0) xs)) (divided 8 (plus (low_bits 8 0 ++ replicate 16 0) ys))
apart_bits k xs ys =
    let message = low_bits 8 k ++ replicate 16 0 in
    let zeros = low_bits 8 0 ++ replicate 16 0 in
    let front = plus message xs in
    let long : length front ≡ 24 = length-plus message xs ∙ word_long k in
    let same : length front ≡ length (plus zeros ys) = long ∙ sym (word_long 0) ∙ sym (length-plus zeros ys) in
    let are : AreBits front = plus-bits message xs (word_bits k) in
    rw (onto_zeros front ys long are) (divided-plus 8 front (plus zeros ys) same are (plus-bits zeros ys (word_bits 0)))

-- a byte and a register act independently
parts_of : (k r : ℕ) → low_bits 16 (after 8 k r) ≡ low_bits 16 (bit_xor (after 8 k 0) (after 8 0 r))
parts_of k r =
    let message = low_bits 8 k ++ replicate 16 0 in
    let empty : plus message (low_bits 16 0) ≡ message = rw (zeros_are) (plus-zeros message 16 (word_bits k)) in
    sym (as_rest k r) ∙ ap (λ t. divided 8 (plus t (low_bits 16 r))) (sym empty)
    ∙ apart_bits k (low_bits 16 0) (low_bits 16 r)
    ∙ ap (λ t. plus t (divided 8 (plus (low_bits 8 0 ++ replicate 16 0) (low_bits 16 r)))) (as_rest k 0)
    ∙ ap (plus (low_bits 16 (after 8 k 0))) (as_rest 0 r)
    ∙ sym (bits_of-xor 16 (after 8 k 0) (after 8 0 r))

-- and so do two registers before a byte of zeros
registers_apart : (r s : ℕ) → low_bits 16 (after 8 0 (bit_xor r s)) ≡ low_bits 16 (bit_xor (after 8 0 r) (after 8 0 s))
registers_apart r s =
    let zeros = low_bits 8 0 ++ replicate 16 0 in
    let long : length (low_bits 16 r) ≡ length (low_bits 16 s) = length-bits_of 16 r ∙ sym (length-bits_of 16 s) in
    sym (as_rest 0 (bit_xor r s))
    ∙ ap (λ t. divided 8 (plus zeros t)) (bits_of-xor 16 r s)
    ∙ ap (divided 8) (sym (plus-plus zeros (low_bits 16 r) (low_bits 16 s) long))
    ∙ apart_bits 0 (low_bits 16 r) (low_bits 16 s)
    ∙ ap (λ t. plus t (divided 8 (plus zeros (low_bits 16 s)))) (as_rest 0 r)
    ∙ ap (plus (low_bits 16 (after 8 0 r))) (as_rest 0 s)
    ∙ sym (bits_of-xor 16 (after 8 0 r) (after 8 0 s))

-- adding the register to the first two bytes leaves a register of 0
turned_bits : (r a b : ℕ) → low_bits 16 (after 8 b (after 8 a r))
    ≡ low_bits 16 (after 8 (bit_xor (r % 256) b) (after 8 (bit_xor (r / 256) a) 0))
turned_bits r a b =
    let first = bit_xor (r / 256) a in
    let second = bit_xor (r % 256) b in
    let zeros : List ℕ = replicate 16 0 in
    let are : AreBits zeros = AreBits-replicate 16 in
    let low : low_bits 8 r ≡ low_bits 8 (r % 256) =
    (let whole : r / 256 * 2 ^ 8 + r % 256 ≡ r = omega arith in
    sym (ap (low_bits 8) whole) ∙ bits_of-below 8 (r / 256) 8 (r % 256) (omega arith)) in
    let behind : plus (low_bits 8 b ++ zeros) (low_bits 8 r) ≡ low_bits 8 second ++ zeros =
    ap (plus (low_bits 8 b ++ zeros)) (low ∙ sym (append-nil (low_bits 8 (r % 256))))
    ∙ plus-append (low_bits 8 b) (low_bits 8 (r % 256)) zeros [] (length-bits_of 8 b ∙ sym (length-bits_of 8 (r % 256)))
    ∙ ap (λ t. plus (low_bits 8 b) (low_bits 8 (r % 256)) ++ t) (plus-nil zeros)
    ∙ ap (λ t. t ++ zeros) (sym (bits_of-xor 8 b (r % 256)) ∙ ap (low_bits 8) (xor_comm b (r % 256))) in
    sym (word_left _) ∙ sym (steps _ _ _ _ _ are) ∙ sym (steps _ _ _ _ _ (word_bits _)) ∙ ap (divided _)
    (rw (← behind) (front_turned _ _ _)) ∙ front_divides _ _ _ (word_bits _) ∙ steps _ _ _ _ _ are ∙ word_left _

-- ---- the same for registers as numbers
next_below : (r b : ℕ) → next r b < 65536
next_below r b =
    cond_both (eqb (bit_at r 15) b) (r * 2 % 65536) (bit_xor (r * 2 % 65536) 4129) (λ n. n < 65536)
    (λ _. omega arith) (λ _. xor_of_16 (r * 2 % 65536) 4129 (omega arith) (omega arith))

after_below : (w k r : ℕ) → after (suc w) k r < 65536
unfolding after
after_below zero k r = next_below r (bit_at k 0)
after_below (suc w) k r = after_below w k (next r (bit_at k (suc w)))

pub byte_below : (k r : ℕ) → after 8 k r < 65536
byte_below k r = after_below 7 k r

pub apart : (k r : ℕ) → after 8 k r ≡ bit_xor (after 8 k 0) (after 8 0 r)
apart k r =
    one_word (after 8 k r) (bit_xor (after 8 k 0) (after 8 0 r)) (byte_below k r)
    (xor_of_16 (after 8 k 0) (after 8 0 r) (byte_below k 0) (byte_below 0 r)) (parts_of k r)

pub zeros_apart : (r s : ℕ) → after 8 0 (bit_xor r s) ≡ bit_xor (after 8 0 r) (after 8 0 s)
zeros_apart r s =
    one_word (after 8 0 (bit_xor r s)) (bit_xor (after 8 0 r) (after 8 0 s)) (byte_below 0 (bit_xor r s))
    (xor_of_16 (after 8 0 r) (after 8 0 s) (byte_below 0 r) (byte_below 0 s)) (registers_apart r s)

pub one_byte : (r k : ℕ) → after 8 k r ≡ bit_xor (r * 256 % 65536) (after 8 (bit_xor (r / 256) k) 0)
one_byte r k =
    let turned = after 8 (bit_xor (r / 256) k) 0 in
    let word = bit_xor (r * 256 % 65536) turned in
    one_word (after 8 k r) word (byte_below k r)
    (xor_of_16 (r * 256 % 65536) turned (omega arith) (byte_below (bit_xor (r / 256) k) 0))
    (sym (as_rest k r)
    ∙ by_table r k turned refl (replicate 16 0) 0 (AreBits-replicate 16)
    ∙ word_left word)

pub two_bytes : (r a b : ℕ) → after 8 b (after 8 a r)
    ≡ bit_xor (after 8 (bit_xor (r % 256) b) 0) (after 8 0 (after 8 (bit_xor (r / 256) a) 0))
two_bytes r a b =
    let first = after 8 (bit_xor (r / 256) a) 0 in
    let second = bit_xor (r % 256) b in
    one_word _ _ (byte_below b (after 8 a r)) (byte_below second first) (turned_bits r a b) ∙ apart second first
