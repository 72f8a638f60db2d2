-- The CRC is linear, so changing two bytes of a FIB changes it by the contribution of each.
use Rattle.plan_player.proofs.Words.{[], ◌%◌, ◌*◌, ◌++◌, ◌+◌, ◌/◌, ◌<◌, ◌∙◌, ◌∷◌, ◌≡◌, List, after, after_all, ap, ap₂}
use Rattle.plan_player.proofs.Words.{arith, bit_xor, check_word_below, checked, get_or-append_right, later, length}
use Rattle.plan_player.proofs.Words.{refl, set-append_right, slice_index_or, slice_set, suc, sym, word_checked, zero, ℕ}
use Rattle.std.specs.Int.Bits.{xor_assoc, xor_self}
use Rattle.std.proofs.lemmas.Nat.{xor_comm, xor_of_16}
use Rattle.fib_codec.specs.Crc.{crc_value}
use Rattle.fib_codec.proofs.Division.{word_checks}
use Rattle.fib_codec.proofs.Linear.{apart, zeros_apart, one_byte, byte_below}

-- ---- sums modulo 2

nothing : (a : ℕ) → bit_xor 0 a ≡ a
nothing a = refl

-- what is in both terms cancels
gone : (a b c : ℕ) → bit_xor (bit_xor a b) (bit_xor c a) ≡ bit_xor c b
gone a b c =
    cc (xor_comm (bit_xor a b) (bit_xor c a), xor_assoc c a (bit_xor a b), xor_assoc a a b, xor_self a, nothing b)

-- the last of three terms before the second
turned_round : (a b c : ℕ) → bit_xor (bit_xor a b) c ≡ bit_xor (bit_xor a c) b
turned_round a b c = xor_assoc a b c ∙ ap (bit_xor a) (xor_comm b c) ∙ sym (xor_assoc a c b)

-- ---- changing a byte

high_byte : (k b : ℕ) → after 8 k (b * 256) ≡ after 8 (bit_xor b k) 0
high_byte k b =
    let none : b * 256 * 256 % 65536 ≡ 0 = omega arith in
    let top : b * 256 / 256 ≡ b = omega arith in
    cc (one_byte (b * 256) k, none, nothing (after 8 (bit_xor (b * 256 / 256) k) 0), top)

both_bytes : (x y : ℕ) → after 8 (bit_xor x y) 0 ≡ bit_xor (after 8 y 0) (after 8 x 0)
both_bytes x y =
    let alone : bit_xor x 0 ≡ x = xor_comm x 0 ∙ nothing x in
    cc (high_byte y x, apart y (x * 256), high_byte 0 x, alone)

-- changing a byte changes the register by the contribution of the sum of both bytes
other_byte : (x y r : ℕ) → after 8 y r ≡ bit_xor (after 8 x r) (after 8 (bit_xor x y) 0)
other_byte x y r =
    apart y r
    ∙ sym (gone (after 8 x 0) (after 8 0 r) (after 8 y 0))
    ∙ ap₂ (λ m n. bit_xor m n) (sym (apart x r)) (sym (both_bytes x y))

-- ---- the bytes after it

-- a change of the register continues as over zero bytes
one_on : (k r d : ℕ) → after 8 k (bit_xor r d) ≡ bit_xor (after 8 k r) (after 8 0 d)
one_on k r d =
    rw (apart k r) (apart k (bit_xor r d) ∙ ap (bit_xor (after 8 k 0)) (zeros_apart r d)
    ∙ sym (xor_assoc (after 8 k 0) (after 8 0 r) (after 8 0 d)))

later_more : (n d : ℕ) → later n (after 8 0 d) ≡ later (suc n) d
later_more zero d = refl
later_more (suc n) d = ap (after 8 0) (later_more n d)

all_on : (ys : List ℕ) (r d : ℕ) → after_all ys (bit_xor r d) ≡ bit_xor (after_all ys r) (later (length ys) d)
all_on [] r d = refl
all_on (k ∷ ys) r d = cc (one_on k r d, all_on ys (after 8 k r) (after 8 0 d), later_more (length ys) d)

-- two changed bytes, followed by others
two_others : (x y high low r : ℕ) (rest : List ℕ)
    → after_all rest (after 8 low (after 8 high r))
    ≡ bit_xor (bit_xor (after_all rest (after 8 y (after 8 x r)))
    (later (suc (length rest)) (after 8 (bit_xor x high) 0))) (later (length rest) (after 8 (bit_xor y low) 0))
two_others x y high low r rest =
    let first = after 8 (bit_xor x high) 0 in
    let second = after 8 (bit_xor y low) 0 in
    let both = after 8 y (after 8 x r) in
    let turned : after 8 low (after 8 high r) ≡ bit_xor (bit_xor both (after 8 0 first)) second =
    rw (← one_on y (after 8 x r) first) (ap (after 8 low) (other_byte _ _ _) ∙ other_byte _ _ _) in
    rw (← all_on rest both (after 8 0 first) ∙ ap (bit_xor (after_all rest both)) (later_more (length rest) first))
    (ap (after_all rest) turned ∙ all_on rest (bit_xor both (after 8 0 first)) second)

-- ---- the CRC

all_below : (bytes : List ℕ) (r : ℕ) → r < 65536 → after_all bytes r < 65536
all_below [] r lt = lt
all_below (k ∷ bytes) r lt = all_below bytes (after 8 k r) (byte_below k r)

word_is : (bytes : List ℕ) → bit_xor (after_all bytes 65535) 65535 ≡ crc_value bytes
word_is bytes =
    let r = after_all bytes 65535 in
    word_checked _ _ (xor_of_16 r 65535 (all_below bytes 65535 (omega arith)) (omega arith)) (word_checks _ _ refl)

other_word : (a b c d x y high low : ℕ) (rest : List ℕ) → length rest ≡ 24
    → bit_xor (crc_value (a ∷ b ∷ c ∷ d ∷ x ∷ y ∷ rest))
    (bit_xor (later 25 (after 8 (bit_xor x high) 0)) (later 24 (after 8 (bit_xor y low) 0)))
    ≡ crc_value (a ∷ b ∷ c ∷ d ∷ high ∷ low ∷ rest)
other_word a b c d x y high low rest long =
    let old = a ∷ b ∷ c ∷ d ∷ x ∷ y ∷ rest in
    let new = a ∷ b ∷ c ∷ d ∷ high ∷ low ∷ rest in
    let before = after_all old 65535 in
    let first = after 8 (bit_xor x high) 0 in
    let second = after 8 (bit_xor y low) 0 in
    let turned : after_all new 65535 ≡ bit_xor (bit_xor before (later 25 first)) (later 24 second) =
    cc (two_others x y high low (after_all (a ∷ b ∷ c ∷ d ∷ []) 65535) rest, long) in
    rw (← word_is old) (sym (xor_assoc (bit_xor before 65535) (later 25 first) (later 24 second))
    ∙ ap (λ w. bit_xor w (later 24 second)) (turned_round before 65535 (later 25 first))
    ∙ turned_round (bit_xor before (later 25 first)) 65535 (later 24 second) ∙ ap (λ w. bit_xor w 65535) (sym turned)
    ∙ word_is new)

-- ---- the FIB

last_set : (bytes : List ℕ) (v w p q : ℕ) → length bytes ≡ 30
    → slice_set (slice_set (bytes ++ v ∷ w ∷ []) 30 p) 31 q ≡ bytes ++ p ∷ q ∷ []
last_set bytes v w p q long =
    rw (set-append_right bytes (v ∷ w ∷ []) 30 30 p long (omega arith))
    (set-append_right bytes (p ∷ w ∷ []) 30 31 q long (omega arith))

pub recounted : (fib : List ℕ) (high low p q hi lo a b c d x y : ℕ) (rest : List ℕ) → length rest ≡ 24
    → fib ≡ checked (a ∷ b ∷ c ∷ d ∷ x ∷ y ∷ rest)
    → p ≡ slice_index_or fib 30 0 → q ≡ slice_index_or fib 31 0
    → hi ≡ later 25 (after 8 (bit_xor (slice_index_or fib 4 0) high) 0)
    → lo ≡ later 24 (after 8 (bit_xor (slice_index_or fib 5 0) low) 0)
    → (let word = bit_xor (p * 256 + q) (bit_xor hi lo) in
    slice_set (slice_set (slice_set (slice_set fib 4 high) 5 low) 30 (word / 256)) 31 (word % 256)
    ≡ checked (a ∷ b ∷ c ∷ d ∷ high ∷ low ∷ rest))
recounted fib high low p q hi lo a b c d x y rest long is is_p is_q is_hi is_lo =
    let old = a ∷ b ∷ c ∷ d ∷ x ∷ y ∷ rest in
    let new = a ∷ b ∷ c ∷ d ∷ high ∷ low ∷ rest in
    let old_word = crc_value old in
    let new_word = crc_value new in
    let v = old_word / 256 % 256 in
    let w = old_word % 256 in
    let whole : length old ≡ 30 = omega (arith, long) in
    let at_p : p ≡ v = cc (is_p, is, get_or-append_right old (v ∷ w ∷ []) 30 30 0 whole (omega arith)) in
    let at_q : q ≡ w = cc (is_q, is, get_or-append_right old (v ∷ w ∷ []) 30 31 0 whole (omega arith)) in
    let at_hi = is_hi ∙ ap (λ l. later 25 (after 8 (bit_xor (slice_index_or l 4 0) high) 0)) is in
    let at_lo = is_lo ∙ ap (λ l. later 24 (after 8 (bit_xor (slice_index_or l 5 0) low) 0)) is in
    let sum : p * 256 + q ≡ old_word = omega (arith, at_p, at_q, check_word_below old) in
    let word = bit_xor (p * 256 + q) (bit_xor hi lo) in
    let same : word ≡ new_word =
    ap₂ (λ m n. bit_xor m n) sum (ap₂ (λ m n. bit_xor m n) at_hi at_lo) ∙ other_word a b c d x y high low rest long in
    let top : word / 256 ≡ new_word / 256 % 256 = omega (arith, same, check_word_below new) in
    let end : word % 256 ≡ new_word % 256 = omega (arith, same) in
    rw (is) (last_set new v w (word / 256) (word % 256) (omega (arith, long)) ∙ ap₂ (λ m n. new ++ m ∷ n ∷ []) top end)
