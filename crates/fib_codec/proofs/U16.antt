-- Numbers of sixteen bits as two bytes, and as bits.
use Rattle.fib_codec.proofs.Words.{[], ◌%◌, ◌*◌, ◌++◌, ◌+◌, ◌-◌, ◌/◌, ◌<◌, ◌^◌, ◌↔◌, ◌∙◌, ◌∷◌, ◌≡◌, ◌≤◌, AreBits}
use Rattle.fib_codec.proofs.Words.{IsChecked, List, ap, append-nil, ap₂, arith, big_bytes, bit_at, bit_at_cat_high}
use Rattle.fib_codec.proofs.Words.{bit_at_lowest, bits_of_bytes, check_bits, checked, crc_value, divided, dividend}
use Rattle.fib_codec.proofs.Words.{drop, drop-cons, drop-drop, drop_all, drop_at, get_or, length, length-append}
use Rattle.fib_codec.proofs.Words.{length-drop, length-map, length-take, length-take-le, low_bits, map, mod-pow-add}
use Rattle.fib_codec.proofs.Words.{number_of_bits, pow-suc, refl, replicate, subst, suc, sym, take, take_at}
use Rattle.fib_codec.proofs.Words.{without_leading, zero, ℕ}
use borrow.Rule.Slice.PartMut.{put_mid}
use Rattle.fib_codec.proofs.Division.{bits_of-suc, bits_of-zero, length-bits_of, bits_of-below, divided-zero}
use Rattle.fib_codec.proofs.Division.{divided-suc}
use Rattle.fib_codec.proofs.Linear.{one_word, split, length-plus, divided-nil, length-without}

-- two bytes have the bits of the u16 that they encode
pub sent_bits : (a b : ℕ) → b < 256 → bits_of_bytes (a ∷ b ∷ []) ≡ low_bits 16 (a * 256 + b)
sent_bits a b h =
    let high : (a * 256 + b) / 256 ≡ a = omega arith in
    cc (append-nil (low_bits 8 b), bits_of-below 8 a 8 b (omega arith), high, split (a * 256 + b))

last_two : (bytes : List ℕ) → length bytes ≡ 32 → drop 30 bytes ≡ get_or bytes 30 0 ∷ get_or bytes 31 0 ∷ []
last_two bytes h =
    let more : drop 30 bytes ≡ get_or bytes 30 0 ∷ drop 31 bytes = drop-cons bytes 30 0 (omega arith) in
    let last : drop 31 bytes ≡ get_or bytes 31 0 ∷ drop 32 bytes = drop-cons bytes 31 0 (omega arith) in
    more ∙ ap (λ t. get_or bytes 30 0 ∷ t) (last ∙ ap (λ t. get_or bytes 31 0 ∷ t) (drop_all 32 bytes (omega arith)))

pub checked_by_word : (bytes : List ℕ) (word : ℕ) → length bytes ≡ 32 → get_or bytes 30 0 < 256
    → get_or bytes 31 0 < 256
    → word < 65536 → low_bits 16 word ≡ check_bits (take 30 bytes)
    → (word ≡ get_or bytes 30 0 * 256 + get_or bytes 31 0) ↔ IsChecked bytes
checked_by_word bytes word long high low fits h =
    let sent : bits_of_bytes (drop 30 bytes) ≡ low_bits 16 (get_or bytes 30 0 * 256 + get_or bytes 31 0) =
    ap bits_of_bytes (last_two bytes long) ∙ sent_bits (get_or bytes 30 0) (get_or bytes 31 0) low in (
      λ same. sent ∙ ap (low_bits 16) (sym same) ∙ h,
      λ checked. one_word word (get_or bytes 30 0 * 256 + get_or bytes 31 0) fits (omega arith)
          (h ∙ sym checked ∙ sent),
    )

-- the lowest bits of a number form the number modulo a power of two
word_spelled : (w x : ℕ) → number_of_bits (low_bits w x) ≡ x % 2 ^ w
word_spelled zero x =
    rw ((bits_of-zero x)) (sym (omega arith))
word_spelled (suc w) x =
    let count : 1 + w ≡ suc w = omega arith in
    rw (bits_of-suc w x) (ap₂ (λ k n. bit_at x w * 2 ^ k + n) (length-bits_of w x) (word_spelled w x)
    ∙ sym (rw (← count) (mod-pow-add x 1 w)))

pub word_checked : (bytes : List ℕ) (word : ℕ) → word < 65536 → low_bits 16 word ≡ check_bits bytes
    → word ≡ crc_value bytes
word_checked bytes word fits h =
    rw (← h) (sym (omega arith) ∙ sym (word_spelled 16 word))

-- ---- the CRC is a u16
length-divided : (n : ℕ) (xs : List ℕ) → length (divided n xs) ≡ length xs - n
length-divided zero xs =
    rw (divided-zero xs) (omega arith)
length-divided (suc n) [] =
    rw (divided-nil (suc n)) (omega arith)
length-divided (suc n) (b ∷ bits) =
    rw (divided-suc n b bits) (length-divided n (without_leading b bits) ∙ ap (λ k. k - n) (length-without b bits)
    ∙ (omega arith))

turned_bits : (xs : List ℕ) → AreBits (map (λ b. 1 - b) xs)
turned_bits [] = tt
turned_bits (x ∷ xs) = (omega arith, turned_bits xs)

length-bits_of_bytes : (bytes : List ℕ) → length (bits_of_bytes bytes) ≡ 8 * length bytes
length-bits_of_bytes [] = refl
length-bits_of_bytes (b ∷ bs) =
    length-append (low_bits 8 b) (bits_of_bytes bs)
    ∙ ap₂ (λ m n. m + n) (length-bits_of 8 b) (length-bits_of_bytes bs) ∙ omega arith

check_len : (bytes : List ℕ) → length (check_bits bytes) ≡ 16
check_len bytes =
    let whole : length (dividend bytes) ≡ 8 * length bytes + 16 =
    rw (← length-bits_of_bytes _) (length-plus _ _ ∙ length-append (bits_of_bytes bytes) (replicate 16 0)) in
    length-map (divided (8 * length bytes) (dividend bytes)) (λ (b : ℕ). 1 - b)
    ∙ length-divided (8 * length bytes) (dividend bytes) ∙ ap (λ n. n - 8 * length bytes) whole ∙ (omega arith)

-- so bytes with a CRC at their end are 32
pub fib_len : (bytes : List ℕ) → IsChecked bytes → length bytes ≡ 32
fib_len bytes checked =
    let rest : length (drop 30 bytes) ≡ length bytes - 30 = length-drop 30 bytes in
    omega (arith, sym (length-bits_of_bytes (drop 30 bytes)) ∙ ap length checked ∙ check_len (take 30 bytes), rest)

-- bits form a number that has these bits
number_below : (bits : List ℕ) → AreBits bits → number_of_bits bits < 2 ^ length bits
number_below [] are = omega arith
number_below (zero ∷ bits) are =
    omega (arith, pow-suc 2 (length bits), number_below bits are.1)
number_below (suc zero ∷ bits) are =
    let more : 2 ^ suc (length bits) ≡ 2 ^ length bits * 2 = pow-suc 2 (length bits) in
    omega (arith, more, number_below bits are.1)
number_below (suc (suc b) ∷ bits) are = absurd (omega (arith, are.0))

spelled_bits : (bits : List ℕ) → AreBits bits → low_bits (length bits) (number_of_bits bits) ≡ bits
spelled_bits [] are = bits_of-zero 0
spelled_bits (b ∷ bits) are =
    let n = number_of_bits bits in
    let w = length bits in
    let place : w - w ≡ 0 = omega arith in
    let bit : b % 2 ≡ b = omega (arith, are.0) in
    let high : bit_at (b * 2 ^ w + n) w ≡ b =
    bit_at_cat_high b w n w (number_below bits are.1) (omega arith) ∙ ap (bit_at b) place ∙ bit_at_lowest b ∙ bit in
    bits_of-suc _ _ ∙ ap₂ (λ x xs. x ∷ xs) high (bits_of-below _ _ _ _ (omega arith) ∙ spelled_bits bits are.1)

pub check_word_bits : (bytes : List ℕ) → low_bits 16 (crc_value bytes) ≡ check_bits bytes
check_word_bits bytes = rw (← check_len bytes) (spelled_bits _ (turned_bits (divided _ _)))

pub check_word_below : (bytes : List ℕ) → crc_value bytes < 65536
check_word_below bytes =
    let below = number_below (check_bits bytes) (turned_bits (divided (8 * length bytes) (dividend bytes))) in
    subst (λ (k : ℕ). crc_value bytes < 2 ^ k) (check_len bytes) below

-- thirty bytes and their CRC are checked
pub checked_is : (bytes : List ℕ) → length bytes ≡ 30 → IsChecked (checked bytes)
checked_is bytes h =
    let word = crc_value bytes in
    let whole : word / 256 % 256 * 256 + word % 256 ≡ word = omega (arith, check_word_below bytes) in
    rw (drop_at bytes (big_bytes 2 word) 30 h) (rw (take_at bytes (big_bytes 2 word) 30 h)
    (sent_bits (word / 256 % 256) (word % 256) (omega arith) ∙ ap (low_bits 16) whole ∙ check_word_bits bytes))

-- the CRC written over the last two of thirty-two bytes
pub sealed_row : (row buf : List ℕ) (word : ℕ) → length row ≡ 32 → word < 65536
    → low_bits 16 word ≡ check_bits (take 30 row)
    → buf ≡ word / 256 % 256 ∷ word % 256 ∷ drop 2 (take 2 (drop 30 row))
    → put_mid 30 2 row buf ≡ checked (take 30 row)
sealed_row row buf word whole fits bits written =
    let tail = take 2 (drop 30 row) in
    let two : buf ≡ big_bytes 2 word = rw (← (drop_all 2 tail (omega (arith, length-take 2 (drop 30 row))))) written in
    rw (← word_checked (take 30 row) word fits bits, ← append-nil (big_bytes 2 word))
    (ap₂ (λ xs ys. take 30 row ++ (xs ++ ys)) two (drop_all 2 (drop 30 row) (omega (arith, length-drop 30 row, whole))))

-- the same over all bytes after thirty
pub sealed_end : (row buf : List ℕ) (word : ℕ) → length row ≡ 32 → word < 65536
    → low_bits 16 word ≡ check_bits (take 30 row)
    → buf ≡ word / 256 % 256 ∷ word % 256 ∷ drop 2 (take (length row - 30) (drop 30 row))
    → put_mid 30 (length row - 30) row buf ≡ checked (take 30 row)
sealed_end row buf word whole fits bits written =
    let two : length row - 30 ≡ 2 = omega (arith, whole) in
    let put = written ∙ ap (λ n. word / 256 % 256 ∷ word % 256 ∷ drop 2 (take n (drop 30 row))) two in
    rw (two) (sealed_row row buf word whole fits bits put)

-- thirty-two bytes written over a piece of a longer list
pub piece_into : (offset : ℕ) (bytes piece is : List ℕ) → piece ≡ is
    → put_mid offset (offset + 32 - offset) bytes piece ≡ take offset bytes ++ (is ++ drop (offset + 32) bytes)
piece_into offset bytes piece is same =
    let count : offset + 32 - offset ≡ 32 = omega arith in
    ap₂ (λ xs ys. take offset bytes ++ (xs ++ ys)) same (rw (count) (drop-drop 32 offset bytes))

-- the same if they get their CRC there
pub sealed_into : (offset word : ℕ) (bytes row copied buf : List ℕ) → length row ≡ 32 → copied ≡ row → word < 65536
    → low_bits 16 word ≡ check_bits (take 30 row)
    → buf ≡ word / 256 % 256 ∷ word % 256 ∷ drop 2 (take (length copied - 30) (drop 30 copied))
    → put_mid offset (offset + 32 - offset) bytes (put_mid 30 (length copied - 30) copied buf)
    ≡ take offset bytes ++ (checked (take 30 row) ++ drop (offset + 32) bytes)
sealed_into offset word bytes row copied buf whole same fits bits written =
    let long : length copied ≡ 32 = rw (same) whole in
    let own : low_bits 16 word ≡ check_bits (take 30 copied) = rw (same) bits in
    piece_into offset bytes _ (checked (take 30 row)) (rw (← same) (sealed_end copied buf word long fits own written))

-- a FIG and the front of other bytes, thirty in all
pub joined_len : (fig plain : List ℕ) → length fig ≤ 30 → length plain ≡ 32
    → length (fig ++ take (30 - length fig) plain) ≡ 30
joined_len fig plain few whole =
    let cut = length-take-le (30 - length fig) plain (omega (arith, whole)) in
    length-append fig (take (30 - length fig) plain) ∙ omega (arith, cut, few)

pub joined_into : (offset : ℕ) (bytes fig plain joined rest sealed : List ℕ) → length fig ≤ 30 → length plain ≡ 32
    → joined ≡ (fig ++ take (30 - length fig) plain) ++ rest → sealed ≡ checked (take 30 joined)
    → put_mid offset (offset + 32 - offset) bytes sealed ≡ take offset bytes
    ++ (checked (fig ++ take (30 - length fig) plain) ++ drop (offset + 32) bytes)
joined_into offset bytes fig plain joined rest sealed few whole is seals =
    let thirty : List ℕ = fig ++ take (30 - length fig) plain in
    piece_into offset bytes sealed _ (rw (← take_at thirty rest 30 (joined_len fig plain few whole), ← is) seals)

pub checked_len : (bytes : List ℕ) → length bytes ≡ 30 → length (checked bytes) ≡ 32
checked_len bytes h = length-append bytes (big_bytes 2 (crc_value bytes)) ∙ omega (arith, h)
