-- A FIB that is being written, byte by byte.
use Rattle.fib_codec.proofs.Words.{◌++◌, ◌+◌, ◌-◌, ◌<◌, ◌∙◌, ◌∷◌, ◌≡◌, ◌≤◌, List, ap, arith, cases_lt, drop, drop-drop}
use Rattle.fib_codec.proofs.Words.{drop-replicate, drop-set, drop-set-lt, filled, inl, inr, le-ltb, length, length-set}
use Rattle.fib_codec.proofs.Words.{length-take-le, lt-ltb, replicate, slice_set, suc, sym, take, take-append-add}
use Rattle.fib_codec.proofs.Words.{take-append-drop, take-replicate, ℕ}
use Rattle.fib_codec.specs.Begun.{IsBegun}

-- the zeros after this many more bytes
zeros_after : (size more : ℕ) (bytes : List ℕ) → IsBegun size bytes
    → drop (size + suc more) bytes ≡ replicate (31 - size - more) 0
zeros_after size more bytes is = sym (drop-drop (suc more) size bytes) ∙ ap (drop (suc more)) is.rest
    ∙ drop-replicate more (31 - size) 0

-- the end marker after the data bytes, if zeros follow it
marked : (size : ℕ) (bytes : List ℕ) → length bytes ≡ 32 → size ≤ 30 → drop (size + 1) bytes ≡ replicate (31 - size) 0
    → IsBegun size (slice_set bytes size 255)
marked size bytes whole within rest = record {
  within = within;
  whole = length-set bytes size 255 ∙ whole;
  rest = rw (← rest) (drop-set bytes size 255 (omega (arith, within, whole)));
}

-- one byte more
pub begun_more : (size : ℕ) (bytes : List ℕ) (byte : ℕ) → IsBegun size bytes → size < 30
    → IsBegun (size + 1) (slice_set (slice_set bytes size byte) (size + 1) 255)
begun_more size bytes byte is fits =
    let less : 31 - size - 1 ≡ 31 - (size + 1) = omega arith in
    marked (size + 1) (slice_set bytes size byte) (length-set bytes size byte ∙ is.whole) (omega (arith, fits))
    (rw (← less) (drop-set-lt (size + 1 + 1) bytes size byte (omega arith) ∙ ap (λ n. drop n bytes) (omega arith)
    ∙ zeros_after size 1 bytes is))

-- two bytes more
pub begun_two : (size : ℕ) (bytes : List ℕ) (a b : ℕ) → IsBegun size bytes → size < 29
    → IsBegun (size + 2) (slice_set (slice_set (slice_set bytes size a) (size + 1) b) (size + 2) 255)
begun_two size bytes a b is fits =
    let one = slice_set bytes size a in
    let less : 31 - size - 2 ≡ 31 - (size + 2) = omega arith in
    marked (size + 2) (slice_set one (size + 1) b) (length-set one (size + 1) b ∙ length-set bytes size a ∙ is.whole)
    (omega (arith, fits)) (rw (← less) (drop-set-lt (size + 2 + 1) one (size + 1) b (omega arith)
    ∙ drop-set-lt (size + 2 + 1) bytes size a (omega arith) ∙ ap (λ n. drop n bytes) (omega arith)
    ∙ zeros_after size 2 bytes is))

-- the first thirty bytes are the data bytes, padded
pub begun_is_filled : (size : ℕ) (bytes : List ℕ) → IsBegun size bytes → take 30 bytes ≡ filled (take size bytes)
begun_is_filled size bytes is = elim (cases_lt size 30) [ inl lt ↦ short lt | inr ge ↦ full ge ]
  where
    short : size < 30 → take 30 bytes ≡ filled (take size bytes)
    short fits =
        let front = take size bytes in
        let long : length front ≡ size = length-take-le size bytes (omega (arith, is.within, is.whole)) in
        let count : 30 ≡ length front + suc (29 - size) = omega (arith, long, fits) in
        let cut : take (29 - size) (replicate (31 - size) 0) ≡ replicate (29 - length front) 0 =
        take-replicate (29 - size) (31 - size) 0 (omega arith) ∙ ap (λ n. replicate (29 - n) 0) (sym long) in
        let less : length front < 30 = omega (arith, long, fits) in
        let whole : take 30 bytes ≡ front ++ 255 ∷ replicate (29 - length front) 0 =
        ap (take 30) (sym (take-append-drop size bytes) ∙ ap (λ t. front ++ t) is.rest)
        ∙ ap (λ n. take n (front ++ 255 ∷ replicate (31 - size) 0)) count
        ∙ take-append-add front (255 ∷ replicate (31 - size) 0) (suc (29 - size))
        ∙ ap (λ t. front ++ 255 ∷ t) cut in
        rw (lt-ltb _ _ less) whole

    full : 30 ≤ size → take 30 bytes ≡ filled (take size bytes)
    full ge =
        let all : size ≡ 30 = omega (arith, ge, is.within) in
        let long : length (take size bytes) ≡ size = length-take-le size bytes (omega (arith, is.within, is.whole)) in
        let past : 30 ≤ length (take size bytes) = omega (arith, long, ge) in
        rw (le-ltb _ _ past) (ap (λ n. take n bytes) (sym all))
