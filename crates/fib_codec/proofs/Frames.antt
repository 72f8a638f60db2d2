-- Frames of FIBs: the law of steps, and that a FIB written into a frame leaves the others unchanged.
use Rattle.fib_codec.proofs.Words.{◌*◌, ◌++◌, ◌+◌, ◌∙◌, ◌≡◌, ◌≤◌, I, II, III, IV, IsInFrame, List, StepsDivide, ap}
use Rattle.fib_codec.proofs.Words.{append_assoc, arith, drop, drop-append-le, drop-append_seam, length, length-append}
use Rattle.fib_codec.proofs.Words.{length-drop, length-take-le, refl, sym, take, take-append-drop, take-append-le}
use Rattle.fib_codec.proofs.Words.{take-append_seam, with_fib, ℕ}

pub steps_divide : StepsDivide
steps_divide I = (refl, omega arith, omega arith)
steps_divide II = (refl, omega arith, omega arith)
steps_divide III = (refl, omega arith, omega arith)
steps_divide IV = (refl, omega arith, omega arith)

-- bytes with the 32 from an offset on overwritten
abbrev pub over : List ℕ → ℕ → List ℕ → List ℕ
over xs at fib = take at xs ++ (fib ++ drop (at + 32) xs)

over_front : (front rest fib : List ℕ) (at : ℕ) → at + 32 ≤ length front
    → over (front ++ rest) at fib ≡ over front at fib ++ rest
over_front front rest fib at fits =
    rw (
      take-append-le at front rest (omega (arith, fits)),
      drop-append-le (at + 32) front rest fits,
      ← append_assoc fib (drop (at + 32) front) rest,
    ) (sym (append_assoc (take at front) (fib ++ drop (at + 32) front) rest))

over_length : (xs fib : List ℕ) (at : ℕ) → at + 32 ≤ length xs → length fib ≡ 32
    → length (over xs at fib) ≡ length xs
over_length xs fib at fits whole =
    omega (
      arith,
      fits,
      whole,
      length-append (take at xs) (fib ++ drop (at + 32) xs),
      length-append fib (drop (at + 32) xs),
      length-take-le at xs (omega (arith, fits)),
      length-drop (at + 32) xs,
    )

-- the bytes of a frame and what follows it, after a FIB was written into it
pub record IsOver (size at : ℕ) (bytes fib : List ℕ) : Type 0 where
  pub frame : take size (over bytes at fib) ≡ over (take size bytes) at fib
  pub kept : IsInFrame size (over bytes at fib)
  pub whole : length (over (take size bytes) at fib) ≡ length (take size bytes)

pub written_over : (size at : ℕ) (bytes fib : List ℕ) → IsInFrame size bytes → at + 32 ≤ length (take size bytes)
    → length fib ≡ 32 → IsOver size at bytes fib
written_over size at bytes fib is fits whole =
    let front = take size bytes in
    let rest = drop size bytes in
    let same = ap (λ xs. over xs at fib) (sym (take-append-drop size bytes)) ∙ over_front front rest fib at fits in
    let len : length front ≡ size = length-take-le size bytes (omega (arith, is.within, is.whole)) in
    let kept : length (over front at fib) ≡ length front = over_length front fib at fits whole in
    let end : length (over front at fib) ≡ size = kept ∙ len in
    record {
      frame = ap (take size) same ∙ ap (λ n. take n (over front at fib ++ rest)) (sym end)
          ∙ take-append_seam (over front at fib) rest;
      kept = record {
        mode = is.mode;
        within = is.within;
        whole = (over_length bytes fib at (omega (arith, fits, len, is.within, is.whole)) whole) ∙ is.whole;
        rest = ap (drop size) same ∙ ap (λ n. drop n (over front at fib ++ rest)) (sym end)
            ∙ drop-append_seam (over front at fib) rest ∙ is.rest;
      };
      whole = kept;
    }

-- in terms of the index of a FIB and of the definition
pub written_fib : (size index : ℕ) (bytes fib new : List ℕ) → IsOver size (32 * index) bytes fib
    → new ≡ over bytes (32 * index) fib → take size new ≡ with_fib index fib (take size bytes)
written_fib size index bytes fib new is same =
    rw (same) (is.frame ∙ sym (append_assoc (take (32 * index) (take size bytes)) fib
    (drop (32 * index + 32) (take size bytes))))

-- the bytes up to a FIB that was written, and that FIB
pub front_of : (index : ℕ) (old fib new : List ℕ) → length fib ≡ 32 → 32 * index + 32 ≤ length old
    → new ≡ with_fib index fib old
    → take (32 * index + 32) new ≡ take (32 * index) old ++ fib
front_of index old fib new whole fits is =
    let front = take (32 * index) old in
    let rest = drop (32 * index + 32) old in
    let count : 32 * index + 32 ≡ length (front ++ fib) =
    omega (arith, whole, fits, length-append front fib, length-take-le (32 * index) old (omega (arith, fits))) in
    cc (is, count, take-append_seam (front ++ fib) rest)
