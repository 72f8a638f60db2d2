-- The FIBs of a page written one after another.
use Rattle.fib_carousel.proofs.Words.{[], ◌++◌, ◌+◌, ◌-◌, ◌<◌, ◌∙◌, ◌≡◌, List, Written, ap, append_assoc, arith}
use Rattle.fib_carousel.proofs.Words.{fib_bytes, flat_map, map, range_with_len, replicate, suc, sym, ℕ}

-- the FIBs still to be written, from this slot on
pub fibs_left : (count first slot : ℕ) (figs : ℕ → List Written) → slot < count
    → flat_map fib_bytes (map figs (range_with_len (first + slot) (count - slot))) ≡ fib_bytes (figs (first + slot))
    ++ flat_map fib_bytes (map figs (range_with_len (first + (slot + 1)) (count - (slot + 1))))
fibs_left count first slot figs h =
    let more : count - slot ≡ suc (count - (slot + 1)) = omega (arith, h) in
    let on : first + slot + 1 ≡ first + (slot + 1) = omega arith in
    ap (λ n. flat_map fib_bytes (map figs (range_with_len (first + slot) n))) more
    ∙ ap (λ n. fib_bytes (figs (first + slot)) ++ flat_map fib_bytes (map figs (range_with_len n (count - (slot + 1)))))
    on

pub fib_written : (count first slot : ℕ) (figs : ℕ → List Written) (before after fib whole : List ℕ) → slot < count
    → fib ≡ fib_bytes (figs (first + slot)) → after ≡ before ++ fib
    → before ++ flat_map fib_bytes (map figs (range_with_len (first + slot) (count - slot))) ≡ whole
    → after ++ flat_map fib_bytes (map figs (range_with_len (first + (slot + 1)) (count - (slot + 1)))) ≡ whole
fib_written count first slot figs before after fib whole h is grown so_far =
    let rest : List ℕ = flat_map fib_bytes (map figs (range_with_len (first + (slot + 1)) (count - (slot + 1)))) in
    ap (λ xs. xs ++ rest) grown
    ∙ append_assoc before fib rest
    ∙ ap (λ xs. before ++ (xs ++ rest)) is
    ∙ ap (λ xs. before ++ xs) (sym (fibs_left count first slot figs h))
    ∙ so_far

-- the reserved FIBs still to be written, from this slot on
pub reserved_written : (slot count : ℕ) (before after fib whole : List ℕ) → slot < count → fib ≡ fib_bytes []
    → after ≡ before ++ fib
    → before ++ flat_map fib_bytes (replicate (count - slot) []) ≡ whole → after
    ++ flat_map fib_bytes (replicate (count - (slot + 1)) []) ≡ whole
reserved_written slot count before after fib whole h is grown so_far =
    let rest : List ℕ = flat_map fib_bytes (replicate (count - (slot + 1)) []) in
    let more : count - slot ≡ suc (count - (slot + 1)) = omega (arith, h) in
    ap (λ xs. xs ++ rest) grown
    ∙ append_assoc before fib rest
    ∙ ap (λ xs. before ++ (xs ++ rest)) is
    ∙ ap (λ n. before ++ flat_map fib_bytes (replicate n [])) (sym more)
    ∙ so_far
