-- The contents of the CRC's tables, and why they can process six bytes at once.
use Rattle.fib_codec.proofs.Words.{[], ◌%◌, ◌+◌, ◌/◌, ◌<◌, ◌∙◌, ◌∷◌, ◌≡◌, List, and_parts, ap, ap₂, arith, bit_xor}
use Rattle.fib_codec.proofs.Words.{eqb-true, get_or, is_next_table, is_table, later, length, refl, suc, sym, true, zero}
use Rattle.fib_codec.proofs.Words.{ℕ}
use Rattle.fib_codec.specs.declared.crc_tables.TheConstants.{SLICE_0, SLICE_1, SLICE_2, SLICE_3, SLICE_4, SLICE_5}
use Rattle.fib_codec.specs.Register.{after}
use Rattle.fib_codec.proofs.Linear.{apart, zeros_apart, two_bytes}

-- ---- the tables, computed
first_table : is_table SLICE_0 0 ≡ true
unfolding after
first_table = refl

second_table : is_next_table SLICE_0 SLICE_1 ≡ true
unfolding after
second_table = refl

third_table : is_next_table SLICE_1 SLICE_2 ≡ true
unfolding after
third_table = refl

fourth_table : is_next_table SLICE_2 SLICE_3 ≡ true
unfolding after
fourth_table = refl

fifth_table : is_next_table SLICE_3 SLICE_4 ≡ true
unfolding after
fifth_table = refl

sixth_table : is_next_table SLICE_4 SLICE_5 ≡ true
unfolding after
sixth_table = refl

at_place : (ts : List ℕ) (k i : ℕ) → is_table ts k ≡ true → i < length ts → get_or ts i 0 ≡ after 8 (k + i) 0
at_place [] k i h lt = absurd (omega arith)
at_place (t ∷ ts) k zero h lt =
    let here : k + 0 ≡ k = omega arith in
    rw (here) (eqb-true _ _ (and_parts _ _ h).0)
at_place (t ∷ ts) k (suc i) h lt =
    let there : suc k + i ≡ k + suc i = omega arith in
    rw (← there) (at_place ts (suc k) i (and_parts _ _ h).1 (omega arith))

at_next_place : (ps ts : List ℕ) (i : ℕ) → is_next_table ps ts ≡ true → i < length ps → i < length ts
    → get_or ts i 0 ≡ after 8 0 (get_or ps i 0)
at_next_place (p ∷ ps) (t ∷ ts) zero h lp lt = eqb-true _ _ (and_parts _ _ h).0
at_next_place (p ∷ ps) (t ∷ ts) (suc i) h lp lt = at_next_place ps ts i (and_parts _ _ h).1 (omega arith) (omega arith)
at_next_place _ _ i h lp lt = absurd (omega arith)

pub in_first_table : (k : ℕ) → k < 256 → get_or SLICE_0 k 0 ≡ later 0 (after 8 k 0)
in_first_table k h =
    at_place SLICE_0 0 k first_table h ∙ ap (λ n. after 8 n 0) (omega arith)

pub in_second_table : (k : ℕ) → k < 256 → get_or SLICE_1 k 0 ≡ later 1 (after 8 k 0)
in_second_table k h = rw (← in_first_table k h) (at_next_place SLICE_0 SLICE_1 k second_table h h)

pub in_third_table : (k : ℕ) → k < 256 → get_or SLICE_2 k 0 ≡ later 2 (after 8 k 0)
in_third_table k h = rw (← in_second_table k h) (at_next_place SLICE_1 SLICE_2 k third_table h h)

pub in_fourth_table : (k : ℕ) → k < 256 → get_or SLICE_3 k 0 ≡ later 3 (after 8 k 0)
in_fourth_table k h = rw (← in_third_table k h) (at_next_place SLICE_2 SLICE_3 k fourth_table h h)

pub in_fifth_table : (k : ℕ) → k < 256 → get_or SLICE_4 k 0 ≡ later 4 (after 8 k 0)
in_fifth_table k h = rw (← in_fourth_table k h) (at_next_place SLICE_3 SLICE_4 k fifth_table h h)

pub in_sixth_table : (k : ℕ) → k < 256 → get_or SLICE_5 k 0 ≡ later 5 (after 8 k 0)
in_sixth_table k h = rw (← in_fifth_table k h) (at_next_place SLICE_4 SLICE_5 k sixth_table h h)

-- ---- six bytes
pub six_bytes : (r a b c d e f t0 t1 t2 t3 t4 t5 : ℕ)
    → t0 ≡ later 0 (after 8 f 0) → t1 ≡ later 1 (after 8 e 0) → t2 ≡ later 2 (after 8 d 0) → t3 ≡ later 3 (after 8 c 0)
    → t4 ≡ later 4 (after 8 (bit_xor (r % 256) b) 0) → t5 ≡ later 5 (after 8 (bit_xor (r / 256) a) 0)
    → bit_xor t0 (bit_xor t1 (bit_xor t2 (bit_xor t3 (bit_xor t4 t5))))
    ≡ after 8 f (after 8 e (after 8 d (after 8 c (after 8 b (after 8 a r)))))
six_bytes r a b c d e f t0 t1 t2 t3 t4 t5 h0 h1 h2 h3 h4 h5 =
    let z : ℕ → ℕ = after 8 0 in
    let p = after 8 (bit_xor (r % 256) b) 0 in
    let q = after 8 0 (after 8 (bit_xor (r / 256) a) 0) in
    let x = after 8 c 0 in
    let y = after 8 d 0 in
    let w = after 8 e 0 in
    let both = after 8 b (after 8 a r) in
    let third : after 8 c both ≡ bit_xor x (bit_xor (z p) (z q)) =
    rw (← ap z (two_bytes r a b) ∙ zeros_apart p q) (apart c both) in
    let fourth : after 8 d (after 8 c both) ≡ bit_xor y (bit_xor (z x) (bit_xor (z (z p)) (z (z q)))) =
    cc (apart d (after 8 c both), third, zeros_apart x (bit_xor (z p) (z q)), zeros_apart (z p) (z q)) in
    let fifth : after 8 e (after 8 d (after 8 c both))
    ≡ bit_xor w (bit_xor (z y) (bit_xor (z (z x)) (bit_xor (z (z (z p))) (z (z (z q)))))) =
    apart e (after 8 d (after 8 c both))
    ∙ ap (bit_xor w)
    (ap z fourth ∙ zeros_apart y (bit_xor (z x) (bit_xor (z (z p)) (z (z q))))
    ∙ ap (bit_xor (z y))
    (zeros_apart (z x) (bit_xor (z (z p)) (z (z q))) ∙ ap (bit_xor (z (z x))) (zeros_apart (z (z p)) (z (z q))))) in
    let last : after 8 f (after 8 e (after 8 d (after 8 c both)))
    ≡ bit_xor (after 8 f 0)
    (bit_xor (z w) (bit_xor (z (z y)) (bit_xor (z (z (z x))) (bit_xor (z (z (z (z p)))) (z (z (z (z q)))))))) =
    apart f (after 8 e (after 8 d (after 8 c both)))
    ∙ ap (bit_xor (after 8 f 0))
    (ap z fifth ∙ zeros_apart w (bit_xor (z y) (bit_xor (z (z x)) (bit_xor (z (z (z p))) (z (z (z q))))))
    ∙ ap (bit_xor (z w))
    (zeros_apart (z y) (bit_xor (z (z x)) (bit_xor (z (z (z p))) (z (z (z q)))))
    ∙ ap (bit_xor (z (z y)))
    (zeros_apart (z (z x)) (bit_xor (z (z (z p))) (z (z (z q))))
    ∙ ap (bit_xor (z (z (z x)))) (zeros_apart (z (z (z p))) (z (z (z q))))))) in
    ap₂ (λ s t. bit_xor s t) h0
    (ap₂ (λ s t. bit_xor s t) h1
    (ap₂ (λ s t. bit_xor s t) h2 (ap₂ (λ s t. bit_xor s t) h3 (ap₂ (λ s t. bit_xor s t) h4 h5))))
    ∙ sym last
