-- The contents of the tables for the bytes of the count.
use Rattle.plan_player.proofs.Words.{[], ◌&&◌, ◌+◌, ◌<◌, ◌==◌, ◌∙◌, ◌∷◌, ◌≡◌, Bool, List, and_parts, ap, arith}
use Rattle.plan_player.proofs.Words.{eqb-true, get_or, later, length, refl, suc, true, zero, ℕ}
use Rattle.plan_player.specs.declared.count_tables.TheConstants.{LOWS, HIGHS}
use Rattle.fib_codec.specs.Register.{after}

-- from `byte` on, a table of the CRC register after each byte and n zero bytes, from a register of zero
abbrev is_late_table : ℕ → List ℕ → ℕ → Bool
is_late_table n [] byte = true
is_late_table n (entry ∷ entries) byte = entry == later n (after 8 byte 0) && is_late_table n entries (suc byte)

-- ---- the tables, computed
low_table : is_late_table 24 LOWS 0 ≡ true
unfolding after
low_table = refl

high_table : is_late_table 25 HIGHS 0 ≡ true
unfolding after
high_table = refl

at_late_place : (n : ℕ) (ts : List ℕ) (k i : ℕ) → is_late_table n ts k ≡ true → i < length ts
    → get_or ts i 0 ≡ later n (after 8 (k + i) 0)
at_late_place n [] k i h lt = absurd (omega arith)
at_late_place n (t ∷ ts) k zero h lt =
    let here : k + 0 ≡ k = omega arith in
    rw (here) (eqb-true _ _ (and_parts _ _ h).0)
at_late_place n (t ∷ ts) k (suc i) h lt =
    let there : suc k + i ≡ k + suc i = omega arith in
    rw (← there) (at_late_place n ts (suc k) i (and_parts _ _ h).1 (omega arith))

pub in_lows : (k : ℕ) → k < 256 → get_or LOWS k 0 ≡ later 24 (after 8 k 0)
in_lows k h =
    at_late_place 24 LOWS 0 k low_table h ∙ ap (λ b. later 24 (after 8 b 0)) (omega arith)

pub in_highs : (k : ℕ) → k < 256 → get_or HIGHS k 0 ≡ later 25 (after 8 k 0)
in_highs k h =
    at_late_place 25 HIGHS 0 k high_table h ∙ ap (λ b. later 25 (after 8 b 0)) (omega arith)
