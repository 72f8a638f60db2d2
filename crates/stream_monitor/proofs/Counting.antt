-- Counting findings one after the other.
use Rattle.stream_monitor.proofs.Words.{[], ◌+◌, ◌∙◌, ◌∷◌, ◌≡◌, Finding, List, Tally, ap, arith, counted, faults_in}
use Rattle.stream_monitor.proofs.Words.{length, refl, swaps_in, sym, u64_saturate, ℕ}

pub saturated_more : (a b n : ℕ) → u64_saturate (u64_saturate (a + b) + n) ≡ u64_saturate (a + (b + n))
saturated_more a b n = omega arith

none_left : (xs : List Finding) → length xs ≡ 0 → xs ≡ []
none_left [] e = refl
none_left (x ∷ xs) e = absurd (omega (arith, e))

-- no finding is left
pub counted_all : (start : Tally) (findings rest : List Finding) (swaps faults : ℕ) → length rest ≡ 0
    → u64_saturate (swaps + swaps_in rest) ≡ u64_saturate (start.swaps + swaps_in findings)
    → u64_saturate (faults + faults_in rest) ≡ u64_saturate (start.faults + faults_in findings)
    → counted (record { swaps = swaps; faults = faults }) [] ≡ counted start findings
counted_all start findings rest swaps faults none s f =
    let one = ap (λ (l : List Finding). u64_saturate (swaps + swaps_in l)) (sym (none_left rest none)) ∙ s in
    let other = ap (λ (l : List Finding). u64_saturate (faults + faults_in l)) (sym (none_left rest none)) ∙ f in
    cc
