-- Flows whose configurations are in a table, and the indices of configurations after an instruction: examples that
-- hold, and examples that fail.
use Rattle.plan_verifier.proofs.Words.{[], ◌∷◌, ◌≡◌, AreAt, Configuration, DropSub, Edits, Flow, Idle, IndexedFlow}
use Rattle.plan_verifier.proofs.Words.{Indices, IsAt, IsTracked, IsWithin, List, NextTwice, None, Option, Perhaps, Some}
use Rattle.plan_verifier.proofs.Words.{Swap, Wait, Within, ap, arith, configuration_at, false, false≢true, fit_indices}
use Rattle.plan_verifier.proofs.Words.{flow_at, has_swapped, indices_after, indices_of, known_at, length, moved_indices}
use Rattle.plan_verifier.proofs.Words.{nothing, refl, satisfies, swapped_indices, sym, true, ℕ}
use Rattle.plan_verifier.specs.declared.tracked.TrackedFlow.{TrackedFlow}

-- a configuration of one packet component
abbrev other : Configuration
other = record {
  subs = [];
  services = [];
  packets = record { scid = 1; sub = 0; ty = 5; address = 1; dg = false }
      ∷ [];
}

differ : other ≡ nothing → ⊥
differ e = let count : 1 ≡ 0 = ap (λ (c : Configuration). length c.packets) e in absurd (omega (arith, count))

abbrev table : List Configuration
table = nothing ∷ other ∷ []

abbrev flow : Configuration → Configuration → Swap → Flow
flow current next pending = record { current = current; next = next; pending = pending }

-- a flow that goes from the first configuration of the table to the second
abbrev indexed : IndexedFlow
indexed = record { current = 0; next = 1; pending = Within 24 24 }

its_flow : flow_at table indexed ≡ flow nothing other (Within 24 24)
its_flow = refl

not_back : flow_at table indexed ≡ flow other nothing (Within 24 24) → ⊥
not_back e = differ (sym (ap (λ (t : Flow). t.current) e))

past_the_end : configuration_at table 2 ≡ nothing
past_the_end = refl

not_the_last : configuration_at table 2 ≡ other → ⊥
not_the_last e = differ (sym e)

within : IsWithin (length table) indexed
within = (omega arith, omega arith)

not_in_a_shorter : IsWithin 1 indexed → ⊥
not_in_a_shorter h = let lt = h.1 in omega (arith, lt)

at_its_index : IsAt table (Some 1) other
at_its_index = refl

at_no_other : IsAt table (Some 0) other → ⊥
at_no_other e = let same : nothing ≡ other = cc in differ (sym same)

abbrev indices : Indices
indices = record { current = Some 0; next = Some 1 }

both : AreAt table indices (flow nothing other (Within 24 24))
both = (refl, refl)

not_exchanged : AreAt table indices (flow other nothing (Within 24 24)) → ⊥
not_exchanged h = at_no_other h.0

abbrev tracked : Flow → TrackedFlow Configuration
tracked t = record { flow = t; indices = indices }

its_indices : IsTracked (λ c. c) table (tracked (flow nothing other Idle))
its_indices = (refl, refl)

not_its_indices : IsTracked (λ c. c) table (tracked (flow other nothing Idle)) → ⊥
not_its_indices h = at_no_other h.0

-- ---- the indices that are known then

abbrev after_swap : Indices
after_swap = record { current = Some 1; next = Some 1 }

abbrev known : ℕ → Option ℕ
known k = Some k

not_none : known 1 ≡ None → ⊥
not_none e = cc

same_index : (j k : ℕ) → known j ≡ known k → j ≡ k
same_index j k e = cc

an_edit_forgets : indices_after (Edits (DropSub 3)) Idle Idle indices ≡ indices → ⊥
an_edit_forgets e = not_none (sym (ap (λ (k : Indices). k.next) e))

waited_for_it : indices_after (Wait 24) (Within 24 24) Idle indices ≡ after_swap
waited_for_it = refl

not_swapped_before_it : moved_indices (Within 24 24) (Within 20 20) indices ≡ swapped_indices indices → ⊥
not_swapped_before_it e = let same = same_index 0 1 (ap (λ (k : Indices). k.current) e) in omega (arith, same)

its_own : indices_of indexed ≡ indices
its_own = refl

abbrev perhaps : IndexedFlow
perhaps = record { current = 0; next = 1; pending = Perhaps 3 }

fits_after_it : fit_indices Idle perhaps ≡ after_swap
fits_after_it = refl

not_both_after_it : fit_indices Idle perhaps ≡ indices_of perhaps → ⊥
not_both_after_it e = let same = same_index 1 0 (ap (λ (k : Indices). k.current) e) in omega (arith, same)

made : has_swapped (Perhaps 3) Idle ≡ true
made = refl

none_made : has_swapped Idle Idle ≡ true → ⊥
none_made e = false≢true e

not_before_the_swap : satisfies NextTwice (known_at (flow nothing other Idle))
    (known_at (flow nothing other (Perhaps 3))) ≡ true → ⊥
not_before_the_swap e = false≢true e

swapped : satisfies NextTwice (known_at (flow other other Idle)) (known_at (flow nothing other (Perhaps 3))) ≡ true
swapped = refl
