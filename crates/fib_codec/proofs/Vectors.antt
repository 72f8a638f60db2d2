-- Examples of bytes in the grammar, and of bytes that are not.
use Rattle.fib_codec.proofs.Words.{[], ◌∷◌, ◌≡◌, AreEntries, AreFigs, IsCounted, IsEntry, IsFig, List, Other, arith}
use Rattle.fib_codec.proofs.Words.{false, inl, inr, is_open, refl, true, ℕ}

-- ensemble information without flags is 4 bytes, with a flag 5
flagged_ensemble : IsEntry 0 false (225 ∷ 197 ∷ 64 ∷ 4 ∷ 28 ∷ [])
flagged_ensemble = refl

flag_without_occurrence : IsEntry 0 false (225 ∷ 197 ∷ 64 ∷ 4 ∷ []) → ⊥
flag_without_occurrence is = absurd (omega (arith, is))

-- the CIF count's high part goes up to 19, its low part up to 249
last_count : IsCounted (225 ∷ 197 ∷ 19 ∷ 249 ∷ [])
last_count = (omega arith, omega arith)

high_part_of_20 : IsCounted (225 ∷ 197 ∷ 20 ∷ 0 ∷ []) → ⊥
high_part_of_20 is = absurd (omega (arith, is.0))

-- two sub-channels in one FIG
two_subs : AreEntries 1 false (4 ∷ 0 ∷ 5 ∷ 8 ∷ 96 ∷ 136 ∷ 48 ∷ []) ((4 ∷ 0 ∷ 5 ∷ []) ∷ (8 ∷ 96 ∷ 136 ∷ 48 ∷ []) ∷ [])
two_subs = (8 ∷ 96 ∷ 136 ∷ 48 ∷ [], refl, refl, ([], refl, refl, refl))

-- a FIG of type 0 and extension 1 is parsed; one of another ensemble is not, nor is a FIG of type 1
second_byte_of_ours : is_open 1 ≡ true
second_byte_of_ours = refl

second_byte_of_another : is_open 65 ≡ false
second_byte_of_another = refl

labels_are_not_looked_into : IsFig (32 ∷ []) (Other (32 ∷ []))
labels_are_not_looked_into = (refl, (λ e. absurd (omega (arith, e)), omega arith, refl))

end_marker_is_no_fig : IsFig (255 ∷ []) (Other (255 ∷ [])) → ⊥
end_marker_is_no_fig is = is.1.0 refl

-- after the end marker any bytes may follow; without it none may
marked_end : AreFigs (255 ∷ 85 ∷ []) []
marked_end = inr (85 ∷ [], refl)

first : {x y : ℕ} {xs ys : List ℕ} → x ∷ xs ≡ y ∷ ys → x ≡ y
first same = cc

unmarked_end : AreFigs (85 ∷ []) [] → ⊥
unmarked_end (inl none) = absurd cc
unmarked_end (inr marked) = absurd (omega (arith, first marked.1))
