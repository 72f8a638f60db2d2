-- The components of a service, one after another in its entry.
use Rattle.fib_carousel.proofs.Words.{[], ◌*◌, ◌++◌, ◌+◌, ◌<◌, ◌==◌, ◌∙◌, ◌∷◌, ◌≡◌, ◌≤◌, Component, List, ap}
use Rattle.fib_carousel.proofs.Words.{append-nil, append_assoc, arith, component_entries, component_entry}
use Rattle.fib_carousel.proofs.Words.{component_u16, components_bytes, components_len, false, flat_map-append, get_or}
use Rattle.fib_carousel.proofs.Words.{length, length-append, length-take-le, map, map-append, ne_eqb, refl, suc, sym}
use Rattle.fib_carousel.proofs.Words.{take, take_more, true, zero, ℕ}
use Rattle.byteorder.specs.Endian.{big_bytes}
use Rattle.mux_types.specs.declared.entry.ComponentEntry.{ComponentEntry}
use Rattle.fib_carousel.proofs.Sendable.{length-component_entries}

-- one more component after the previous ones
entries_more : (cs : List Component) (i : ℕ) (d : Component) → i < length cs
    → component_entries (take (i + 1) cs) ≡ component_entries (take i cs)
    ++ component_entry (i == 0) (get_or cs i d) ∷ []
entries_more [] i d h = absurd (omega (arith, h))
entries_more (c ∷ cs) zero d h = refl
entries_more (c ∷ cs) (suc i) d h =
    let count : suc i + 1 ≡ suc (i + 1) = omega arith in
    ap (λ n. component_entries (take n (c ∷ cs))) count
    ∙ ap (λ xs. component_entry true c ∷ map (component_entry false) xs) (take_more cs i d (omega (arith, h)))
    ∙ ap (λ ys. component_entry true c ∷ ys) (map-append (component_entry false) (take i cs) (get_or cs i d ∷ []))
    ∙ ap (λ b. component_entries (take (suc i) (c ∷ cs)) ++ component_entry b (get_or cs i d) ∷ [])
    (sym (ne_eqb (suc i) 0 (λ q. omega (arith, q))))

pub bytes_more : (old now after : List ℕ) (cs : List Component) (i : ℕ) (d : Component) (entry : ComponentEntry)
    → i < length cs → d ≡ get_or cs i d
    → entry ≡ component_entry (i == 0) d → now ≡ old ++ components_bytes (component_entries (take i cs)) → after ≡ now
    ++ big_bytes 2 (component_u16 entry)
    → after ≡ old ++ components_bytes (component_entries (take (i + 1) cs))
bytes_more old now after cs i d entry lt there is before written =
    let Lexeme : ComponentEntry → List ℕ = λ e. big_bytes 2 (component_u16 e) in
    let so_far : List ComponentEntry = component_entries (take i cs) in
    written
    ∙ ap (λ xs. xs ++ Lexeme entry) before
    ∙ append_assoc old (components_bytes so_far) (Lexeme entry)
    ∙ ap (λ t. old ++ (components_bytes so_far ++ t)) (sym (append-nil (Lexeme entry)))
    ∙ ap (λ t. old ++ t) (sym (flat_map-append Lexeme so_far (entry ∷ [])))
    ∙ ap (λ (e : ComponentEntry). old ++ components_bytes (so_far ++ e ∷ [])) (is ∙ ap (component_entry (i == 0)) there)
    ∙ ap (λ es. old ++ components_bytes es) (sym (entries_more cs i d lt))

-- room for one more
pub room_for_more : (old now : List ℕ) (cs : List Component) (i : ℕ) → i < length cs → length old + 2 * length cs ≤ 30
    → now ≡ old ++ components_bytes (component_entries (take i cs)) → length now + 2 ≤ 30
room_for_more old now cs i lt room before =
    let long = ap length before ∙ length-append old (components_bytes (component_entries (take i cs))) in
    let words = components_len (component_entries (take i cs)) in
    omega (arith, long, words, length-component_entries (take i cs) ∙ length-take-le i cs (omega (arith, lt)), lt, room)
