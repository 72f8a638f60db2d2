-- A kept page with FIG 0/0 before the FIGs of its first FIB.
use Rattle.fib_carousel.proofs.Words.{[], ◌++◌, ◌+◌, ◌-◌, ◌<◌, ◌∙◌, ◌∷◌, ◌≡◌, ◌≤◌, EnsembleInformation, FrameLayout}
use Rattle.fib_carousel.proofs.Words.{List, Marked, None, Some, Written, ap, append_assoc, arith, cases_lt, checked}
use Rattle.fib_carousel.proofs.Words.{drop, drop_at, ensemble_figs, entry_size, false, fib_at, fib_bytes, fib_entries}
use Rattle.fib_carousel.proofs.Words.{fig_bytes, figs_bytes, figs_of, filled, first_fib, flat_map, inl, inr, later_fibs}
use Rattle.fib_carousel.proofs.Words.{le-ltb, length, length-append, length-filled, lt-ltb, map, marked, page_bytes}
use Rattle.fib_carousel.proofs.Words.{refl, replicate, reserved_figs, room, suc, sym, take, take-append-add}
use Rattle.fib_carousel.proofs.Words.{take-append-le, take-replicate, take_at, ℕ}
use Rattle.std.proofs.lemmas.Grind.{flat_map-append}
use Rattle.fib_codec.specs.Modes.{with_fib}
use Rattle.fib_carousel.specs.declared.kept_page.KeptPage.{KeptPage}
use Rattle.fib_carousel.specs.Kept.{IsKept}
use Rattle.mux_types.specs.declared.entry.Entry.TheVariants.{Ensemble as EnsembleOf}
use Rattle.fib_carousel.proofs.Least.{room_cases}
use Rattle.fib_carousel.proofs.Sharing.{figs_cost}
use Rattle.fib_carousel.proofs.Sent.{fib_fits}
use Rattle.fib_carousel.proofs.Hearing.{ensemble_low, length-fib_bytes, page_fits}
use Rattle.fib_carousel.proofs.Widths.{first_of_page}

-- bytes before others: the padding of the others, cut off at the end, pads both
filled_part : (xs : List ℕ) → length xs < 30 → filled xs ≡ xs ++ 255 ∷ replicate (29 - length xs) 0
filled_part xs h = rw (lt-ltb (length xs) 30 h) refl

filled_whole : (xs : List ℕ) → 30 ≤ length xs → filled xs ≡ xs
filled_whole xs h = rw (le-ltb (length xs) 30 h) refl

pub filled_behind : (xs ys : List ℕ) → 1 ≤ length xs → length xs + length ys ≤ 30 → xs
    ++ take (30 - length xs) (filled ys) ≡ filled (xs ++ ys)
filled_behind xs ys some fits =
    let count : length (xs ++ ys) ≡ length xs + length ys = length-append xs ys in
    let part : filled ys ≡ ys ++ 255 ∷ replicate (29 - length ys) 0 = filled_part ys (omega (arith, some, fits)) in
    elim (cases_lt (length xs + length ys) 30) [
      | inl lt ↦
          let zeros = take-replicate {X = ℕ} (29 - (length xs + length ys)) (29 - length ys) 0 (omega arith) in
          ap (λ t. xs ++ take (30 - length xs) t) part
          ∙ ap (λ n. xs ++ take n (ys ++ 255 ∷ replicate (29 - length ys) 0)) (omega (arith, lt))
          ∙ ap (λ t. xs ++ t) (take-append-add ys (255 ∷ replicate (29 - length ys) 0)
          (suc (29 - (length xs + length ys))))
          ∙ ap (λ t. xs ++ (ys ++ 255 ∷ t)) zeros
          ∙ sym (append_assoc xs ys (255 ∷ replicate (29 - (length xs + length ys)) 0))
          ∙ ap (λ n. (xs ++ ys) ++ 255 ∷ replicate (29 - n) 0) (sym count)
          ∙ sym (filled_part (xs ++ ys) (omega (arith, lt, count)))
      | inr ge ↦
          ap (λ t. xs ++ take (30 - length xs) t) part
          ∙ ap (λ t. xs ++ t) (take_at ys (255 ∷ replicate (29 - length ys) 0) (30 - length xs)
          (omega (arith, ge, fits)))
          ∙ sym (filled_whole (xs ++ ys) (omega (arith, ge, count)))
    ]

-- FIG 0/0 at the front of the FIB that has it alone
pub fig_length : (e : EnsembleInformation) (len : ℕ) → len ≡ entry_size (EnsembleOf e)
    → 2 + len ≡ length (figs_bytes (ensemble_figs (Some e)))
fig_length e len h =
    omega (arith, h, figs_cost (marked false (EnsembleOf e) ∷ []))

-- the first FIB of a kept page, with FIG 0/0
pub with_fig : (e : EnsembleInformation) (figs : List Written) (first : List ℕ) → first ≡ fib_bytes figs
    → length (figs_bytes figs) ≤ 23
    → checked (figs_bytes (ensemble_figs (Some e)) ++ take (30 - length (figs_bytes (ensemble_figs (Some e)))) first)
    ≡ fib_bytes (ensemble_figs (Some e) ++ figs)
with_fig e figs first is short =
    let fig : List ℕ = figs_bytes (ensemble_figs (Some e)) in
    let own : List ℕ = figs_bytes figs in
    let few : length fig ≤ 7 = ensemble_low (Some e) in
    let some : 1 ≤ length fig = omega (arith, fig_length e (entry_size (EnsembleOf e)) refl) in
    let cut : take (30 - length fig) first ≡ take (30 - length fig) (filled own) =
    ap (λ t. take (30 - length fig) t) is ∙ take-append-le (30 - length fig) (filled own) _
    (omega (arith, length-filled own (omega (arith, short)))) in
    ap (λ t. checked (fig ++ t)) cut
    ∙ ap checked (filled_behind fig own some (omega (arith, few, short)))
    ∙ ap (λ t. checked (filled t))
    (sym (flat_map-append (λ (w : Written). fig_bytes w.head w.entries) (ensemble_figs (Some e)) figs))

-- the whole page
pub kept_with : (layout : FrameLayout) (ms : List Marked) (k : ℕ) (p : KeptPage) (e : EnsembleInformation)
    (first fib after : List ℕ) → IsKept layout ms k p
    → first ≡ fib_at p.plain 0
    → fib ≡ checked (figs_bytes (ensemble_figs (Some e))
    ++ take (30 - length (figs_bytes (ensemble_figs (Some e)))) first)
    → after ≡ with_fib 0 fib p.plain → after ≡ page_bytes layout (Some e) k ms
kept_with layout ms k p e first fib after kept at is written =
    let figs : List Written = figs_of (fib_entries layout (first_fib layout k) ms) in
    let rest : List ℕ = flat_map fib_bytes (map (λ n. figs_of (fib_entries layout n ms)) (later_fibs layout k)
    ++ reserved_figs layout) in
    let long : length (fib_bytes figs) ≡ 32 =
    length-fib_bytes figs (page_fits layout None k ms
    (record { entries = kept.sendable; ensemble_within = tt })).0 in
    let plain : p.plain ≡ fib_bytes figs ++ rest = kept.plain in
    let size : length (figs_bytes figs) ≤ room layout (first_fib layout k) =
    rw (figs_cost (fib_entries layout (first_fib layout k) ms))
    (fib_fits layout ms (first_fib layout k) kept.sendable) in
    let short : length (figs_bytes figs) ≤ 23 =
    elim (room_cases layout (first_fib layout k)) [
      | inl c ↦ omega (arith, size, c.1)
      | inr c ↦
          absurd (c.0 (first_of_page layout k))
    ] in
    let whole : first ≡ fib_bytes figs = at ∙ ap (λ t. take 32 t) plain ∙ take_at (fib_bytes figs) rest 32 long in
    written
    ∙ ap (λ t. fib ++ drop 32 t) plain
    ∙ ap (λ t. fib ++ t) (drop_at (fib_bytes figs) rest 32 long)
    ∙ ap (λ t. t ++ rest) (is ∙ with_fig e figs first whole short)
