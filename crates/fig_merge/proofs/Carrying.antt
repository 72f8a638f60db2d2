-- One pass over the FIGs that wait, and the end of a FIB.
use Rattle.fig_merge.proofs.Words.{[], ◌++◌, ◌+◌, ◌-◌, ◌<◌, ◌∙◌, ◌∷◌, ◌≡◌, ◌≤◌, Bool, List, ap, append-nil}
use Rattle.fig_merge.proofs.Words.{append_assoc, ap₂, arith, carried_in, carried_of, cases_lt, concat, cond-false}
use Rattle.fig_merge.proofs.Words.{cond-true, drop, drop-cons, drop_at, false, filled, get_or, inl, inr, le-leb, le-ltb}
use Rattle.fig_merge.proofs.Words.{leb, left_waiting, length, length-append, length-drop, length-take-le, lt-leb}
use Rattle.fig_merge.proofs.Words.{lt-ltb, ltb, refl, replicate, room_after, stale_in, stale_of, subst₂, suc}
use Rattle.fig_merge.proofs.Words.{sym, take, take_at, true, turns_in, zero, ℕ}
use Rattle.std.proofs.lemmas.List.{length-replicate, take_more}

-- ---- a FIG that waits on
turns_over : (ok : List ℕ → Bool) (fig : List ℕ) (rest : List (List ℕ)) (room : ℕ) → leb (length fig) room ≡ false
    → turns_in ok room (fig ∷ rest) ≡ turns_in ok room rest
turns_over ok fig rest room over =
    cond-false (leb (length fig) room) (fig ∷ turns_in ok (room_after ok room fig) rest) (turns_in ok room rest) over

left_over : (ok : List ℕ → Bool) (fig : List ℕ) (rest : List (List ℕ)) (room : ℕ) → leb (length fig) room ≡ false
    → left_waiting ok room (fig ∷ rest) ≡ fig ∷ left_waiting ok room rest
left_over ok fig rest room over =
    cond-false (leb (length fig) room) (left_waiting ok (room_after ok room fig) rest) (fig ∷ left_waiting ok room rest)
    over

-- ---- a FIG whose turn comes
turns_here : (ok : List ℕ → Bool) (fig : List ℕ) (rest : List (List ℕ)) (room : ℕ) → leb (length fig) room ≡ true
    → turns_in ok room (fig ∷ rest) ≡ fig ∷ turns_in ok (room_after ok room fig) rest
turns_here ok fig rest room fits =
    cond-true (leb (length fig) room) (fig ∷ turns_in ok (room_after ok room fig) rest) (turns_in ok room rest) fits

left_here : (ok : List ℕ → Bool) (fig : List ℕ) (rest : List (List ℕ)) (room : ℕ) → leb (length fig) room ≡ true
    → left_waiting ok room (fig ∷ rest) ≡ left_waiting ok (room_after ok room fig) rest
left_here ok fig rest room fits =
    cond-true (leb (length fig) room) (left_waiting ok (room_after ok room fig) rest) (fig ∷ left_waiting ok room rest)
    fits

room_carried : (ok : List ℕ → Bool) (fig : List ℕ) (room : ℕ) → ok fig ≡ true
    → room_after ok room fig ≡ room - length fig
room_carried ok fig room is = cond-true (ok fig) (room - length fig) room is

room_stale : (ok : List ℕ → Bool) (fig : List ℕ) (room : ℕ) → ok fig ≡ false → room_after ok room fig ≡ room
room_stale ok fig room is = cond-false (ok fig) (room - length fig) room is

-- one that agrees
carried_here : (ok : List ℕ → Bool) (fig : List ℕ) (rest : List (List ℕ)) (room : ℕ) → leb (length fig) room ≡ true
    → ok fig ≡ true
    → carried_in ok room (fig ∷ rest) ≡ fig ∷ carried_in ok (room - length fig) rest
carried_here ok fig rest room fits is =
    ap (carried_of ok) (turns_here ok fig rest room fits)
    ∙ cond-true (ok fig) (fig ∷ carried_of ok (turns_in ok (room_after ok room fig) rest))
    (carried_of ok (turns_in ok (room_after ok room fig) rest)) is
    ∙ ap (λ n. fig ∷ carried_in ok n rest) (room_carried ok fig room is)

none_stale : (ok : List ℕ → Bool) (fig : List ℕ) (rest : List (List ℕ)) (room : ℕ) → leb (length fig) room ≡ true
    → ok fig ≡ true
    → stale_in ok room (fig ∷ rest) ≡ stale_in ok (room - length fig) rest
none_stale ok fig rest room fits is =
    ap (stale_of ok) (turns_here ok fig rest room fits)
    ∙ cond-true (ok fig) (stale_of ok (turns_in ok (room_after ok room fig) rest))
    (fig ∷ stale_of ok (turns_in ok (room_after ok room fig) rest)) is
    ∙ ap (λ n. stale_in ok n rest) (room_carried ok fig room is)

-- one that does not
none_carried : (ok : List ℕ → Bool) (fig : List ℕ) (rest : List (List ℕ)) (room : ℕ) → leb (length fig) room ≡ true
    → ok fig ≡ false
    → carried_in ok room (fig ∷ rest) ≡ carried_in ok room rest
none_carried ok fig rest room fits is =
    ap (carried_of ok) (turns_here ok fig rest room fits)
    ∙ cond-false (ok fig) (fig ∷ carried_of ok (turns_in ok (room_after ok room fig) rest))
    (carried_of ok (turns_in ok (room_after ok room fig) rest)) is
    ∙ ap (λ n. carried_in ok n rest) (room_stale ok fig room is)

stale_here : (ok : List ℕ → Bool) (fig : List ℕ) (rest : List (List ℕ)) (room : ℕ) → leb (length fig) room ≡ true
    → ok fig ≡ false
    → stale_in ok room (fig ∷ rest) ≡ fig ∷ stale_in ok room rest
stale_here ok fig rest room fits is =
    ap (stale_of ok) (turns_here ok fig rest room fits)
    ∙ cond-false (ok fig) (stale_of ok (turns_in ok (room_after ok room fig) rest))
    (fig ∷ stale_of ok (turns_in ok (room_after ok room fig) rest)) is
    ∙ ap (λ n. fig ∷ stale_in ok n rest) (room_stale ok fig room is)

-- ---- the pass so far: what is done and what is still to be done together are all
pub record IsPassed (ok : List ℕ → Bool) (bytes0 : List ℕ) (waiting : List (List ℕ)) (room0 : ℕ) (bytes : List ℕ)
    (front rest : List (List ℕ)) (room count stale : ℕ) : Type 0 where
  pub carried : bytes ++ concat (carried_in ok room rest) ≡ bytes0 ++ concat (carried_in ok room0 waiting)
  pub left : front ++ left_waiting ok room rest ≡ left_waiting ok room0 waiting
  pub counted : count + length (carried_in ok room rest) ≡ length (carried_in ok room0 waiting)
  pub gone : stale + length (stale_in ok room rest) ≡ length (stale_in ok room0 waiting)

module _ (ok : List ℕ → Bool) (bytes0 bytes fig : List ℕ) (waiting front rest : List (List ℕ))
    (room0 room count stale : ℕ) where
  passed_over : leb (length fig) room ≡ false
      → IsPassed ok bytes0 waiting room0 bytes front (fig ∷ rest) room count stale
      → IsPassed ok bytes0 waiting room0 bytes (front ++ fig ∷ []) rest room count stale
  passed_over over h = record {
    carried = rw (← turns_over ok fig rest room over) h.carried;
    left = append_assoc front (fig ∷ []) (left_waiting ok room rest)
        ∙ ap (λ xs. front ++ xs) (sym (left_over ok fig rest room over)) ∙ h.left;
    counted = rw (← turns_over ok fig rest room over) h.counted;
    gone = rw (← turns_over ok fig rest room over) h.gone;
  }

  passed_in : leb (length fig) room ≡ true → ok fig ≡ true
      → IsPassed ok bytes0 waiting room0 bytes front (fig ∷ rest) room count stale
      → IsPassed ok bytes0 waiting room0 (bytes ++ fig) front rest (room - length fig) (count + 1) stale
  passed_in fits is h =
      let more = carried_in ok (room - length fig) rest in
      record {
        carried = append_assoc bytes fig (concat more)
            ∙ ap (λ xs. bytes ++ concat xs) (sym (carried_here ok fig rest room fits is)) ∙ h.carried;
        left = ap (λ n. front ++ left_waiting ok n rest) (sym (room_carried ok fig room is))
            ∙ ap (λ xs. front ++ xs) (sym (left_here ok fig rest room fits)) ∙ h.left;
        counted = omega (arith, ap length (carried_here ok fig rest room fits is));
        gone = rw (← none_stale ok fig rest room fits is) h.gone;
      }

  passed_by : leb (length fig) room ≡ true → ok fig ≡ false
      → IsPassed ok bytes0 waiting room0 bytes front (fig ∷ rest) room count stale
      → IsPassed ok bytes0 waiting room0 bytes front rest room count (stale + 1)
  passed_by fits is h =
      record {
        carried = rw (← none_carried ok fig rest room fits is) h.carried;
        left = ap (λ n. front ++ left_waiting ok n rest) (sym (room_stale ok fig room is))
            ∙ ap (λ xs. front ++ xs) (sym (left_here ok fig rest room fits)) ∙ h.left;
        counted = rw (← none_carried ok fig rest room fits is) h.counted;
        gone = omega (arith, ap length (stale_here ok fig rest room fits is));
      }

-- ---- the end of a FIB
take_zeros : (n m : ℕ) → n ≤ m → take {A = ℕ} n (replicate m 0) ≡ replicate n 0
take_zeros zero m le = refl
take_zeros (suc n) zero le = absurd (omega (arith, le))
take_zeros (suc n) (suc m) le = rw (take_zeros n m (omega (arith, le))) refl

padding_fills : (front : List ℕ) → length front ≤ 30 → front
    ++ take (30 - length front) (255 ∷ replicate 29 0) ≡ filled front
padding_fills front le =
    let marker : List ℕ = 255 ∷ replicate (29 - length front) 0 in
    elim (cases_lt (length front) 30) [
      | inl lt ↦ let more : 30 - length front ≡ suc (29 - length front) = omega (arith, lt) in
          ap (λ n. front ++ take n (255 ∷ replicate 29 0)) more
          ∙ ap (λ xs. front ++ xs) (rw (take_zeros (29 - length front) 29 (omega arith)) refl)
          ∙ sym (cond-true (ltb (length front) 30) (front ++ marker) front (lt-ltb _ _ lt))
      | inr ge ↦ let none : 30 - length front ≡ 0 = omega (arith, ge) in
          ap (λ n. front ++ take n (255 ∷ replicate 29 0)) none ∙ append-nil front
          ∙ sym (cond-false (ltb (length front) 30) (front ++ marker) front (le-ltb _ _ ge))
    ]

pub padded : (bytes padding new : List ℕ) (used : ℕ) → length bytes ≡ 32 → used ≤ 30 → padding ≡ 255 ∷ replicate 29 0
    → new ≡ take used bytes ++ (take (30 - used) padding ++ drop (used + length (take (30 - used) padding)) bytes)
    → take 30 new ≡ filled (take used bytes)
padded bytes padding new used whole within is written =
    let front = take used bytes in
    let end = take (30 - used) padding in
    let rest = drop (used + length end) bytes in
    let size : length front ≡ used = length-take-le used bytes (omega (arith, whole, within)) in
    let long : length padding ≡ 30 = ap length is ∙ ap suc (length-replicate {A = ℕ} 29 0) in
    let few : length end ≡ 30 - used = length-take-le (30 - used) padding (omega (arith, long)) in
    let all : length (front ++ end) ≡ 30 = omega (arith, length-append front end, size, few, within) in
    let fills : front ++ take (30 - used) (255 ∷ replicate 29 0) ≡ filled front =
    cc (size, padding_fills front (omega (arith, size, within))) in
    rw (written ∙ sym (append_assoc front end rest)) (take_at (front ++ end) rest 30 all
    ∙ ap (λ xs. front ++ take (30 - used) xs) is ∙ fills)

-- ---- a step of the pass
cut_at : (figs : List (List ℕ)) (at : ℕ) (fig : List ℕ) → at < length figs → fig ≡ get_or figs at fig
    → drop at figs ≡ fig ∷ drop (at + 1) figs
cut_at figs at fig lt is =
    let next : suc at ≡ at + 1 = omega arith in
    drop-cons figs at fig lt ∙ ap₂ (λ x n. x ∷ drop n figs) (sym is) next

taken_at : (figs : List (List ℕ)) (at : ℕ) (fig : List ℕ) → at < length figs → fig ≡ get_or figs at fig
    → take (at + 1) figs ≡ take at figs ++ fig ∷ []
taken_at figs at fig lt is = rw (is) (take_more figs at fig lt)

pub step_over : (ok : List ℕ → Bool) (bytes0 bytes fig : List ℕ) (waiting figs : List (List ℕ))
    (room0 room at count stale : ℕ) → at < length figs → fig ≡ get_or figs at fig
    → room < length fig → IsPassed ok bytes0 waiting room0 bytes (take at figs) (drop at figs) room count stale
    → IsPassed ok bytes0 waiting room0 bytes (take (at + 1) figs) (drop (at + 1) figs) room count stale
step_over ok bytes0 bytes fig waiting figs room0 room at count stale lt is long h =
    rw (taken_at figs at fig lt is) (passed_over ok bytes0 bytes fig waiting (take at figs) (drop (at + 1) figs) room0
    room count stale (lt-leb (length fig) room long) (rw (← cut_at figs at fig lt is) h))

-- a FIG is removed
module _ (ok : List ℕ → Bool) (bytes0 bytes fig : List ℕ) (waiting figs new : List (List ℕ))
    (room0 room at count stale : ℕ) (lt : at < length figs) (is : fig ≡ get_or figs at fig)
    (short : length fig ≤ room) (removed : new ≡ take at figs ++ drop (suc at) figs)
    (h : IsPassed ok bytes0 waiting room0 bytes (take at figs) (drop at figs) room count stale) where
  front : take at new ≡ take at figs
  front = cc (removed, take_at (take at figs) (drop (suc at) figs) at (length-take-le at figs (omega (arith, lt))))

  back : drop at new ≡ drop (at + 1) figs
  back =
      let next : suc at ≡ at + 1 = omega arith in
      cc (removed, drop_at (take at figs) (drop (suc at) figs) at (length-take-le at figs (omega (arith, lt))), next)

  here : IsPassed ok bytes0 waiting room0 bytes (take at figs) (fig ∷ drop (at + 1) figs) room count stale
  here = rw (← cut_at figs at fig lt is) h

  pub step_in : ok fig ≡ true → IsPassed ok bytes0 waiting room0 (bytes ++ fig) (take at new) (drop at new)
      (room - length fig) (count + 1) stale
  step_in agrees =
      subst₂ (λ (xs ys : List (List ℕ)). IsPassed ok bytes0 waiting room0 (bytes ++ fig) xs ys (room - length fig)
      (count + 1) stale) (sym front) (sym back)
      (passed_in ok bytes0 bytes fig waiting (take at figs) (drop (at + 1) figs) room0 room count stale
      (le-leb (length fig) room short) agrees here)

  pub step_by : ok fig ≡ false → IsPassed ok bytes0 waiting room0 bytes (take at new) (drop at new) room count
      (stale + 1)
  step_by agrees =
      subst₂ (λ (xs ys : List (List ℕ)). IsPassed ok bytes0 waiting room0 bytes xs ys room count (stale + 1))
      (sym front) (sym back)
      (passed_by ok bytes0 bytes fig waiting (take at figs) (drop (at + 1) figs) room0 room count stale
      (le-leb (length fig) room short) agrees here)

pub written_behind : (fib new fig : List ℕ) (used : ℕ) → used + length fig ≤ length fib
    → new ≡ take used fib ++ (fig ++ drop (used + length fig) fib) → take (used + length fig) new ≡ take used fib ++ fig
written_behind fib new fig used within is =
    let all : length (take used fib ++ fig) ≡ used + length fig =
    omega (arith, length-append (take used fib) fig, length-take-le used fib (omega (arith, within))) in
    rw (is ∙ sym (append_assoc (take used fib) fig (drop (used + length fig) fib)))
    (take_at (take used fib ++ fig) (drop (used + length fig) fib) (used + length fig) all)

pub written_length : (fib new fig : List ℕ) (used : ℕ) → used + length fig ≤ length fib
    → new ≡ take used fib ++ (fig ++ drop (used + length fig) fib) → length new ≡ length fib
written_length fib new fig used within is =
    let rest = drop (used + length fig) fib in
    let size : length (take used fib) ≡ used = length-take-le used fib (omega (arith, within)) in
    let whole : length new ≡ length (take used fib ++ (fig ++ rest)) = ap length is in
    omega (
      arith,
      whole,
      length-append (take used fib) (fig ++ rest),
      length-append fig rest,
      length-drop (used + length fig) fib,
      size,
    )

pub same_at : (figs : List (List ℕ)) (at : ℕ) (d e : List ℕ) → at < length figs → get_or figs at d ≡ get_or figs at e
same_at [] at d e lt = absurd (omega (arith, lt))
same_at (fig ∷ figs) zero d e lt = refl
same_at (fig ∷ figs) (suc at) d e lt = same_at figs at d e (omega (arith, lt))
