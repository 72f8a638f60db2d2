-- Examples of runs: for each definition one that satisfies it, and one that does not.
use Rattle.fib_carousel.proofs.Words.{[], ◌*◌, ◌+◌, ◌<◌, ◌∙◌, ◌∷◌, ◌≡◌, ◌≤◌, EntryShape, I, IsPlacedAfter, IsRun}
use Rattle.fib_carousel.proofs.Words.{IsThenWithin, List, Marked, PackState, PutsRun, TakesRuns, Whole, ap, arith}
use Rattle.fib_carousel.proofs.Words.{false, head_of, marked, placed, refl, replicate, shape_of, size_of, start}
use Rattle.fib_carousel.proofs.Words.{state_at, step, sub_shape, subst, sym, true, ℕ}
use Rattle.mux_types.specs.declared.entry.Entry.TheVariants.{Sub as SubOf}
use Rattle.fib_carousel.proofs.Runs.{placed_step}
use Rattle.fib_carousel.proofs.Together.{same_shape}

-- the entry of a sub-channel with C/N 0, and with C/N 1
abbrev now : Marked
now = marked false (SubOf (record { id = 1; start = 0; option = 0; level = 2; size = 96 }))

abbrev next : Marked
next = marked true (SubOf (record { id = 1; start = 0; option = 0; level = 2; size = 96 }))

abbrev shape : EntryShape
shape = sub_shape false

two_are_a_run : IsRun (now ∷ now ∷ next ∷ []) 0 2 shape
two_are_a_run = record { inside = omega arith; alike = (refl, (refl, tt)) }

the_next_is_none_of_it : IsRun (now ∷ now ∷ next ∷ []) 0 3 shape → ⊥
the_next_is_none_of_it r =
    let other : true ≡ false = ap (λ (s : EntryShape). s.head.next) r.alike.1.1.0 in
    absurd (cc other)

one_is_put : PutsRun (now ∷ []) 0 shape 4 1 [] (4 ∷ 0 ∷ 136 ∷ 96 ∷ [])
one_is_put = record {
  some = omega arith;
  run = record { inside = omega arith; alike = (refl, tt) };
  fits = omega arith;
  bytes = refl;
}

three_bytes_are_too_few : (new : List ℕ) → PutsRun (now ∷ []) 0 shape 3 1 [] new → ⊥
three_bytes_are_too_few new p =
    let fits : 1 * 4 ≤ 3 = p.fits in
    absurd (omega (arith, fits))

an_empty_fib_takes_it : TakesRuns (now ∷ []) 0 4 []
an_empty_fib_takes_it = λ n s r fits. omega (arith, fits)

a_full_one_does_not : TakesRuns (now ∷ []) 0 4 (replicate 28 0) → ⊥
a_full_one_does_not takes =
    let run : IsRun (now ∷ []) 0 1 shape = record { inside = omega arith; alike = (refl, tt) } in
    let fits : 28 + 1 * 4 ≤ 30 = takes 1 shape run (omega arith) in
    absurd (omega (arith, fits))

-- an entry of this shape is placed as its shape alone would be
by_shape : (p : PackState) (m : Marked) → shape.head ≡ head_of m → shape.size ≡ size_of m
    → placed (Whole I) m p ≡ step (Whole I) shape p
by_shape p m head size = placed_step (Whole I) m p ∙ ap (λ (t : EntryShape). step (Whole I) t p)
    (sym (same_shape shape (shape_of m) head size))

the_first_is_within : IsThenWithin (Whole I) shape 0 start (state_at shape 0 6)
the_first_is_within = record {
  is = λ m head size. sym (by_shape start m head size);
  used = omega arith;
  low = omega arith;
  near = omega arith;
}

fib_1_is_not : IsThenWithin (Whole I) shape 0 start (state_at shape 1 6) → ⊥
fib_1_is_not w =
    let low : 1 ≤ 0 = w.low in
    absurd (omega (arith, low))

behind_twenty : IsPlacedAfter (Whole I) shape 0 (state_at shape 0 20)
behind_twenty = λ m head size. subst (λ (q : PackState). 0 < q.fib) (sym (by_shape (state_at shape 0 20) m head size))
    (omega arith)

the_first_is_not_behind : IsPlacedAfter (Whole I) shape 0 start → ⊥
the_first_is_not_behind behind =
    let past : 0 < 0 = behind now refl refl in
    absurd (omega (arith, past))
