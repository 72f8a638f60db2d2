-- A page set that begins with another one takes no fewer pages.
use Rattle.script_config.proofs.Words.{[], ◌++◌, ◌/◌, ◌<◌, ◌∷◌, ◌≡◌, ◌≤◌, Configuration, FrameLayout, I, II, III, IV}
use Rattle.script_config.proofs.Words.{List, Marked, None, ReserveOne, ReserveTwo, Some, Whole, ap, arith}
use Rattle.script_config.proofs.Words.{div-mul-le_self, extended, facts_of, false, inl, inr, last_number, numbers_from}
use Rattle.script_config.proofs.Words.{opened, packing, page_set, placed, rounds, start, true, used_fibs, ℕ}
use Rattle.std.proofs.lemmas.Nat.{le-div}
use Rattle.fib_carousel.specs.declared.pack_state.PackState.{PackState}
use Rattle.fib_carousel.proofs.Least.{placed_cases}

-- an entry goes into the FIB of the one before or a later one
later : (layout : FrameLayout) (e : Marked) (p : PackState) → p.fib ≤ (placed layout e p).fib
later layout e p = elim (placed_cases layout e p) [
  | inl stays ↦
      let same : (placed layout e p).fib ≡ (extended e p).fib = ap (λ (q : PackState). q.fib) stays.is in
      omega (arith, same)
  | inr leaves ↦
      let same : (placed layout e p).fib ≡ (opened e leaves.to).fib = ap (λ (q : PackState). q.fib) leaves.is in
      let above = leaves.above in
      omega (arith, same, above)
]

last_from : (layout : FrameLayout) (p : PackState) (es : List Marked)
    → p.fib ≤ last_number p.fib (numbers_from layout p es)
last_from layout p [] = omega arith
last_from layout p (e ∷ es) =
    let first = later layout e p in
    let rest = last_from layout (placed layout e p) es in
    omega (arith, first, rest)

last_more : (layout : FrameLayout) (p : PackState) (es others : List Marked)
    → last_number p.fib (numbers_from layout p es) ≤ last_number p.fib (numbers_from layout p (es ++ others))
last_more layout p [] others = last_from layout p others
last_more layout p (e ∷ es) others = last_more layout (placed layout e p) es others

divided : (a b d : ℕ) → 0 < d → a ≤ b → a / d ≤ b / d
divided a b d some le =
    let low = div-mul-le_self a d in
    le-div (a / d) b d some (omega (arith, low, le))

-- a frame has FIBs that are not reserved
some_used : (layout : FrameLayout) → 0 < used_fibs layout
some_used (Whole I) = omega arith
some_used (Whole II) = omega arith
some_used (Whole III) = omega arith
some_used (Whole IV) = omega arith
some_used (ReserveOne I) = omega arith
some_used (ReserveOne II) = omega arith
some_used (ReserveOne III) = omega arith
some_used (ReserveOne IV) = omega arith
some_used ReserveTwo = omega arith

pub more_rounds : (layout : FrameLayout) (es others : List Marked) → rounds layout es ≤ rounds layout (es ++ others)
more_rounds layout es others =
    let some = some_used layout in
    let last = last_more layout start es others in
    let pages = divided (last_number 0 (packing layout es)) (last_number 0 (packing layout (es ++ others)))
    (used_fibs layout) some last in
    omega (arith, pages)

pub alone_within : (layout : FrameLayout) (a b : Configuration)
    → rounds layout (page_set a None) ≤ rounds layout (page_set a (Some b))
alone_within layout a b = more_rounds layout (facts_of a false) (facts_of b true)
