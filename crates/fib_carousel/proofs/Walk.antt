-- Walking the list entry by entry.
use Rattle.fib_carousel.proofs.Words.{[], ◌*◌, ◌++◌, ◌+◌, ◌-◌, ◌<◌, ◌∙◌, ◌∷◌, ◌≡◌, ◌≤◌, ◌⊎◌, EntryShape, FrameLayout}
use Rattle.fib_carousel.proofs.Words.{HasPassed, IsAtFib, IsShapeAt, List, Marked, PackState, Position, Some, ap}
use Rattle.fib_carousel.proofs.Words.{append-nil, append_assoc, arith, drop, drop_all, entries_in_fib, fib_entries}
use Rattle.fib_carousel.proofs.Words.{get_or, get_or-drop, get_or_from_slice_get, head_of, inl, inr, cut, last_number}
use Rattle.fib_carousel.proofs.Words.{length, length-drop, numbers_from, packing, placed, refl, rounds, size_of}
use Rattle.fib_carousel.proofs.Words.{slice_get, slice_get_within, start, subst, sym, take, take_more, ℕ}
use Rattle.fib_carousel.proofs.Steps.{in_fib_same, in_fib_other, in_fib_past}
use Rattle.fib_carousel.proofs.Least.{placed_cases, placed_above, numbers_rise}
use Rattle.fib_carousel.proofs.Pieces.{last_rises}
use Rattle.fib_carousel.proofs.Widths.{few_pages}

-- a piece of the list, and the entry after it
pub take_here : {A : Type 0} (xs : List A) (from at : ℕ) (x : A) → from ≤ at → slice_get xs at ≡ Some x
    → take (at + 1 - from) (drop from xs) ≡ take (at - from) (drop from xs) ++ x ∷ []
take_here xs from at x le h =
    let within : at < length xs = slice_get_within xs at x h in
    let inside : at - from < length (drop from xs) = rw (length-drop from xs) (omega (arith, le, within)) in
    let whole : from + (at - from) ≡ at = omega (arith, le) in
    let there = get_or-drop from xs (at - from) x ∙ ap (λ i. get_or xs i x) whole ∙ get_or_from_slice_get xs at x x h in
    ap (λ n. take n (drop from xs)) (omega (arith, le)) ∙ take_more (drop from xs) (at - from) x inside
    ∙ ap (λ y. take (at - from) (drop from xs) ++ y ∷ []) there

-- what a step of the walk establishes: the entry passed, and where it was placed
abbrev pub IsThen : (layout : FrameLayout) → EntryShape → PackState → PackState → Type 0
IsThen layout shape p q = (m : Marked) → shape.head ≡ head_of m → shape.size ≡ size_of m → q ≡ placed layout m p

pub record Passed (layout : FrameLayout) (ms : List Marked) (at : ℕ) (p q : PackState) : Type 0 where
  pub entry : Marked
  pub here : slice_get ms at ≡ Some entry
  pub row : drop at ms ≡ entry ∷ drop (at + 1) ms
  pub next : q ≡ placed layout entry p

pub passed : (layout : FrameLayout) (ms : List Marked) (at : ℕ) (shape : EntryShape) (p q : PackState)
    → IsShapeAt ms at shape → IsThen layout shape p q → Passed layout ms at p q
passed layout ms at shape p q s t = record {
  entry = s.entry;
  here = s.here;
  row = cut ms at s.entry s.here;
  next = t s.entry s.head s.size;
}

pub passed_entry : (layout : FrameLayout) (ms : List Marked) (at : ℕ) (shape : EntryShape) (p : PackState)
    (s : IsShapeAt ms at shape) → Passed layout ms at p (placed layout s.entry p)
passed_entry layout ms at shape p s =
    record { entry = s.entry; here = s.here; row = cut ms at s.entry s.here; next = refl }

pub passed_above : (layout : FrameLayout) (ms : List Marked) (at : ℕ) (p q : PackState) → Passed layout ms at p q
    → p.fib ≤ q.fib
passed_above layout ms at p q s = subst (λ (r : PackState). p.fib ≤ r.fib) (sym s.next) (placed_above layout s.entry p)

-- the last number is that of the remaining entries
pub last_step : (layout : FrameLayout) (ms : List Marked) (at : ℕ) (p q : PackState) (top : ℕ) → Passed layout ms at p q
    → last_number p.fib (numbers_from layout p (drop at ms)) ≡ top
    → last_number q.fib (numbers_from layout q (drop (at + 1) ms)) ≡ top
last_step layout ms at p q top s h =
    let along = subst (λ xs. last_number p.fib (numbers_from layout p xs) ≡ top) s.row h in
    subst (λ (r : PackState). last_number r.fib (numbers_from layout r (drop (at + 1) ms)) ≡ top) (sym s.next) along

-- the entries that the rest of the list has in FIB n
abbrev pub rest_in : (layout : FrameLayout) → ℕ → List Marked → ℕ → PackState → List Marked
rest_in layout n ms at p = entries_in_fib n (drop at ms) (numbers_from layout p (drop at ms))

rest_step : (layout : FrameLayout) (n : ℕ) (ms : List Marked) (at : ℕ) (p q : PackState) (s : Passed layout ms at p q)
    → rest_in layout n ms at p ≡ entries_in_fib n (s.entry ∷ drop (at + 1) ms)
    (q.fib ∷ numbers_from layout q (drop (at + 1) ms))
rest_step layout n ms at p q s =
    ap (λ xs. entries_in_fib n xs (numbers_from layout p xs)) s.row
    ∙ ap (λ (r : PackState). entries_in_fib n (s.entry ∷ drop (at + 1) ms)
    (r.fib ∷ numbers_from layout r (drop (at + 1) ms))) (sym s.next)

pub rest_takes : (layout : FrameLayout) (n : ℕ) (ms : List Marked) (at : ℕ) (p q : PackState)
    (s : Passed layout ms at p q) → q.fib ≡ n → rest_in layout n ms at p ≡ s.entry ∷ rest_in layout n ms (at + 1) q
rest_takes layout n ms at p q s h = rest_step _ n ms at p q s ∙ in_fib_same n q.fib _ _ _ h

pub rest_passes : (layout : FrameLayout) (n : ℕ) (ms : List Marked) (at : ℕ) (p q : PackState) → Passed layout ms at p q
    → (q.fib ≡ n → ⊥) → rest_in layout n ms at p ≡ rest_in layout n ms (at + 1) q
rest_passes layout n ms at p q s h = rest_step _ n ms at p q s ∙ in_fib_other n q.fib _ _ _ h

pub rest_over : (layout : FrameLayout) (n : ℕ) (ms : List Marked) (at : ℕ) (p q : PackState) → Passed layout ms at p q
    → n < q.fib → rest_in layout n ms at p ≡ []
rest_over layout n ms at p q s h =
    rest_passes layout n ms at p q s (λ e. omega (arith, h, e))
    ∙ in_fib_past n q.fib (drop (at + 1) ms) (numbers_from layout q (drop (at + 1) ms)) h
    (numbers_rise layout q (drop (at + 1) ms) q.fib (omega arith))

pub rest_end : (layout : FrameLayout) (n : ℕ) (ms : List Marked) (at : ℕ) (p : PackState) → length ms ≤ at
    → rest_in layout n ms at p ≡ []
rest_end layout n ms at p h = ap (λ xs. entries_in_fib n xs (numbers_from layout p xs)) (drop_all at ms h)

-- a position before FIB n is before every later FIB
pub stands_on : (layout : FrameLayout) (ms : List Marked) (n m : ℕ) (c : Position) → n ≤ m → IsAtFib layout ms n c
    → IsAtFib layout ms m c
stands_on layout ms n m c h s = record {
  index = s.index;
  used = s.used;
  fib = s.fib;
  below = omega (arith, h, s.below);
  rest = λ i le. s.rest i (omega (arith, h, le));
  last = s.last;
}

-- the piece of the list passed so far and the rest together make up FIB n
pub record Walked (layout : FrameLayout) (ms : List Marked) (n from : ℕ) (c : Position) : Type 0 where
  pub later : IsAtFib layout ms (n + 1) c
  pub order : from ≤ c.index
  pub low : c.state.fib ≤ n
  pub kind : (from ≡ c.index) ⊎ (c.state.fib ≡ n)
  pub here : take (c.index - from) (drop from ms) ++ rest_in layout n ms c.index c.state ≡ fib_entries layout n ms

pub walked_start : (layout : FrameLayout) (ms : List Marked) (n : ℕ) (c : Position) → IsAtFib layout ms n c
    → Walked layout ms n c.index c
walked_start layout ms n c s =
    let none : c.index - c.index ≡ 0 = omega arith in
    record {
      later = stands_on layout ms n (n + 1) c (omega arith) s;
      order = omega arith;
      low = s.below;
      kind = inl refl;
      here = ap (λ i. take i (drop c.index ms) ++ rest_in layout n ms c.index c.state) none ∙ s.rest n (omega arith);
    }

later_step : (layout : FrameLayout) (ms : List Marked) (n : ℕ) (c d : Position)
    → Passed layout ms c.index c.state d.state → d.index ≡ c.index + 1 → d.state.fib ≤ n → d.state.used ≤ 30
    → d.state.fib ≤ c.state.fib + 2 → c.index < length ms → IsAtFib layout ms (n + 1) c → IsAtFib layout ms (n + 1) d
later_step layout ms n c d s at below used near inside l = record {
  index = omega (arith, at, inside);
  used = used;
  fib = omega (arith, near, at, l.fib);
  below = omega (arith, below);
  rest = λ m le. ap (λ i. rest_in layout m ms i d.state) at ∙ sym
      (rest_passes _ m ms _ _ _ s (λ e. omega (arith, e, le, below))) ∙ l.rest m le;
  last =
      ap (λ i. last_number d.state.fib (numbers_from layout d.state (drop i ms))) at
      ∙ last_step layout ms c.index c.state d.state (last_number 0 (packing layout ms)) s l.last;
}

-- a step into FIB n
pub walked_in : (layout : FrameLayout) (ms : List Marked) (n from : ℕ) (c d : Position)
    → Passed layout ms c.index c.state d.state → d.index ≡ c.index + 1 → d.state.fib ≡ n → d.state.used ≤ 30
    → d.state.fib ≤ c.state.fib + 2 → c.index < length ms → Walked layout ms n from c → Walked layout ms n from d
walked_in layout ms n from c d s at here used near inside w =
    let piece = take_here ms from c.index s.entry w.order s.here in
    record {
      later = later_step layout ms n c d s at (omega (arith, here)) used near inside w.later;
      order = omega (arith, at, w.order);
      low = omega (arith, here);
      kind = inr here;
      here =
          ap (λ i. take (i - from) (drop from ms) ++ rest_in layout n ms i d.state) at
          ∙ ap (λ xs. xs ++ rest_in layout n ms (c.index + 1) d.state) piece
          ∙ append_assoc (take (c.index - from) (drop from ms)) (s.entry ∷ [])
          (rest_in layout n ms (c.index + 1) d.state)
          ∙ ap (λ xs. take (c.index - from) (drop from ms) ++ xs)
          (sym (rest_takes layout n ms c.index c.state d.state s here))
          ∙ w.here;
    }

-- a step into an earlier FIB
pub walked_before : (layout : FrameLayout) (ms : List Marked) (n from : ℕ) (c d : Position)
    → Passed layout ms c.index c.state d.state → d.index ≡ c.index + 1 → d.state.fib < n → d.state.used ≤ 30
    → d.state.fib ≤ c.state.fib + 2 → c.index < length ms → Walked layout ms n from c → Walked layout ms n d.index d
walked_before layout ms n from c d s at before used near inside w =
    let above : c.state.fib ≤ d.state.fib = passed_above layout ms c.index c.state d.state s in
    let fresh : c.index - from ≡ 0 =
    elim w.kind [ inl e ↦ omega (arith, e) | inr e ↦ absurd (omega (arith, e, above, before)) ] in
    let none : d.index - d.index ≡ 0 = omega arith in
    let now : rest_in layout n ms c.index c.state ≡ fib_entries layout n ms =
    subst (λ i. take i (drop from ms) ++ rest_in layout n ms c.index c.state ≡ fib_entries layout n ms) fresh
    w.here in
    record {
      later = later_step layout ms n c d s at (omega (arith, before)) used near inside w.later;
      order = omega arith;
      low = omega (arith, before);
      kind = inl refl;
      here =
          ap (λ i. take i (drop d.index ms) ++ rest_in layout n ms d.index d.state) none
          ∙ ap (λ i. rest_in layout n ms i d.state) at
          ∙ sym (rest_passes layout n ms c.index c.state d.state s (λ e. omega (arith, e, before)))
          ∙ now;
    }

-- the walk ends if the next entry is in a later FIB, or none is left
pub nothing_behind : {A : Type 0} (xs ys zs : List A) → ys ≡ [] → xs ++ ys ≡ zs → xs ≡ zs
nothing_behind xs ys zs e f = sym (append-nil xs) ∙ ap (λ y. xs ++ y) (sym e) ∙ f

pub walked_over : (layout : FrameLayout) (ms : List Marked) (n from : ℕ) (c : Position) (q : PackState)
    → Passed layout ms c.index c.state q → n < q.fib → Walked layout ms n from c
    → take (c.index - from) (drop from ms) ≡ fib_entries layout n ms
walked_over layout ms n from c q s h w = nothing_behind _ _ _ (rest_over _ n ms _ _ q s h) w.here

pub walked_end : (layout : FrameLayout) (ms : List Marked) (n from : ℕ) (c : Position) → length ms ≤ c.index
    → Walked layout ms n from c → take (c.index - from) (drop from ms) ≡ fib_entries layout n ms
walked_end layout ms n from c h w = nothing_behind _ _ _ (rest_end _ n ms _ _ h) w.here

-- so the position has passed FIB n
pub passed_by : (layout : FrameLayout) (ms : List Marked) (n from : ℕ) (c : Position) (q : PackState)
    → Passed layout ms c.index c.state q → n < q.fib → Walked layout ms n from c → HasPassed layout ms n c
passed_by layout ms n from c q s h w =
    let top : ℕ = last_number 0 (packing layout ms) in
    let left : last_number q.fib (numbers_from layout q (drop (c.index + 1) ms)) ≡ top =
    last_step layout ms c.index c.state q top s w.later.last in
    let above : q.fib ≤ last_number q.fib (numbers_from layout q (drop (c.index + 1) ms)) =
    last_rises q.fib (numbers_from layout q (drop (c.index + 1) ms))
    (numbers_rise layout q (drop (c.index + 1) ms) q.fib (omega arith)) in
    record { fib = w.low; left = inr (omega (arith, h, above, left)) }

-- an entry advances by at most two FIBs, so there is at most one page more than entries
last_bound : (layout : FrameLayout) (p : PackState) (ms : List Marked)
    → last_number p.fib (numbers_from layout p ms) ≤ p.fib + 2 * length ms
last_bound layout p [] = omega arith
last_bound layout p (m ∷ ms) =
    let near : (placed layout m p).fib ≤ p.fib + 2 =
    elim (placed_cases layout m p) [ inl c ↦ rw c.is (omega arith) | inr c ↦ rw c.is (omega (arith, c.near)) ] in
    omega (arith, last_bound layout (placed layout m p) ms, near)

pub rounds_bound : (layout : FrameLayout) (ms : List Marked) → rounds layout ms ≤ length ms + 1
rounds_bound layout ms =
    let last : last_number 0 (packing layout ms) ≤ 0 + 2 * length ms = last_bound layout start ms in
    omega (arith, last, few_pages layout (last_number 0 (packing layout ms)) (length ms) last)
