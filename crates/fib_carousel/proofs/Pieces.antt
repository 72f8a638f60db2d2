-- The list of entries cut into pages, and pages into FIBs: pieces of the list, joined in order.
use Rattle.fib_carousel.proofs.Words.{[], ◌&&◌, ◌++◌, ◌+◌, ◌-◌, ◌/◌, ◌<◌, ◌==◌, ◌∙◌, ◌∷◌, ◌≡◌, ◌≤◌, Bool, Contains}
use Rattle.fib_carousel.proofs.Words.{Contains-append_cases, FrameLayout, List, Marked, NeverFalls, ap, arith, cases_lt}
use Rattle.fib_carousel.proofs.Words.{entries_in_fib, entries_where, eq-eqb, false, fib_entries, fibs_of_page}
use Rattle.fib_carousel.proofs.Words.{first_fib, flat_map, if◌then◌else◌, inl, inr, last_number, le-leb, le-ltb, length}
use Rattle.fib_carousel.proofs.Words.{lt-leb, lt-ltb, nat_le, nat_lt, ne_eqb, packing, page_entries, pages_below}
use Rattle.fib_carousel.proofs.Words.{range_with_len, refl, rounds, start, suc, sym, true, used_fibs, zero, ℕ}
use Rattle.fib_carousel.proofs.Widths.{some_fibs, no_page, next_page, in_its_page, before_its_page, behind_its_page}
use Rattle.fib_carousel.proofs.Widths.{later_page, within_its_page}
use Rattle.fib_carousel.proofs.Least.{numbers_rise, length-numbers_from}

-- nothing passes a test that fails from the first number on
pub none_where : (test : ℕ → Bool) (low : ℕ) → ((m : ℕ) → low ≤ m → test m ≡ false) → (es : List Marked) (ns : List ℕ)
    → NeverFalls low ns → entries_where test es ns ≡ []
none_where test low f [] ns r = refl
none_where test low f (e ∷ es) [] r = refl
none_where test low f (e ∷ es) (n ∷ ns) r =
    rw (f n r.0) (none_where test n (λ m h. f m (omega (arith, h, r.0))) es ns r.1)

-- no number exceeds the last
pub last_rises : (k : ℕ) (ns : List ℕ) → NeverFalls k ns → k ≤ last_number k ns
last_rises k [] r = omega arith
last_rises k (n ∷ ns) r = let more : n ≤ last_number n ns = last_rises n ns r.1 in omega (arith, more, r.0)

-- a test that fails up to the last number keeps nothing, and one that passes up to it keeps all
none_up_to : (test : ℕ → Bool) (top : ℕ) → ((m : ℕ) → m ≤ top → test m ≡ false)
    → (k : ℕ) (es : List Marked) (ns : List ℕ) → NeverFalls k ns → last_number k ns ≤ top
    → entries_where test es ns ≡ []
none_up_to test top f k [] ns r l = refl
none_up_to test top f k (e ∷ es) [] r l = refl
none_up_to test top f k (e ∷ es) (n ∷ ns) r l =
    rw (f n (omega (arith, last_rises n ns r.1, l))) (none_up_to test top f n es ns r.1 l)

all_up_to : (test : ℕ → Bool) (top : ℕ) → ((m : ℕ) → m ≤ top → test m ≡ true) → (k : ℕ) (es : List Marked) (ns : List ℕ)
    → NeverFalls k ns → last_number k ns ≤ top → length ns ≡ length es → entries_where test es ns ≡ es
all_up_to test top f k [] ns r l c = refl
all_up_to test top f k (e ∷ es) [] r l c = absurd (omega (arith, c))
all_up_to test top f k (e ∷ es) (n ∷ ns) r l c =
    let more : n ≤ last_number n ns = last_rises n ns r.1 in
    rw (f n (omega (arith, more, l))) (ap (λ xs. e ∷ xs) (all_up_to test top f n es ns r.1 l (omega (arith, c))))

-- below a number the first test decides, and from it on the second
pub record Splits (first second both : ℕ → Bool) (at : ℕ) : Type 0 where
  pub low : (m : ℕ) → m < at → (second m ≡ false) × (first m ≡ both m)
  pub high : (m : ℕ) → at ≤ m → (first m ≡ false) × (second m ≡ both m)

pub join_where : (first second both : ℕ → Bool) (at : ℕ) → Splits first second both at
    → (k : ℕ) (es : List Marked) (ns : List ℕ) → NeverFalls k ns → entries_where first es ns
    ++ entries_where second es ns ≡ entries_where both es ns
join_where first second both at s k [] ns r = refl
join_where first second both at s k (e ∷ es) [] r = refl
join_where first second both at s k (e ∷ es) (n ∷ ns) r =
    let again = join_where first second both at s n es ns r.1 in
    elim (cases_lt n at) [
      | inl lt ↦ rw ((s.low n lt).0, (s.low n lt).1) (by (both n) again)
      | inr ge ↦
          let none = none_where first n (λ m l. (s.high m (omega (arith, ge, l))).0) es ns r.1 in
          rw ((s.high n ge).0, (s.high n ge).1, none)
          (ap (λ xs. if both n then e ∷ xs else xs)
          (ap (λ ys. ys ++ entries_where second es ns) (sym none) ∙ again))
    ]
  where
    by : (b : Bool) → entries_where first es ns ++ entries_where second es ns ≡ entries_where both es ns
        → (if b then e ∷ entries_where first es ns else entries_where first es ns)
        ++ entries_where second es ns ≡ (if b then e ∷ entries_where both es ns else entries_where both es ns)
    by true again = ap (λ xs. e ∷ xs) again
    by false again = again

packing_rises : (layout : FrameLayout) (es : List Marked) → NeverFalls 0 (packing layout es)
packing_rises layout es = numbers_rise layout start es 0 (omega arith)

-- the pages below k are the entries whose numbers are below that of its first FIB
page_splits : (layout : FrameLayout) (k : ℕ) → Splits (λ m. nat_lt m (first_fib layout k))
    (λ m. m / used_fibs layout == k) (λ m. nat_lt m (first_fib layout (suc k))) (first_fib layout k)
page_splits layout k =
    let next : first_fib layout (suc k) ≡ first_fib layout k + used_fibs layout = next_page layout k in
    record {
      low = λ m h. (
        ne_eqb (m / used_fibs layout) k (before_its_page layout k m h),
        lt-ltb m (first_fib layout k) h ∙ sym (lt-ltb m (first_fib layout (suc k)) (omega (arith, h, next))),
      );
      high = λ m h. (
        le-ltb m (first_fib layout k) h,
        elim (cases_lt m (first_fib layout (suc k))) [
          | inl lt ↦ eq-eqb (m / used_fibs layout) k (in_its_page layout k m h (omega (arith, lt, next)))
              ∙ sym (lt-ltb m (first_fib layout (suc k)) lt)
          | inr ge ↦ ne_eqb (m / used_fibs layout) k (behind_its_page layout k m (omega (arith, ge, next)))
              ∙ sym (le-ltb m (first_fib layout (suc k)) ge)
        ],
      );
    }

below_is_where : (layout : FrameLayout) (k : ℕ) (es : List Marked)
    → pages_below layout k es ≡ entries_where (λ m. nat_lt m (first_fib layout k)) es (packing layout es)
below_is_where layout zero es =
    sym (none_where (λ m. nat_lt m (first_fib layout 0)) 0
    (λ m h. le-ltb m (first_fib layout 0) (omega (arith, h, no_page layout))) es (packing layout es)
    (packing_rises layout es))
below_is_where layout (suc k) es =
    ap (λ xs. xs ++ page_entries layout k es) (below_is_where layout k es)
    ∙ join_where (λ m. nat_lt m (first_fib layout k)) (λ m. m / used_fibs layout == k)
    (λ m. nat_lt m (first_fib layout (suc k))) (first_fib layout k) (page_splits layout k) 0 es (packing layout es)
    (packing_rises layout es)

pub pages_are_all : (layout : FrameLayout) (es : List Marked) → pages_below layout (rounds layout es) es ≡ es
pages_are_all layout es =
    let top : ℕ = last_number 0 (packing layout es) in
    let within : top < first_fib layout (rounds layout es) = within_its_page layout top in
    below_is_where layout (rounds layout es) es
    ∙ all_up_to (λ m. nat_lt m (first_fib layout (rounds layout es))) top
    (λ m h. lt-ltb m (first_fib layout (rounds layout es)) (omega (arith, h, within))) 0 es (packing layout es)
    (packing_rises layout es) (omega arith) (length-numbers_from layout start es)

pub none_beyond : (layout : FrameLayout) (es : List Marked) (k : ℕ) → rounds layout es ≤ k
    → page_entries layout k es ≡ []
none_beyond layout es k h =
    let top : ℕ = last_number 0 (packing layout es) in
    none_up_to (λ m. m / used_fibs layout == k) top (λ m l.
    ne_eqb (m / used_fibs layout) k (λ q. omega (arith, h, q, later_page layout m top l))) 0 es (packing layout es)
    (packing_rises layout es) (omega arith)

in_some_page : (layout : FrameLayout) (k : ℕ) (es : List Marked) (e : Marked) → Contains (pages_below layout k es) e
    → (j : ℕ) × (j < k) × Contains (page_entries layout j es) e
in_some_page layout zero es e h = absurd (omega (arith, h.1))
in_some_page layout (suc k) es e h =
    elim (Contains-append_cases (pages_below layout k es) (page_entries layout k es) e h) [
      | inl below ↦ let found = in_some_page layout k es e below in (found.0, omega (arith, found.1), found.2)
      | inr here ↦ (k, omega arith, here)
    ]

pub each_in_a_page : (layout : FrameLayout) (es : List Marked) (e : Marked) → Contains es e → (k : ℕ)
    × (k < rounds layout es) × Contains (page_entries layout k es) e
each_in_a_page layout es e h = in_some_page layout (rounds layout es) es e (rw (pages_are_all layout es) h)

-- the numbers of some successive FIBs, from n on
abbrev in_span : ℕ → ℕ → ℕ → Bool
in_span n count m = nat_le n m && nat_lt m (n + count)

in_span_by : (n count m : ℕ) (low high : Bool) → nat_le n m ≡ low → nat_lt m (n + count) ≡ high
    → in_span n count m ≡ (low && high)
in_span_by n count m low high f g = rw (f, g) refl

in_span_below : (n count m : ℕ) → m < n → in_span n count m ≡ false
in_span_below n count m h = ap (λ b. b && nat_lt m (n + count)) (lt-leb n m h)

in_span_behind : (n count m : ℕ) → n + count ≤ m → in_span n count m ≡ false
in_span_behind n count m h = in_span_by n count m true false (le-leb n m (omega (arith, h))) (le-ltb m (n + count) h)

in_span_inside : (n count m : ℕ) → n ≤ m → m < n + count → in_span n count m ≡ true
in_span_inside n count m low high = in_span_by n count m true true (le-leb n m low) (lt-ltb m (n + count) high)

span_splits : (n count : ℕ) → Splits (λ m. m == n) (in_span (n + 1) count) (in_span n (suc count)) (n + 1)
span_splits n count = record {
  low = λ m h. (
    in_span_below (n + 1) count m h,
    elim (cases_lt m n) [
      | inl lt ↦ ne_eqb m n (λ q. omega (arith, lt, q)) ∙ sym (in_span_below n (suc count) m lt)
      | inr ge ↦ eq-eqb m n (omega (arith, h, ge)) ∙ sym (in_span_inside n (suc count) m ge (omega (arith, h)))
    ],
  );
  high = λ m h. (
    ne_eqb m n (λ q. omega (arith, h, q)),
    elim (cases_lt m (n + suc count)) [
      | inl lt ↦ in_span_inside (n + 1) count m h (omega (arith, lt))
          ∙ sym (in_span_inside n (suc count) m (omega (arith, h)) lt)
      | inr ge ↦ in_span_behind (n + 1) count m (omega (arith, ge)) ∙ sym (in_span_behind n (suc count) m ge)
    ],
  );
}

-- successive FIBs have the entries with their numbers
span_is : (count n : ℕ) (es : List Marked) (ns : List ℕ) → NeverFalls 0 ns
    → flat_map (λ i. entries_in_fib i es ns) (range_with_len n count) ≡ entries_where (in_span n count) es ns
span_is zero n es ns r =
    sym (none_where (in_span n 0) 0
    (λ m _. elim (cases_lt m n) [
      | inl lt ↦ in_span_below n 0 m lt
      | inr ge ↦
          in_span_behind n 0 m (omega (arith, ge))
    ]) es ns r)
span_is (suc count) n es ns r =
    ap (λ xs. entries_in_fib n es ns ++ xs) (span_is count (n + 1) es ns r)
    ∙ join_where (λ m. m == n) (in_span (n + 1) count) (in_span n (suc count)) (n + 1) (span_splits n count) 0 es ns r

-- equal tests keep the same entries
where_same : (f g : ℕ → Bool) → ((m : ℕ) → f m ≡ g m) → (es : List Marked) (ns : List ℕ)
    → entries_where f es ns ≡ entries_where g es ns
where_same f g h [] ns = refl
where_same f g h (e ∷ es) [] = refl
where_same f g h (e ∷ es) (n ∷ ns) =
    ap (λ b. if b then e ∷ entries_where f es ns else entries_where f es ns) (h n)
    ∙ ap (λ xs. if g n then e ∷ xs else xs) (where_same f g h es ns)

span_of_page : (layout : FrameLayout) (k m : ℕ) → in_span (first_fib layout k) (suc (used_fibs layout - 1)) m
    ≡ (m / used_fibs layout == k)
span_of_page layout k m =
    let first : ℕ = first_fib layout k in
    let count : suc (used_fibs layout - 1) ≡ used_fibs layout = omega (arith, some_fibs layout) in
    elim (cases_lt m first) [
      | inl lt ↦ in_span_below first (suc (used_fibs layout - 1)) m lt
          ∙ sym (ne_eqb (m / used_fibs layout) k (before_its_page layout k m lt))
      | inr ge ↦
          elim (cases_lt m (first + used_fibs layout)) [
            | inl lt ↦ in_span_inside first (suc (used_fibs layout - 1)) m ge (omega (arith, lt, count))
                ∙ sym (eq-eqb (m / used_fibs layout) k (in_its_page layout k m ge lt))
            | inr over ↦ in_span_behind first (suc (used_fibs layout - 1)) m (omega (arith, over, count))
                ∙ sym (ne_eqb (m / used_fibs layout) k (behind_its_page layout k m over))
          ]
    ]

pub page_is_fibs : (layout : FrameLayout) (es : List Marked) (k : ℕ)
    → page_entries layout k es ≡ flat_map (λ n. fib_entries layout n es) (fibs_of_page layout k)
page_is_fibs layout es k =
    sym (
    span_is (suc (used_fibs layout - 1)) (first_fib layout k) es (packing layout es) (packing_rises layout es)
    ∙ where_same (in_span (first_fib layout k) (suc (used_fibs layout - 1))) (λ m. m / used_fibs layout == k)
    (span_of_page layout k) es (packing layout es)
    )
