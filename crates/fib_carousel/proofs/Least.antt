-- The greedy rule: each step stays in its FIB or goes to the next with room, and is never ahead of another division.
use Rattle.fib_carousel.proofs.Words.{[], ◌%◌, ◌+◌, ◌<◌, ◌∙◌, ◌∷◌, ◌≡◌, ◌≤◌, ◌⊎◌, AreSmall, FrameLayout, Head}
use Rattle.fib_carousel.proofs.Words.{IsDivision, IsPacking, List, Marked, NeverFalls, None, Option, PackState, Some}
use Rattle.fib_carousel.proofs.Words.{ap, arith, cases_lt, cost, eq-eqb, ext_get_or, extended, false, head_of}
use Rattle.fib_carousel.proofs.Words.{if◌then◌else◌, inl, inr, last_number, le-leb, length, lt-leb, ne_eqb}
use Rattle.fib_carousel.proofs.Words.{numbers_from, opened, packing, placed, refl, room, rounds_of, same_head, size_of}
use Rattle.fib_carousel.proofs.Words.{slice_index, start, subst, suc, sym, true, used_fibs, zero, ℕ}
use Rattle.fib_carousel.proofs.Widths.{apart, later_page}
use Rattle.fib_carousel.proofs.Steps.{Goes, goes_all, division_from}

-- an entry costs its size, with or without the two bytes before it
pub cost_low : (h : Option Head) (e : Marked) → size_of e ≤ cost h e
cost_low None e = omega arith
cost_low (Some h) e = elim (same_head h (head_of e)) as (λ b. size_of e ≤ (if b then size_of e else 2 + size_of e))
    [ true ↦ omega arith | false ↦ omega arith ]

-- the two values of `room`
pub room_cases : (layout : FrameLayout) (n : ℕ) → ((n % used_fibs layout ≡ 0) × (room layout n ≡ 23))
    ⊎ (((n % used_fibs layout ≡ 0) → ⊥) × (room layout n ≡ 30))
room_cases layout n =
    elim (cases_lt 0 (n % used_fibs layout)) [
      | inl lt ↦ let other : (n % used_fibs layout ≡ 0) → ⊥ = λ q. omega (arith, lt, q) in
          inr (other, rw (ne_eqb (n % used_fibs layout) 0 other) refl)
      | inr ge ↦ let same : n % used_fibs layout ≡ 0 = omega (arith, ge) in
          inl (same, rw (eq-eqb (n % used_fibs layout) 0 same) refl)
    ]

pub room_low : (layout : FrameLayout) (n : ℕ) → 23 ≤ room layout n
room_low layout n = elim (room_cases layout n) [ inl c ↦ omega (arith, c.1) | inr c ↦ omega (arith, c.1) ]

pub room_high : (layout : FrameLayout) (n : ℕ) → room layout n ≤ 30
room_high layout n = elim (room_cases layout n) [ inl c ↦ omega (arith, c.1) | inr c ↦ omega (arith, c.1) ]

-- of two successive FIBs at most one is the first of a page
pub room_after : (layout : FrameLayout) (n size : ℕ) → room layout (n + 1) < 2 + size → size ≤ 28
    → 2 + size ≤ room layout (n + 2)
room_after layout n size tight small =
    elim (room_cases layout (n + 1)) [
      | inl one ↦
          elim (room_cases layout (n + 2)) [
            | inl two ↦ absurd (apart layout n one.0 two.0)
            | inr two ↦ omega (arith, two.1, small)
          ]
      | inr one ↦ absurd (omega (arith, one.1, tight, small))
    ]

-- a step of the greedy rule
pub record Stays (layout : FrameLayout) (e : Marked) (p : PackState) : Type 0 where
  pub is : placed layout e p ≡ extended e p
  pub fits : p.used + cost p.head e ≤ room layout p.fib

pub record Leaves (layout : FrameLayout) (e : Marked) (p : PackState) : Type 0 where
  pub to : ℕ
  pub is : placed layout e p ≡ opened e to
  pub full : room layout p.fib < p.used + cost p.head e
  pub above : p.fib < to
  pub near : to ≤ p.fib + 2
  pub fits : size_of e ≤ 28 → 2 + size_of e ≤ room layout to
  pub first : (k : ℕ) → p.fib < k → 2 + size_of e ≤ room layout k → to ≤ k

-- whatever the size, a step stays or advances by one FIB or two
pub placed_cases : (layout : FrameLayout) (e : Marked) (p : PackState) → Stays layout e p ⊎ Leaves layout e p
placed_cases layout e p =
    elim (cases_lt (room layout p.fib) (p.used + cost p.head e)) [
      | inl full ↦
          elim (cases_lt (room layout (p.fib + 1)) (2 + size_of e)) [
            | inl tight ↦
                inr (record {
                  to = p.fib + 2;
                  is = rw (lt-leb _ _ full, lt-leb _ _ tight) refl;
                  full = full;
                  above = omega arith;
                  near = omega arith;
                  fits = λ small. room_after layout p.fib (size_of e) tight small;
                  first = λ k h f.
                      elim (cases_lt k (p.fib + 2)) [
                        | inl lt ↦
                            let same : k ≡ p.fib + 1 = omega (arith, h, lt) in
                            absurd (omega (arith, tight, subst (λ (j : ℕ). 2 + size_of e ≤ room layout j) same f))
                        | inr ge ↦ ge
                      ];
                })
            | inr fits ↦
                inr (record {
                  to = p.fib + 1;
                  is = rw (lt-leb _ _ full, le-leb _ _ fits) refl;
                  full = full;
                  above = omega arith;
                  near = omega arith;
                  fits = λ small. fits;
                  first = λ k h f. omega (arith, h);
                })
          ]
      | inr fits ↦ inl (record { is = rw (le-leb _ _ fits) refl; fits = fits })
    ]

-- the numbers of the rule never decrease
pub placed_above : (layout : FrameLayout) (e : Marked) (p : PackState) → p.fib ≤ (placed layout e p).fib
placed_above layout e p =
    elim (placed_cases layout e p) [
      | inl c ↦ subst (λ (q : PackState). p.fib ≤ q.fib) (sym c.is) (omega arith)
      | inr c ↦ subst (λ (q : PackState). p.fib ≤ q.fib) (sym c.is) (omega (arith, c.above))
    ]

pub numbers_rise : (layout : FrameLayout) (p : PackState) (es : List Marked) (k : ℕ) → k ≤ p.fib
    → NeverFalls k (numbers_from layout p es)
numbers_rise layout p [] k h = tt
numbers_rise layout p (e ∷ es) k h = (
  omega (arith, h, placed_above layout e p),
  numbers_rise layout (placed layout e p) es (placed layout e p).fib
      (omega arith),
)

-- the rule places small entries as a division requires
pub greedy_goes : (layout : FrameLayout) (p : PackState) (es : List Marked) → AreSmall es
    → Goes layout p es (numbers_from layout p es)
greedy_goes layout p [] small = tt
greedy_goes layout p (e ∷ es) small =
    elim (placed_cases layout e p) [
      | inl c ↦
          subst (λ (q : PackState). Goes layout p (e ∷ es) (q.fib ∷ numbers_from layout q es)) (sym c.is)
          (inl (refl, c.fits, greedy_goes layout (extended e p) es small.1))
      | inr c ↦
          subst (λ (q : PackState). Goes layout p (e ∷ es) (q.fib ∷ numbers_from layout q es)) (sym c.is)
          (inr (c.above, c.fits small.0, greedy_goes layout (opened e c.to) es small.1))
    ]

pub greedy_divides : (layout : FrameLayout) (es : List Marked) → AreSmall es → IsDivision layout es (packing layout es)
greedy_divides layout es small = division_from layout es (packing layout es) (greedy_goes layout start es small)

-- state p is no further than state q, both after the same entries
abbrev pub Behind : PackState → PackState → Type 0
Behind p q = (p.head ≡ q.head) × (((p.fib < q.fib) × (2 ≤ q.used)) ⊎ ((p.fib ≡ q.fib) × (p.used ≤ q.used)))

pub behind_extended : (layout : FrameLayout) (e : Marked) (p q : PackState) → Behind p q
    → q.used + cost q.head e ≤ room layout q.fib → Behind (placed layout e p) (extended e q)
behind_extended layout e p q b f =
    let same : cost p.head e ≡ cost q.head e = ap (λ x. cost x e) b.0 in
    elim (placed_cases layout e p) [
      | inl c ↦ subst (λ (r : PackState). Behind r (extended e q)) (sym c.is) (
        refl,
        elim b.1 [
          | inl a ↦ inl (a.0, omega (arith, a.1))
          | inr a ↦ inr (a.0, omega (arith, a.1, same))
        ],
      )
      | inr c ↦ subst (λ (r : PackState). Behind r (extended e q)) (sym c.is) (
        refl,
        elim b.1 [
          | inl a ↦
              let le : c.to ≤ q.fib = c.first q.fib a.0 (omega (arith, f, a.1, cost_low q.head e)) in
              elim (cases_lt c.to q.fib) [
                | inl lt ↦ inl (lt, omega (arith, a.1))
                | inr ge ↦ inr (omega (arith, le, ge), omega (arith, a.1, cost_low q.head e))
              ]
          | inr a ↦
              absurd (omega (arith, c.full, a.1, same, subst (λ k. q.used + cost q.head e ≤ room layout k) (sym a.0) f))
        ],
      )
    ]

pub behind_opened : (layout : FrameLayout) (e : Marked) (p q : PackState) (m : ℕ) → Behind p q → q.fib < m
    → 2 + size_of e ≤ room layout m → Behind (placed layout e p) (opened e m)
behind_opened layout e p q m b up f =
    let below : p.fib < m = elim b.1 [ inl a ↦ omega (arith, a.0, up) | inr a ↦ omega (arith, a.0, up) ] in
    elim (placed_cases layout e p) [
      | inl c ↦ subst (λ (r : PackState). Behind r (opened e m)) (sym c.is) (refl, inl (below, omega arith))
      | inr c ↦ subst (λ (r : PackState). Behind r (opened e m)) (sym c.is) (
        refl,
        elim (cases_lt c.to m) [
          | inl lt ↦ inl (lt, omega arith)
          | inr ge ↦ inr (omega (arith, c.first m below f, ge), omega arith)
        ],
      )
    ]

-- number by number
abbrev pub AtMost : List ℕ → List ℕ → Type 0
AtMost [] ms = Unit {0}
AtMost (n ∷ ns) [] = ⊥
AtMost (n ∷ ns) (m ∷ ms) = (n ≤ m) × AtMost ns ms

behind_fib : (p q : PackState) → Behind p q → p.fib ≤ q.fib
behind_fib p q b = elim b.1 [ inl a ↦ omega (arith, a.0) | inr a ↦ omega (arith, a.0) ]

pub greedy_behind : (layout : FrameLayout) (p q : PackState) (es : List Marked) (ms : List ℕ) → Behind p q
    → Goes layout q es ms → AtMost (numbers_from layout p es) ms
greedy_behind layout p q [] [] b g = tt
greedy_behind layout p q [] (m ∷ ms) b g = tt
greedy_behind layout p q (e ∷ es) [] b g = g
greedy_behind layout p q (e ∷ es) (m ∷ ms) b g =
    elim g [
      | inl s ↦
          let next = behind_extended layout e p q b (subst (λ k. q.used + cost q.head e ≤ room layout k) s.0 s.1) in (
            omega (arith, behind_fib _ _ next, s.0),
            greedy_behind layout (placed layout e p) (extended e q) es ms next
                s.2,
          )
      | inr s ↦
          let next = behind_opened layout e p q m b s.0 s.1 in
          (behind_fib _ _ next, greedy_behind layout (placed layout e p) (opened e m) es ms next s.2)
    ]

pub at_most_at : (ns ms : List ℕ) → AtMost ns ms → (i : ℕ) → slice_index ns i ≤ slice_index ms i
at_most_at [] ms a i = omega arith
at_most_at (n ∷ ns) [] a i = absurd a
at_most_at (n ∷ ns) (m ∷ ms) a zero = a.0
at_most_at (n ∷ ns) (m ∷ ms) a (suc i) = at_most_at ns ms a.1 i

pub packing_at_most : (layout : FrameLayout) (es : List Marked) (ms : List ℕ) → IsDivision layout es ms
    → AtMost (packing layout es) ms
packing_at_most layout es ms d = greedy_behind _ start start es ms (refl, inr (refl, omega arith)) (goes_all _ es ms d)

pub greedy_is_packing : (layout : FrameLayout) (es : List Marked) → AreSmall es
    → IsPacking layout es (packing layout es)
greedy_is_packing layout es small = record {
  division = greedy_divides layout es small;
  least = λ ms d i. at_most_at (packing layout es) ms (packing_at_most layout es ms d) i;
}

-- two packings have the same numbers
pub packing_is_one : (layout : FrameLayout) (es : List Marked) (ns ms : List ℕ) → IsPacking layout es ns
    → IsPacking layout es ms → ns ≡ ms
packing_is_one layout es ns ms p q =
    ext_get_or 0 ns ms (p.division.each ∙ sym q.division.each)
    (λ i h. omega (arith, p.least ms q.division i, q.least ns p.division i))

-- no entry yet, or at least the two bytes of a FIG's start taken: so an entry that extends the FIG is small
abbrev pub Begun : PackState → Type 0
Begun p = (p.head ≡ None) ⊎ (2 ≤ p.used)

extended_small : (layout : FrameLayout) (e : Marked) (p : PackState) (m : ℕ) → Begun p
    → p.used + cost p.head e ≤ room layout m → size_of e ≤ 28
extended_small layout e p m b f =
    let high : room layout m ≤ 30 = room_high layout m in
    elim b [
      | inl h ↦ let whole : cost p.head e ≡ 2 + size_of e = ap (λ x. cost x e) h in omega (arith, whole, f, high)
      | inr u ↦ omega (arith, cost_low p.head e, f, u, high)
    ]

small_from : (layout : FrameLayout) (p : PackState) (es : List Marked) (ms : List ℕ) → Begun p → Goes layout p es ms
    → AreSmall es
small_from layout p [] ms b g = tt
small_from layout p (e ∷ es) [] b g = absurd g
small_from layout p (e ∷ es) (m ∷ ms) b g =
    elim g [
      | inl s ↦
          let begun : 2 ≤ p.used + cost p.head e =
          elim b [
            | inl h ↦ let whole : cost p.head e ≡ 2 + size_of e = ap (λ x. cost x e) h in omega (arith, whole)
            | inr u ↦ omega (arith, u)
          ] in
          (extended_small layout e p m b s.1, small_from layout (extended e p) es ms (inr begun) s.2)
      | inr s ↦ (omega (arith, s.1, room_high layout m), small_from layout (opened e m) es ms (inr (omega arith)) s.2)
    ]

pub small_of : (layout : FrameLayout) (es : List Marked) (ms : List ℕ) → IsDivision layout es ms → AreSmall es
small_of layout es ms d = small_from layout start es ms (inl refl) (goes_all layout es ms d)

last_at_most : (n m : ℕ) (ns ms : List ℕ) → n ≤ m → length ns ≡ length ms → AtMost ns ms
    → last_number n ns ≤ last_number m ms
last_at_most n m [] [] h l a = h
last_at_most n m [] (x ∷ ms) h l a = absurd (omega (arith, l))
last_at_most n m (y ∷ ns) [] h l a = absurd a
last_at_most n m (y ∷ ns) (x ∷ ms) h l a = last_at_most y x ns ms a.0 (omega (arith, l)) a.1

pub length-numbers_from : (layout : FrameLayout) (p : PackState) (es : List Marked)
    → length (numbers_from layout p es) ≡ length es
length-numbers_from layout p [] = refl
length-numbers_from layout p (e ∷ es) = ap suc (length-numbers_from layout (placed layout e p) es)

pub no_fewer : (layout : FrameLayout) (es : List Marked) (ms : List ℕ) → IsDivision layout es ms
    → (last_number 0 (packing layout es) ≤ last_number 0 ms)
    × (rounds_of layout (packing layout es) ≤ rounds_of layout ms)
no_fewer layout es ms d =
    let last : last_number 0 (packing layout es) ≤ last_number 0 ms = last_at_most 0 0 (packing layout es) ms
    (omega arith) (length-numbers_from _ start es ∙ sym d.each) (packing_at_most _ es ms d) in
    (last, omega (arith, later_page layout (last_number 0 (packing layout es)) (last_number 0 ms) last))

-- so whatever is true of the greedy numbers is true of the packing
pub of_packing : (layout : FrameLayout) {A : Type 0} (F : List ℕ → A) (es : List Marked) (ns : List ℕ)
    → IsPacking layout es ns → F (packing layout es) ≡ F ns
of_packing layout F es ns p = ap F (packing_is_one _ es _ ns (greedy_is_packing _ es (small_of _ es ns p.division)) p)
