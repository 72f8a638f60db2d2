-- How many pages configurations can need.
use Rattle.fib_carousel.proofs.Words.{[], ◌%◌, ◌*◌, ◌++◌, ◌+◌, ◌-◌, ◌<◌, ◌==◌, ◌∙◌, ◌∷◌, ◌≡◌, ◌≤◌, ◌⊎◌, AllByRecursion}
use Rattle.fib_carousel.proofs.Words.{Bool, Configuration, Entry, FrameLayout, Head, I, II, III, IV, IsAddressed}
use Rattle.fib_carousel.proofs.Words.{IsConfiguration, IsPlaced, IsService, List, Marked, None, Option, PackState}
use Rattle.fib_carousel.proofs.Words.{ReserveOne, ReserveTwo, Service, Some, Whole, add-mod_right, ap, arith, cases_lt}
use Rattle.fib_carousel.proofs.Words.{cost, eq-eqb, extended, facts_of, false, head_of, if◌then◌else◌, inl, inr}
use Rattle.fib_carousel.proofs.Words.{last_number, length, length-map, map, map-append, marked, mul-le-mul_left, ne_eqb}
use Rattle.fib_carousel.proofs.Words.{numbers_from, opened, packet_entry, packing, page_set, placed, refl, room, rounds}
use Rattle.fib_carousel.proofs.Words.{service_entries, service_entry, size_of, start, sub_entries, sub_entry, subst}
use Rattle.fib_carousel.proofs.Words.{suc, sym, true, used_fibs, zero, ℕ}
use Rattle.fib_carousel.specs.Most.{most_alone, most_together}
use Rattle.fib_carousel.proofs.Widths.{by_width}
use Rattle.fib_carousel.proofs.Least.{room_cases, placed_cases, Leaves}
use Rattle.fib_carousel.proofs.Sent.{same_head_own}
use Rattle.fib_carousel.proofs.Sendable.{each_map, service_small, length-component_entries}

-- the entries of a kind that a FIB takes: a in the first FIB of a page, b in each other one, with w FIBs to a page
abbrev cap : ℕ → ℕ → ℕ → ℕ → ℕ
cap w a b n = if n % w == 0 then a else b

-- what the FIBs before FIB n take
abbrev total : ℕ → ℕ → ℕ → ℕ → ℕ
total w a b zero = 0
total w a b (suc n) = total w a b n + cap w a b n

cap_first : (w a b n : ℕ) → n % w ≡ 0 → cap w a b n ≡ a
cap_first w a b n h = rw (eq-eqb (n % w) 0 h) refl

cap_other : (w a b n : ℕ) → (n % w ≡ 0 → ⊥) → cap w a b n ≡ b
cap_other w a b n h = rw (ne_eqb (n % w) 0 h) refl

cap_low : (w a b n : ℕ) → a ≤ b → a ≤ cap w a b n
cap_low w a b n h = elim (n % w == 0) as (λ x. a ≤ (if x then a else b)) [ true ↦ omega arith | false ↦ h ]

-- what a page takes, wherever it begins, and so many pages
page_takes : (w a b page n : ℕ) → total w a b w ≡ page → total w a b (n + w) ≡ total w a b n + page
page_takes w a b page zero e =
    let same : zero + w ≡ w = omega arith in
    ap (λ k. total w a b k) same ∙ omega (arith, e)
page_takes w a b page (suc n) e =
    let next : suc n + w ≡ suc (n + w) = omega arith in
    let again : cap w a b (n + w) ≡ cap w a b n = ap (λ k. if k == 0 then a else b) (add-mod_right n w) in
    ap (λ k. total w a b k) next ∙ omega (arith, page_takes w a b page n e, again)

total_pages : (w a b page n t : ℕ) → total w a b w ≡ page → total w a b (n + w * t) ≡ total w a b n + t * page
total_pages w a b page n zero e =
    let same : n + w * 0 ≡ n = omega arith in
    let none : total w a b n ≡ total w a b n + 0 * page = omega arith in
    ap (λ k. total w a b k) same ∙ none
total_pages w a b page n (suc t) e =
    let next : n + w * suc t ≡ n + w * t + w = omega arith in
    ap (λ k. total w a b k) next ∙ page_takes w a b page (n + w * t) e ∙ omega (arith, total_pages w a b page n t e)

total_more : (w a b n k : ℕ) → total w a b n ≤ total w a b (n + k)
total_more w a b n zero = let same : n + 0 ≡ n = omega arith in
    subst (λ m. total w a b n ≤ total w a b m) (sym same) (omega arith)
total_more w a b n (suc k) =
    let same : n + suc k ≡ suc (n + k) = omega arith in
    subst (λ m. total w a b n ≤ total w a b m) (sym same) (omega (arith, total_more w a b n k))

total_mono : (w a b m n : ℕ) → m ≤ n → total w a b m ≤ total w a b n
total_mono w a b m n h = let whole : m + (n - m) ≡ n = omega (arith, h) in
    subst (λ k. total w a b m ≤ total w a b k) whole (total_more w a b m (n - m))

-- r successive FIBs take at least a each, and two of four of a page at least a + b
total_rest : (w a b n r : ℕ) → a ≤ b → total w a b n + r * a ≤ total w a b (n + r)
total_rest w a b n zero h = let same : n + 0 ≡ n = omega arith in
    subst (λ i. total w a b n + 0 * a ≤ total w a b i) (sym same) (omega arith)
total_rest w a b n (suc r) h =
    let next : n + suc r ≡ suc (n + r) = omega arith in
    subst (λ i. total w a b n + suc r * a ≤ total w a b i) (sym next)
    (omega (arith, total_rest w a b n r h, cap_low w a b (n + r) h))

total_pair : (a b n : ℕ) → a ≤ b → total 4 a b n + (a + b) ≤ total 4 a b (n + 2)
total_pair a b n h =
    let next : n + 2 ≡ suc (suc n) = omega arith in
    subst (λ i. total 4 a b n + (a + b) ≤ total 4 a b i) (sym next)
    (elim (cases_lt 0 (n % 4)) [
      | inl some_left ↦ omega (arith, cap_other 4 a b n (λ q. omega (arith, some_left, q)), cap_low 4 a b (suc n) h)
      | inr none_left ↦ omega (arith, cap_other 4 a b (suc n) (λ q. omega (arith, none_left, q)), cap_low 4 a b n h)
    ])

-- entries of one kind: no larger than s, and of one head, or so large that no two share a FIB
abbrev IsOfKind : ℕ → ℕ → ℕ → Head → Marked → Type 0
IsOfKind a b s h m = (size_of m ≤ s) × ((head_of m ≡ h) ⊎ ((a ≤ 1) × (b ≤ 1)))

-- a FIB has room for the number of them that `cap` gives
abbrev Holds : (layout : FrameLayout) → ℕ → ℕ → ℕ → Type 0
Holds layout a b s = (n : ℕ) → 1 ≤ cap (used_fibs layout) a b n → 2 + s * cap (used_fibs layout) a b n ≤ room layout n

cap_small : (layout : FrameLayout) (a b n : ℕ) → (a ≤ 1) × (b ≤ 1) → cap (used_fibs layout) a b n ≤ 1
cap_small layout a b n h =
    elim (room_cases layout n) [
      | inl c ↦ subst (λ k. k ≤ 1) (sym (cap_first (used_fibs layout) a b n c.0)) h.0
      | inr c ↦ subst (λ k. k ≤ 1) (sym (cap_other (used_fibs layout) a b n c.0)) h.1
    ]

-- the progress after i entries of a kind, if the entry before them is in FIB f: still there, or further on with the
-- FIBs between filled
pub record Further (layout : FrameLayout) (a b s f i : ℕ) (h : Head) (q : PackState) : Type 0 where
  pub above : f < q.fib
  pub count : ℕ
  pub some : 1 ≤ count
  pub spent : total (used_fibs layout) a b q.fib + count ≤ total (used_fibs layout) a b (f + 1) + i
  pub filled : (cap (used_fibs layout) a b q.fib ≤ count) ⊎ ((q.head ≡ Some h) × (q.used ≤ 2 + s * count))

abbrev Comes : (layout : FrameLayout) → ℕ → ℕ → ℕ → ℕ → ℕ → Head → PackState → Type 0
Comes layout a b s f i h q = (q.fib ≡ f) ⊎ Further layout a b s f i h q

-- after an entry with its head an entry costs its size
cost_alike : (h : Option Head) (k : Head) (m : Marked) → h ≡ Some k → head_of m ≡ k → cost h m ≡ size_of m
cost_alike h k m e own =
    let same = subst (λ (g : Head). cost (Some g) m ≡ size_of m) own (rw (same_head_own (head_of m)) refl) in
    ap (λ (g : Option Head). cost g m) e ∙ same

-- a step within a FIB
further_stays : (layout : FrameLayout) (a b s f i : ℕ) (h : Head) (m : Marked) (q : PackState) → IsOfKind a b s h m
    → Further layout a b s f i h q → Further layout a b s f (suc i) h (extended m q)
further_stays layout a b s f i h m q kind c = record {
  above = c.above;
  count = suc c.count;
  some = omega arith;
  spent = omega (arith, c.spent);
  filled =
      elim c.filled [
        | inl full ↦ inl (omega (arith, full))
        | inr open_ ↦
            elim kind.1 [
              | inl own ↦
                  inr (ap (λ (g : Head). Some g) own, omega (arith, open_.1, cost_alike q.head h m open_.0 own, kind.0))
              | inr few ↦ inl (omega (arith, cap_small layout a b q.fib few))
            ]
      ];
}

-- the FIB that a step continues to, and those that it passes over
passed_over : (layout : FrameLayout) (a b s : ℕ) (h : Head) (m : Marked) (q : PackState) → Holds layout a b s
    → IsOfKind a b s h m → (c : Leaves layout m q) → total (used_fibs layout) a b c.to
    ≡ total (used_fibs layout) a b (suc q.fib)
passed_over layout a b s h m q holds kind c =
    elim (cases_lt c.to (q.fib + 2)) [
      | inl lt ↦ let one : c.to ≡ suc q.fib = omega (arith, lt, c.above) in ap (λ k. total (used_fibs layout) a b k) one
      | inr ge ↦
          let two : c.to ≡ suc (suc q.fib) = omega (arith, ge, c.near) in
          elim (cases_lt 0 (cap (used_fibs layout) a b (suc q.fib))) [
            | inl some_left ↦
                let fits : 2 + size_of m ≤ room layout (suc q.fib) =
                omega (arith, holds (suc q.fib) some_left, kind.0, mul-le-mul_left s some_left) in
                absurd (omega (arith, c.first (suc q.fib) (omega arith) fits, two))
            | inr none_left ↦
                ap (λ k. total (used_fibs layout) a b k) two ∙ (omega (arith, none_left))
          ]
    ]

-- a step that leaves a FIB leaves it full
left_full : (layout : FrameLayout) (a b s f i : ℕ) (h : Head) (m : Marked) (q : PackState) → Holds layout a b s
    → IsOfKind a b s h m → (c : Leaves layout m q) → (d : Further layout a b s f i h q)
    → cap (used_fibs layout) a b q.fib ≤ d.count
left_full layout a b s f i h m q holds kind c d =
    elim d.filled [
      | inl full ↦ full
      | inr open_ ↦
          elim kind.1 [
            | inl own ↦
                let price : cost q.head m ≡ size_of m = cost_alike q.head h m open_.0 own in
                elim (cases_lt d.count (cap (used_fibs layout) a b q.fib)) [
                  | inl lt ↦
                      let product : s * suc d.count ≤ s * cap (used_fibs layout) a b q.fib = mul-le-mul_left s lt in
                      absurd (omega (arith, holds q.fib (omega (arith, lt)), product, c.full, price, kind.0, open_.1))
                  | inr ge ↦ ge
                ]
            | inr few ↦ omega (arith, cap_small layout a b q.fib few, d.some)
          ]
    ]

further_leaves : (layout : FrameLayout) (a b s f i : ℕ) (h : Head) (m : Marked) (q : PackState) → Holds layout a b s
    → IsOfKind a b s h m → Comes layout a b s f i h q → (c : Leaves layout m q)
    → Further layout a b s f (suc i) h (opened m c.to)
further_leaves layout a b s f i h m q holds kind comes c =
    let passed = passed_over layout a b s h m q holds kind c in
    record {
      above = elim comes [ inl e ↦ omega (arith, e, c.above) | inr d ↦ omega (arith, d.above, c.above) ];
      count = 1;
      some = omega arith;
      spent =
          elim comes [
            | inl e ↦
                let here : total (used_fibs layout) a b (f + 1) ≡ total (used_fibs layout) a b q.fib
                + cap (used_fibs layout) a b q.fib =
                let same : f + 1 ≡ suc q.fib = omega (arith, e) in ap (λ k. total (used_fibs layout) a b k) same in
                omega (arith, passed, here)
            | inr d ↦ omega (arith, passed, d.spent, left_full layout a b s f i h m q holds kind c d)
          ];
      filled =
          elim kind.1 [
            | inl own ↦ inr (ap (λ (g : Head). Some g) own, omega (arith, kind.0))
            | inr few ↦ inl (cap_small layout a b c.to few)
          ];
    }

comes_step : (layout : FrameLayout) (a b s f i : ℕ) (h : Head) (m : Marked) (q : PackState) → Holds layout a b s
    → IsOfKind a b s h m → Comes layout a b s f i h q → Comes layout a b s f (suc i) h (placed layout m q)
comes_step layout a b s f i h m q holds kind comes =
    elim (placed_cases layout m q) [
      | inl c ↦
          subst (λ (r : PackState). Comes layout a b s f (suc i) h r) (sym c.is)
          (elim comes [ inl e ↦ inl e | inr d ↦ inr (further_stays layout a b s f i h m q kind d) ])
      | inr c ↦ subst (λ (r : PackState). Comes layout a b s f (suc i) h r) (sym c.is)
          (inr (further_leaves layout a b s f i h m q holds kind comes c))
    ]

-- the state after a list of entries
abbrev behind : (layout : FrameLayout) → PackState → List Marked → PackState
behind layout p [] = p
behind layout p (m ∷ ms) = behind layout (placed layout m p) ms

comes_all : (layout : FrameLayout) (a b s f i : ℕ) (h : Head) (ms : List Marked) (q : PackState) → Holds layout a b s
    → AllByRecursion (IsOfKind a b s h) ms → Comes layout a b s f i h q
    → Comes layout a b s f (i + length ms) h (behind layout q ms)
comes_all layout a b s f i h [] q holds kinds comes = let same : i + 0 ≡ i = omega arith in
    subst (λ n. Comes layout a b s f n h q) (sym same) comes
comes_all layout a b s f i h (m ∷ ms) q holds kinds comes =
    subst (λ n. Comes layout a b s f n h (behind layout (placed layout m q) ms)) (sym (omega arith))
    (comes_all layout a b s f (suc i) h ms (placed layout m q) holds kinds.1
    (comes_step layout a b s f i h m q holds kinds.0 comes))

-- 64 entries of a kind go no further than the FIBs that take 64
comes_within : (layout : FrameLayout) (a b s f n k : ℕ) (h : Head) (q : PackState) → Comes layout a b s f n h q → n ≤ 64
    → total (used_fibs layout) a b (f + 1) + 64 ≤ total (used_fibs layout) a b (f + 1 + k) → q.fib ≤ f + k
comes_within layout a b s f n k h q comes few enough =
    elim comes [
      | inl e ↦ omega (arith, e)
      | inr d ↦
          elim (cases_lt (f + k) q.fib) [
            | inl far ↦ absurd (omega (
              arith,
              total_mono (used_fibs layout) a b (f + 1 + k) q.fib (omega (arith, far)),
              enough,
              d.spent,
              d.some,
              few,
            ))
            | inr near ↦ near
          ]
    ]

-- with pages of this many FIBs, 2 to 4, so many more FIBs take 64 entries of a kind: of sub-channels, of services, and
-- of packet components
abbrev subs_most : ℕ → ℕ
subs_most fibs = if fibs == 4 then 10 else 11

abbrev services_most : ℕ → ℕ
services_most fibs = if fibs == 2 then 128 else if fibs == 3 then 96 else 86

abbrev packets_most : ℕ → ℕ
packets_most fibs = if fibs == 2 then 15 else 14

abbrev Suffices : FrameLayout → ℕ → ℕ → ℕ → ℕ → Type 0
Suffices layout a b k f = total (used_fibs layout) a b (f + 1) + 64 ≤ total (used_fibs layout) a b (f + 1 + k)

-- so many pages and FIBs take 64
enough_by : (w a b page n t r k : ℕ) → total w a b w ≡ page → a ≤ b → w * t + r ≡ k → 64 ≤ t * page + r * a
    → total w a b n + 64 ≤ total w a b (n + k)
enough_by w a b page n t r k e h at enough =
    let whole : n + w * t + r ≡ n + k = omega (arith, at) in
    subst (λ i. total w a b n + 64 ≤ total w a b i) whole
    (omega (arith, total_pages w a b page n t e, total_rest w a b (n + w * t) r h, enough))

enough_four : (a b page n t k : ℕ) → total 4 a b 4 ≡ page → a ≤ b → 4 * t + 2 ≡ k → 64 ≤ t * page + (a + b)
    → total 4 a b n + 64 ≤ total 4 a b (n + k)
enough_four a b page n t k e h at enough =
    let whole : n + 4 * t + 2 ≡ n + k = omega (arith, at) in
    subst (λ i. total 4 a b n + 64 ≤ total 4 a b i) whole
    (omega (arith, total_pages 4 a b page n t e, total_pair a b (n + 4 * t) h, enough))

subs_enough : (layout : FrameLayout) (f : ℕ) → Suffices layout 5 7 (subs_most (used_fibs layout)) f
subs_enough layout f =
    by_width (λ w. total w 5 7 (f + 1) + 64 ≤ total w 5 7 (f + 1 + subs_most w))
    (enough_by 2 5 7 12 (f + 1) 5 1 11 refl (omega arith) refl (omega arith))
    (enough_by 3 5 7 19 (f + 1) 3 2 11 refl (omega arith) refl (omega arith))
    (enough_four 5 7 26 (f + 1) 2 10 refl (omega arith) refl (omega arith)) layout

services_enough : (layout : FrameLayout) (f : ℕ) → Suffices layout 0 1 (services_most (used_fibs layout)) f
services_enough layout f =
    by_width (λ w. total w 0 1 (f + 1) + 64 ≤ total w 0 1 (f + 1 + services_most w))
    (enough_by 2 0 1 1 (f + 1) 64 0 128 refl (omega arith) refl (omega arith))
    (enough_by 3 0 1 2 (f + 1) 32 0 96 refl (omega arith) refl (omega arith))
    (enough_four 0 1 3 (f + 1) 21 86 refl (omega arith) refl (omega arith)) layout

packets_enough : (layout : FrameLayout) (f : ℕ) → Suffices layout 4 5 (packets_most (used_fibs layout)) f
packets_enough layout f =
    by_width (λ w. total w 4 5 (f + 1) + 64 ≤ total w 4 5 (f + 1 + packets_most w))
    (enough_by 2 4 5 9 (f + 1) 7 1 15 refl (omega arith) refl (omega arith))
    (enough_by 3 4 5 14 (f + 1) 4 2 14 refl (omega arith) refl (omega arith))
    (enough_four 4 5 19 (f + 1) 3 14 refl (omega arith) refl (omega arith)) layout

-- one FIB fewer with four FIBs to a page after FIB 10
services_behind_ten : Suffices (Whole III) 0 1 85 10
services_behind_ten =
    let pages : total 4 0 1 (11 + 84) ≡ total 4 0 1 11 + 63 = total_pages 4 0 1 3 11 21 refl in
    let one : cap 4 0 1 95 ≡ 1 = refl in
    let next : total 4 0 1 96 ≡ total 4 0 1 95 + cap 4 0 1 95 = refl in
    omega (arith, pages, one, next)

holds_by : (layout : FrameLayout) (a b s : ℕ) → 2 + s * a ≤ 23 ⊎ (a ≡ 0) → 2 + s * b ≤ 30 → Holds layout a b s
holds_by layout a b s first other n some_left =
    elim (room_cases layout n) [
      | inl c ↦
          let is : cap (used_fibs layout) a b n ≡ a = cap_first (used_fibs layout) a b n c.0 in
          elim first [
            | inl fits ↦ subst (λ k. 2 + s * k ≤ room layout n) (sym is) (omega (arith, fits, c.1))
            | inr none ↦ absurd (omega (arith, some_left, is, none))
          ]
      | inr c ↦ subst (λ k. 2 + s * k ≤ room layout n) (sym (cap_other (used_fibs layout) a b n c.0))
          (omega (arith, other, c.1))
    ]

-- a phase of at most 64 members of a kind, with the entry of each
phase : {A : Type 0} (layout : FrameLayout) (a b s k : ℕ) (h : Head) (next : Bool) (f : A → Entry) (Q : A → Type 0)
    (xs : List A) (p : PackState) → Holds layout a b s → Suffices layout a b k p.fib
    → ((x : A) → Q x → IsOfKind a b s h (marked next (f x))) → AllByRecursion Q xs → length xs ≤ 64
    → (behind layout p (map (marked next) (map f xs))).fib ≤ p.fib + k
phase layout a b s k h next f Q xs p holds enough kind formed few =
    let ms : List Marked = map (marked next) (map f xs) in
    let kinds : AllByRecursion (IsOfKind a b s h) ms =
    each_map (marked next) (λ e. IsOfKind a b s h (marked next e)) (IsOfKind a b s h) (map f xs) (λ e k. k)
    (each_map f Q (λ e. IsOfKind a b s h (marked next e)) xs kind formed) in
    let count : length ms ≡ length xs = length-map (map f xs) (marked next) ∙ length-map xs f in
    comes_within layout a b s p.fib (0 + length ms) k h (behind layout p ms)
    (comes_all layout a b s p.fib 0 h ms p holds kinds (inl refl)) (omega (arith, few, count)) enough

-- the three kinds of entries
abbrev head_ext : Bool → ℕ → Head
head_ext next ext = record { next = next; oe = false; long = false; ext = ext }

-- the entries of a configuration, kind by kind
abbrev subs_entries : Configuration → Bool → List Marked
subs_entries c next = map (marked next) (map sub_entry c.subs)

abbrev services_only : Configuration → Bool → List Marked
services_only c next = map (marked next) (map service_entry c.services)

abbrev packets_only : Configuration → Bool → List Marked
packets_only c next = map (marked next) (map packet_entry c.packets)

subs_phase : (layout : FrameLayout) (c : Configuration) (next : Bool) (p : PackState) → IsConfiguration c
    → (behind layout p (subs_entries c next)).fib ≤ p.fib + subs_most (used_fibs layout)
subs_phase layout c next p h =
    phase layout 5 7 4 (subs_most (used_fibs layout)) (head_ext next 1) next sub_entry IsPlaced c.subs p
    (holds_by layout 5 7 4 (inl (omega arith)) (omega arith)) (subs_enough layout p.fib)
    (λ s _. (omega arith, inl refl)) h.subs_placed h.subs_few

services_phase : (layout : FrameLayout) (c : Configuration) (next : Bool) (p : PackState) (k : ℕ)
    → Suffices layout 0 1 k p.fib → IsConfiguration c → (behind layout p (services_only c next)).fib ≤ p.fib + k
services_phase layout c next p k enough h =
    phase layout 0 1 27 k (head_ext next 2) next service_entry IsService c.services p
    (holds_by layout 0 1 27 (inr refl) (omega arith)) enough
    (λ s i. (service_size s i, inr (omega arith, omega arith))) h.services_formed h.services_few
  where
    service_size : (s : Service) → IsService s → size_of (marked next (service_entry s)) ≤ 27
    service_size s i = omega (
      arith,
      service_small s.sid (length s.components) i.few,
      length-component_entries s.components,
    )

packets_phase : (layout : FrameLayout) (c : Configuration) (next : Bool) (p : PackState) → IsConfiguration c
    → (behind layout p (packets_only c next)).fib ≤ p.fib + packets_most (used_fibs layout)
packets_phase layout c next p h =
    phase layout 4 5 5 (packets_most (used_fibs layout)) (head_ext next 3) next packet_entry IsAddressed c.packets p
    (holds_by layout 4 5 5 (inl (omega arith)) (omega arith)) (packets_enough layout p.fib)
    (λ k _. (omega arith, inl refl)) h.packets_addressed h.packets_few

behind-append : (layout : FrameLayout) (p : PackState) (xs ys : List Marked)
    → behind layout p (xs ++ ys) ≡ behind layout (behind layout p xs) ys
behind-append layout p [] ys = refl
behind-append layout p (x ∷ xs) ys = behind-append layout (placed layout x p) xs ys

-- a configuration takes this many more FIBs
facts_walk : (layout : FrameLayout) (c : Configuration) (next : Bool) (p : PackState)
    → behind layout p (facts_of c next) ≡ behind layout
    (behind layout (behind layout p (subs_entries c next)) (services_only c next)) (packets_only c next)
facts_walk layout c next p =
    let subs : List Marked = subs_entries c next in
    let services : List Marked = services_only c next in
    let packets : List Marked = packets_only c next in
    let parts : facts_of c next ≡ subs ++ (services ++ packets) =
    map-append (marked next) (sub_entries c) (service_entries c)
    ∙ ap (λ xs. subs ++ xs) (map-append (marked next) (map service_entry c.services) (map packet_entry c.packets)) in
    ap (λ xs. behind layout p xs) parts ∙ behind-append layout p subs (services ++ packets)
    ∙ behind-append layout (behind layout p subs) services packets

abbrev facts_most : ℕ → ℕ
facts_most fibs = subs_most fibs + services_most fibs + packets_most fibs

facts_phase : (layout : FrameLayout) (c : Configuration) (next : Bool) (p : PackState) → IsConfiguration c
    → (behind layout p (facts_of c next)).fib ≤ p.fib + facts_most (used_fibs layout)
facts_phase layout c next p h =
    let first : PackState = behind layout p (subs_entries c next) in
    let second : PackState = behind layout first (services_only c next) in
    let two : second.fib ≤ first.fib + services_most (used_fibs layout) =
    services_phase layout c next first (services_most (used_fibs layout)) (services_enough layout first.fib) h in
    subst (λ (q : PackState). q.fib ≤ p.fib + facts_most (used_fibs layout)) (sym (facts_walk layout c next p))
    (omega (arith, subs_phase layout c next p h, two, packets_phase layout c next second h))

-- with four FIBs to a page one FIB fewer from the start
facts_first : (c : Configuration) → IsConfiguration c → (behind (Whole III) start (facts_of c false)).fib ≤ 109
facts_first c h =
    let first : PackState = behind (Whole III) start (subs_entries c false) in
    let second : PackState = behind (Whole III) first (services_only c false) in
    let two : second.fib ≤ 95 =
    elim (cases_lt first.fib 10) [
      | inl lt ↦ omega (
        arith,
        lt,
        services_phase (Whole III) c false first 86 (services_enough (Whole III) first.fib)
            h,
      )
      | inr ge ↦
          let at : first.fib ≡ 10 = omega (arith, ge, subs_phase (Whole III) c false start h) in
          omega (
            arith,
            at,
            services_phase (Whole III) c false first 85
                (subst (λ f. Suffices (Whole III) 0 1 85 f) (sym at) services_behind_ten) h,
          )
    ] in
    let three = packets_phase (Whole III) c false second h in
    subst (λ (q : PackState). q.fib ≤ 109) (sym (facts_walk (Whole III) c false start)) (omega (arith, two, three))

last_behind : (layout : FrameLayout) (p : PackState) (ms : List Marked)
    → last_number p.fib (numbers_from layout p ms) ≡ (behind layout p ms).fib
last_behind layout p [] = refl
last_behind layout p (m ∷ ms) = last_behind layout (placed layout m p) ms

-- the last FIBs of one configuration and of two
record Reach (layout : FrameLayout) (c d : Configuration) (one two : ℕ) : Type 0 where
  alone : last_number 0 (packing layout (page_set c None)) ≤ one
  both : last_number 0 (packing layout (page_set c (Some d))) ≤ two

reach : (layout : FrameLayout) (c d : Configuration) (one two : ℕ) → IsConfiguration d
    → (behind layout start (facts_of c false)).fib ≤ one → one + facts_most (used_fibs layout) ≤ two
    → Reach layout c d one two
reach layout c d one two hd h sum =
    let first : PackState = behind layout start (facts_of c false) in
    let more : (behind layout first (facts_of d true)).fib ≤ first.fib + facts_most (used_fibs layout) =
    facts_phase layout d true first hd in
    let both : behind layout start (facts_of c false ++ facts_of d true) ≡ behind layout first (facts_of d true) =
    behind-append layout start (facts_of c false) (facts_of d true) in
    let last_one : last_number 0 (packing layout (facts_of c false)) ≡ first.fib =
    last_behind layout start (facts_of c false) in
    let last_two : last_number 0 (packing layout (facts_of c false ++ facts_of d true))
    ≡ (behind layout first (facts_of d true)).fib =
    last_behind layout start (facts_of c false ++ facts_of d true) ∙ ap (λ (q : PackState). q.fib) both in
    record {
      alone = omega (arith, h, last_one);
      both = omega (arith, more, h, sum, last_two);
    }

pub most_pages : (layout : FrameLayout) (c d : Configuration) → IsConfiguration c → IsConfiguration d
    → (rounds layout (page_set c None) ≤ most_alone (used_fibs layout))
    × (rounds layout (page_set c (Some d)) ≤ most_together (used_fibs layout))
most_pages (Whole I) c d hc hd = let r =
    reach (Whole I) c d 121 242 hd (facts_phase (Whole I) c false start hc) (omega arith) in
    (omega (arith, r.alone), omega (arith, r.both))
most_pages (Whole II) c d hc hd = let r =
    reach (Whole II) c d 121 242 hd (facts_phase (Whole II) c false start hc) (omega arith) in
    (omega (arith, r.alone), omega (arith, r.both))
most_pages (Whole IV) c d hc hd = let r =
    reach (Whole IV) c d 121 242 hd (facts_phase (Whole IV) c false start hc) (omega arith) in
    (omega (arith, r.alone), omega (arith, r.both))
most_pages (Whole III) c d hc hd = let r = reach (Whole III) c d 109 219 hd (facts_first c hc) (omega arith) in
    (omega (arith, r.alone), omega (arith, r.both))
most_pages (ReserveOne I) c d hc hd = let r =
    reach (ReserveOne I) c d 154 308 hd (facts_phase (ReserveOne I) c false start hc) (omega arith) in
    (omega (arith, r.alone), omega (arith, r.both))
most_pages (ReserveOne II) c d hc hd = let r =
    reach (ReserveOne II) c d 154 308 hd (facts_phase (ReserveOne II) c false start hc) (omega arith) in
    (omega (arith, r.alone), omega (arith, r.both))
most_pages (ReserveOne IV) c d hc hd = let r =
    reach (ReserveOne IV) c d 154 308 hd (facts_phase (ReserveOne IV) c false start hc) (omega arith) in
    (omega (arith, r.alone), omega (arith, r.both))
most_pages (ReserveOne III) c d hc hd = let r =
    reach (ReserveOne III) c d 121 242 hd (facts_phase (ReserveOne III) c false start hc) (omega arith) in
    (omega (arith, r.alone), omega (arith, r.both))
most_pages ReserveTwo c d hc hd = let r =
    reach ReserveTwo c d 154 308 hd (facts_phase ReserveTwo c false start hc) (omega arith) in
    (omega (arith, r.alone), omega (arith, r.both))
