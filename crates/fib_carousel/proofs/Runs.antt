-- Entries placed one after another, and runs of entries of one head and size.
use Rattle.fib_carousel.proofs.Words.{[], ◌%◌, ◌*◌, ◌++◌, ◌+◌, ◌-◌, ◌/◌, ◌<◌, ◌∙◌, ◌∷◌, ◌≡◌, ◌≤◌, Bool, Configuration}
use Rattle.fib_carousel.proofs.Words.{EntryShape, FrameLayout, Head, List, Marked, None, Option, PackState, Packet}
use Rattle.fib_carousel.proofs.Words.{Service, Some, Sub, all_placed, ap, arith, cost, div-mul-le_self, drop, facts_of}
use Rattle.fib_carousel.proofs.Words.{false, head_of, last_number, le-div_iff_mul-le, le-leb, length, lt-leb, map}
use Rattle.fib_carousel.proofs.Words.{marked, mod-eq-sub-div-mul, mod-lt, numbers_from, packet_entry, packet_shape}
use Rattle.fib_carousel.proofs.Words.{page_set, placed, refl, room, rounds, service_entry, shape_cost, shape_of}
use Rattle.fib_carousel.proofs.Words.{size_of, slice_get, start, state_at, step, steps, sub_entry, sub_shape, suc, sym}
use Rattle.fib_carousel.proofs.Words.{true, used_fibs, zero, ℕ}
use Rattle.mux_types.proofs.Walking.{cut}
use Rattle.fib_carousel.proofs.Least.{room_low}
use Rattle.fib_carousel.proofs.Sent.{same_head_own}
use Rattle.fib_carousel.proofs.Walk.{IsThen}

-- ---- placing an entry depends on its shape alone

cost_same : (h : Option Head) (m : Marked) → cost h m ≡ shape_cost h (shape_of m)
cost_same None m = refl
cost_same (Some h) m = refl

pub placed_step : (layout : FrameLayout) (m : Marked) (p : PackState) → placed layout m p ≡ step layout (shape_of m) p
placed_step layout m p = rw (cost_same p.head m) refl

-- the number of the last FIB
pub last_placed : (layout : FrameLayout) (ms : List Marked) (p : PackState)
    → last_number p.fib (numbers_from layout p ms) ≡ (all_placed layout ms p).fib
last_placed layout [] p = refl
last_placed layout (m ∷ ms) p = last_placed layout ms (placed layout m p)

-- ---- a run

pub step_stays : (layout : FrameLayout) (s : EntryShape) (fib used : ℕ) → used + s.size ≤ room layout fib
    → step layout s (state_at s fib used) ≡ state_at s fib (used + s.size)
step_stays layout s fib used fits = rw (same_head_own s.head, le-leb (used + s.size) (room layout fib) fits) refl

step_leaves : (layout : FrameLayout) (s : EntryShape) (fib used : ℕ) → s.size ≤ 21 → room layout fib < used + s.size
    → step layout s (state_at s fib used) ≡ state_at s (fib + 1) (2 + s.size)
step_leaves layout s fib used small full =
    rw (
      same_head_own s.head,
      lt-leb (used + s.size) (room layout fib) full,
      le-leb (2 + s.size) (room layout (fib + 1)) (omega (arith, small, room_low layout (fib + 1))),
    ) refl

steps_add : (layout : FrameLayout) (s : EntryShape) (m n : ℕ) (p : PackState)
    → steps layout s (m + n) p ≡ steps layout s n (steps layout s m p)
steps_add layout s zero n p = let none : 0 + n ≡ n = omega arith in ap (λ k. steps layout s k p) none
steps_add layout s (suc m) n p =
    let one : suc m + n ≡ suc (m + n) = omega arith in
    ap (λ k. steps layout s k p) one ∙ steps_add layout s m n (step layout s p)

pub run_fits : (layout : FrameLayout) (s : EntryShape) (fib used n : ℕ) → used + n * s.size ≤ room layout fib
    → steps layout s n (state_at s fib used) ≡ state_at s fib (used + n * s.size)
run_fits layout s fib used zero fits = ap (state_at s fib) (omega arith)
run_fits layout s fib used (suc n) fits =
    let more : suc n * s.size ≡ s.size + n * s.size = omega arith in
    let first : used + s.size ≤ room layout fib = omega (arith, fits, more) in
    let others : used + s.size + n * s.size ≤ room layout fib = omega (arith, fits, more) in
    ap (steps layout s n) (step_stays layout s fib used first) ∙ run_fits layout s fib (used + s.size) n others
    ∙ ap (state_at s fib) (omega (arith, more))

-- as many entries as fit, and the next one in the next FIB
pub run_leaves : (layout : FrameLayout) (s : EntryShape) (fib used fit left : ℕ) → s.size ≤ 21
    → used + fit * s.size ≤ room layout fib → room layout fib < used + fit * s.size + s.size
    → steps layout s (fit + suc left) (state_at s fib used) ≡ steps layout s left (state_at s (fib + 1) (2 + s.size))
run_leaves layout s fib used fit left small fits full =
    steps_add layout s fit (suc left) (state_at s fib used)
    ∙ ap (λ (q : PackState). steps layout s left (step layout s q)) (run_fits layout s fib used fit fits)
    ∙ ap (steps layout s left) (step_leaves layout s fib (used + fit * s.size) small full)

-- ---- counting a run

-- a state after an entry of this shape
pub record IsBehind (layout : FrameLayout) (s : EntryShape) (p : PackState) : Type 0 where
  pub used : p.used ≤ room layout p.fib
  pub head : p.head ≡ Some s.head

-- the state itself, from its fields
as_state : (layout : FrameLayout) (s : EntryShape) (p : PackState) → IsBehind layout s p → p ≡ state_at s p.fib p.used
as_state layout s p h = ap (λ (g : Option Head). let q : PackState = record { fib = p.fib; used = p.used; head = g } in
    q) h.head

-- the remaining entries fit
pub run_done : (layout : FrameLayout) (s : EntryShape) (p : PackState) (n fit : ℕ) → IsBehind layout s p → 1 ≤ s.size
    → fit ≡ (room layout p.fib - p.used) / s.size → n ≤ fit
    → (p.used + n * s.size ≤ room layout p.fib)
    × (steps layout s n p ≡ record { fib = p.fib; used = p.used + n * s.size; head = p.head })
run_done layout s p n fit h some is few =
    let low : n ≤ (room layout p.fib - p.used) / s.size = omega (arith, is, few) in
    let fits : p.used + n * s.size ≤ room layout p.fib = omega (arith, (le-div_iff_mul-le some).0 low, h.used) in (
      fits,
      ap (λ (q : PackState). steps layout s n q) (as_state layout s p h) ∙ run_fits layout s p.fib p.used n fits
          ∙ ap (λ (g : Option Head). let q : PackState = record { fib = p.fib; used = p.used + n * s.size; head = g } in
          q) (sym h.head),
    )

-- as many entries as fit, and then the next FIB begins
pub run_over : (layout : FrameLayout) (s : EntryShape) (p : PackState) (n fit : ℕ) → IsBehind layout s p → 1 ≤ s.size
    → s.size ≤ 21 → fit ≡ (room layout p.fib - p.used) / s.size → fit < n
    → steps layout s n p ≡ steps layout s (n - fit - 1) (record { fib = p.fib + 1; used = 2 + s.size; head = p.head })
run_over layout s p n fit h some small is many =
    let free : ℕ = room layout p.fib - p.used in
    let low : free / s.size * s.size ≤ free = div-mul-le_self free s.size in
    let left : free % s.size ≡ free - free / s.size * s.size = mod-eq-sub-div-mul free s.size in
    let less : free % s.size < s.size = mod-lt free some in
    let same : fit * s.size ≡ free / s.size * s.size = ap (λ k. k * s.size) is in
    let fits : p.used + fit * s.size ≤ room layout p.fib = omega (arith, low, same, h.used) in
    let full : room layout p.fib < p.used + fit * s.size + s.size = omega (arith, low, left, less, same, h.used) in
    let count : n ≡ fit + suc (n - fit - 1) = omega (arith, many) in
    ap (λ k. steps layout s k p) count
    ∙ ap (λ (q : PackState). steps layout s (fit + suc (n - fit - 1)) q) (as_state layout s p h)
    ∙ run_leaves layout s p.fib p.used fit (n - fit - 1) small fits full
    ∙ ap (λ (g : Option Head). steps layout s (n - fit - 1)
    (let q : PackState = record { fib = p.fib + 1; used = 2 + s.size; head = g } in q)) (sym h.head)

-- ---- the entries of a configuration

front_placed : {A : Type 0} (layout : FrameLayout) (next : Bool) (entry : A → _) (xs : List A) (rest : List _)
    (p : PackState)
    → all_placed layout (map (marked next) (map entry xs ++ rest)) p
    ≡ all_placed layout (map (marked next) rest) (all_placed layout (map (λ x. marked next (entry x)) xs) p)
front_placed layout next entry [] rest p = refl
front_placed layout next entry (x ∷ xs) rest p =
    front_placed layout next entry xs rest (placed layout (marked next (entry x)) p)

last_mapped : {A : Type 0} (layout : FrameLayout) (next : Bool) (entry : A → _) (xs : List A) (p : PackState)
    → all_placed layout (map (marked next) (map entry xs)) p ≡ all_placed layout (map (λ x. marked next (entry x)) xs) p
last_mapped layout next entry [] p = refl
last_mapped layout next entry (x ∷ xs) p = last_mapped layout next entry xs (placed layout (marked next (entry x)) p)

pub facts_placed : (layout : FrameLayout) (c : Configuration) (next : Bool) (p : PackState)
    → all_placed layout (facts_of c next) p
    ≡ all_placed layout (map (λ x. marked next (packet_entry x)) c.packets)
    (all_placed layout (map (λ x. marked next (service_entry x)) c.services)
    (all_placed layout (map (λ x. marked next (sub_entry x)) c.subs) p))
facts_placed layout c next p =
    front_placed layout next sub_entry c.subs (map service_entry c.services ++ map packet_entry c.packets) p
    ∙ front_placed layout next service_entry c.services (map packet_entry c.packets) _
    ∙ last_mapped layout next packet_entry c.packets _

-- the entries of services are placed one by one
pub service_placed : (layout : FrameLayout) (next : Bool) (xs : List Service) (i : ℕ) (x : Service) (p q : PackState)
    (shape : EntryShape) (whole : PackState) → slice_get xs i ≡ Some x
    → shape.head ≡ head_of (marked next (service_entry x)) → shape.size ≡ size_of (marked next (service_entry x))
    → IsThen layout shape p q
    → all_placed layout (map (λ s. marked next (service_entry s)) (drop i xs)) p ≡ whole
    → all_placed layout (map (λ s. marked next (service_entry s)) (drop (i + 1) xs)) q ≡ whole
service_placed layout next xs i x p q shape whole there head size then_is so_far =
    let on : all_placed layout (map (λ s. marked next (service_entry s)) (drop i xs)) p
    ≡ all_placed layout (map (λ s. marked next (service_entry s)) (drop (i + 1) xs))
    (placed layout (marked next (service_entry x)) p) =
    ap (λ (ys : List Service). all_placed layout (map (λ s. marked next (service_entry s)) ys) p) (cut xs i x there) in
    ap (all_placed layout (map (λ s. marked next (service_entry s)) (drop (i + 1) xs)))
    (then_is (marked next (service_entry x)) head size) ∙ sym on ∙ so_far

both_placed : (layout : FrameLayout) (ms ns : List Marked) (p : PackState)
    → all_placed layout (ms ++ ns) p ≡ all_placed layout ns (all_placed layout ms p)
both_placed layout [] ns p = refl
both_placed layout (m ∷ ms) ns p = both_placed layout ms ns (placed layout m p)

-- the FIB of the last entry gives the number of pages
pub one_counted : (layout : FrameLayout) (c : Configuration) (last : PackState)
    → last ≡ all_placed layout (facts_of c false) start
    → last.fib / used_fibs layout + 1 ≡ rounds layout (page_set c None)
one_counted layout c last is =
    ap (λ (q : PackState). q.fib / used_fibs layout + 1) is
    ∙ ap (λ n. n / used_fibs layout + 1) (sym (last_placed layout (facts_of c false) start))

pub two_counted : (layout : FrameLayout) (c d : Configuration) (first last : PackState)
    → first ≡ all_placed layout (facts_of c false) start → last ≡ all_placed layout (facts_of d true) first
    → last.fib / used_fibs layout + 1 ≡ rounds layout (page_set c (Some d))
two_counted layout c d first last is then_is =
    let whole : last ≡ all_placed layout (facts_of c false ++ facts_of d true) start =
    then_is ∙ ap (all_placed layout (facts_of d true)) is
    ∙ sym (both_placed layout (facts_of c false) (facts_of d true) start) in
    ap (λ (q : PackState). q.fib / used_fibs layout + 1) whole
    ∙ ap (λ n. n / used_fibs layout + 1) (sym (last_placed layout (facts_of c false ++ facts_of d true) start))

pub subs_placed : (layout : FrameLayout) (next : Bool) (xs : List Sub) (p : PackState)
    → all_placed layout (map (λ x. marked next (sub_entry x)) xs) p
    ≡ steps layout (sub_shape next) (length xs) p
subs_placed layout next [] p = refl
subs_placed layout next (x ∷ xs) p =
    subs_placed layout next xs (placed layout (marked next (sub_entry x)) p)
    ∙ ap (λ (q : PackState). steps layout (sub_shape next) (length xs) q)
    (placed_step layout (marked next (sub_entry x)) p)

pub packets_placed : (layout : FrameLayout) (next : Bool) (xs : List Packet) (p : PackState)
    → all_placed layout (map (λ x. marked next (packet_entry x)) xs) p
    ≡ steps layout (packet_shape next) (length xs) p
packets_placed layout next [] p = refl
packets_placed layout next (x ∷ xs) p =
    packets_placed layout next xs (placed layout (marked next (packet_entry x)) p)
    ∙ ap (λ (q : PackState). steps layout (packet_shape next) (length xs) q)
    (placed_step layout (marked next (packet_entry x)) p)

pub config_placed : (layout : FrameLayout) (c : Configuration) (next : Bool) (p subs services last : PackState)
    (s t : EntryShape) (m n : ℕ)
    → s ≡ sub_shape next → m ≡ length c.subs → subs ≡ steps layout s m p
    → services ≡ all_placed layout (map (λ x. marked next (service_entry x)) c.services) subs
    → t ≡ packet_shape next → n ≡ length c.packets → last ≡ steps layout t n services
    → last ≡ all_placed layout (facts_of c next) p
config_placed layout c next p subs services last s t m n sub_is sub_count ran middle packet_is packet_count ended =
    let front : subs ≡ all_placed layout (map (λ x. marked next (sub_entry x)) c.subs) p =
    ran ∙ ap (λ (r : EntryShape). steps layout r m p) sub_is ∙ ap (λ k. steps layout (sub_shape next) k p) sub_count
    ∙ sym (subs_placed layout next c.subs p) in
    let behind : last ≡ all_placed layout (map (λ x. marked next (packet_entry x)) c.packets) services =
    ended ∙ ap (λ (r : EntryShape). steps layout r n services) packet_is
    ∙ ap (λ k. steps layout (packet_shape next) k services) packet_count
    ∙ sym (packets_placed layout next c.packets services) in
    behind
    ∙ ap (all_placed layout (map (λ x. marked next (packet_entry x)) c.packets))
    (middle ∙ ap (all_placed layout (map (λ x. marked next (service_entry x)) c.services)) front)
    ∙ sym (facts_placed layout c next p)
