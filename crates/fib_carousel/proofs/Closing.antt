-- A FIB closed after its last entry: the next one goes past it either way.
use Rattle.fib_carousel.proofs.Words.{[], ◌+◌, ◌-◌, ◌<◌, ◌∙◌, ◌∷◌, ◌≡◌, ◌≤◌, ◌⊎◌, AllByRecursion, AreSendable, Entry}
use Rattle.fib_carousel.proofs.Words.{EntryShape, FrameLayout, HasPassed, Head, IfSome, IsAtFib, IsSendable}
use Rattle.fib_carousel.proofs.Words.{IsThenWithin, List, Long, Marked, NextIsAfter, None, Option, PackState, Position}
use Rattle.fib_carousel.proofs.Words.{Short, Sid, Some, ap, arith, closed, cost, drop, entries_in_fib, entry_size}
use Rattle.fib_carousel.proofs.Words.{ext_of, fib_entries, get_or, if◌then◌else◌, inl, inr, is_some, last_number}
use Rattle.fib_carousel.proofs.Words.{le-leb, length, length-drop, lt-leb, nat_le, numbers_from, opened, packing}
use Rattle.fib_carousel.proofs.Words.{placed, refl, room, sid_size, size_of, state_at, subst, suc, sym, take, zero, ℕ}
use Rattle.mux_types.specs.declared.entry.Entry.TheVariants.{Ensemble as EnsembleOf, Sub as SubOf, Short as ShortOf}
use Rattle.mux_types.specs.declared.entry.Entry.TheVariants.{Service as ServiceOf, Packet as PacketOf}
use Rattle.fib_carousel.proofs.Steps.{in_fib_other, in_fib_past}
use Rattle.fib_carousel.proofs.Least.{placed_cases, room_high, cost_low, numbers_rise}
use Rattle.fib_carousel.proofs.Pieces.{last_rises}
use Rattle.fib_carousel.proofs.Walk.{Passed, Walked, rest_in, nothing_behind}

-- ---- an entry after a FIB whose thirty bytes are taken
full_leaves : (layout : FrameLayout) (m : Marked) (p : PackState) → p.used ≡ 30 → 1 ≤ size_of m
    → placed layout m p ≡ (if nat_le (2 + size_of m) (room layout (p.fib + 1)) then opened m (p.fib + 1) else opened m
    (p.fib + 2))
full_leaves layout m p full some =
    let over : room layout p.fib < p.used + cost p.head m =
    omega (arith, room_high layout p.fib, full, cost_low p.head m, some) in
    rw (lt-leb (p.used + cost p.head m) (room layout p.fib) over) refl

pub full_opens : (layout : FrameLayout) (m : Marked) (p : PackState) (number : ℕ) → p.used ≡ 30 → 1 ≤ size_of m
    → p.fib + 1 ≡ number → 2 + size_of m ≤ room layout number
    → placed layout m p ≡ opened m number
full_opens layout m p number full some next fits =
    let here : 2 + size_of m ≤ room layout (p.fib + 1) = subst (λ k. 2 + size_of m ≤ room layout k) (sym next) fits in
    full_leaves _ m p full some ∙ ap (λ b. if b then opened m (p.fib + 1) else opened m (p.fib + 2))
    (le-leb (2 + size_of m) (room layout (p.fib + 1)) here) ∙ ap (opened m) next

-- the state after it, if the room is known
pub closed_within : (layout : FrameLayout) (s : EntryShape) (number known : ℕ) (p : PackState) (r : Option PackState)
    → p.used ≡ 30 → 1 ≤ s.size → p.fib + 1 ≡ number → known ≡ room layout number
    → IfSome r (λ (q : PackState). (2 + s.size ≤ known) × (q ≡ state_at s number (2 + s.size)))
    → IfSome r (λ (q : PackState). IsThenWithin layout s number p q)
closed_within layout s number known p None full some next is h = tt
closed_within layout s number known p (Some q) full some next is h =
    let fib : q.fib ≡ number = ap (λ (r : PackState). r.fib) h.1 in
    let used : q.used ≡ 2 + s.size = ap (λ (r : PackState). r.used) h.1 in
    record {
      is = λ m head size.
          h.1
          ∙ ap (λ k. state_at s number (2 + k)) size
          ∙ ap (λ (g : Head). let t : PackState = record { fib = number; used = 2 + size_of m; head = Some g } in t)
          head
          ∙ sym (full_opens layout m p number full (omega (arith, some, size)) next (omega (arith, h.0, is, size)));
      used = omega (arith, used, h.0, is, room_high layout number);
      low = omega (arith, fib);
      near = omega (arith, fib, next);
    }

-- ---- the remaining entries go past a FIB
head_is : (m e : Marked) (xs ys rest : List Marked) → xs ≡ e ∷ ys → xs ≡ m ∷ rest → e ≡ m
head_is m e xs ys rest h k = ap (λ zs. get_or zs 0 m) (sym h ∙ k)

-- because the next one does
pub past_entry : (layout : FrameLayout) (ms : List Marked) (n : ℕ) (c : Position) (q : PackState)
    → Passed layout ms c.index c.state q → n < q.fib → NextIsAfter layout ms n c
past_entry layout ms n c q s over m rest h =
    let same : s.entry ≡ m = head_is m s.entry (drop c.index ms) (drop (c.index + 1) ms) rest s.row h in
    subst (λ (e : Marked). n < (placed layout e c.state).fib) same (subst (λ (r : PackState). n < r.fib) s.next over)

-- because the room is too small for the shortest entry
pub shortest : (m : Marked) → IsSendable m → 3 ≤ size_of m
shortest m s = by m.entry s.organization
  where
    sid_low : (sid : Sid) → 2 ≤ sid_size sid
    sid_low (Short n) = omega arith
    sid_low (Long n) = omega arith

    org_low : (org : Option ℕ) → 3 ≤ (if is_some org then 7 else 5)
    org_low None = omega arith
    org_low (Some n) = omega arith

    by : (e : Entry) → 1 ≤ ext_of e → 3 ≤ entry_size e
    by (EnsembleOf e) h = absurd (omega (arith, h))
    by (SubOf s) h = omega arith
    by (ShortOf s) h = omega arith
    by (ServiceOf s) h = omega (arith, sid_low s.sid)
    by (PacketOf p) h = org_low p.ca_org

each_left : (P : Marked → Type 0) (ms : List Marked) (i : ℕ) → AllByRecursion P ms → AllByRecursion P (drop i ms)
each_left P [] zero h = tt
each_left P [] (suc i) h = tt
each_left P (m ∷ ms) zero h = h
each_left P (m ∷ ms) (suc i) h = each_left P ms i h.1

pub past_full : (layout : FrameLayout) (ms : List Marked) (n : ℕ) (c : Position) → AreSendable ms → c.state.fib ≡ n
    → room layout n < c.state.used + 3 → NextIsAfter layout ms n c
past_full layout ms n c sendable here full m rest h =
    let left = subst (λ (xs : List Marked). AreSendable xs) h (each_left IsSendable ms c.index sendable) in
    let tight = subst (λ k. room layout k < c.state.used + 3) (sym here) full in
    elim (placed_cases layout m c.state) [
      | inl s ↦ absurd (omega (arith, s.fits, tight, shortest m left.0, cost_low c.state.head m))
      | inr s ↦ omega (arith, ap (λ (q : PackState). q.fib) s.is, s.above, here)
    ]

-- ---- a closed state places later entries the same way
placed_closed : (layout : FrameLayout) (m : Marked) (p : PackState) (n : ℕ) → p.fib ≤ n → n < (placed layout m p).fib
    → placed layout m (closed p) ≡ placed layout m p
placed_closed layout m p n low past =
    elim (placed_cases layout m p) [
      | inl s ↦ absurd (omega (arith, ap (λ (q : PackState). q.fib) s.is, low, past))
      | inr s ↦
          rw (
            lt-leb (30 + (2 + size_of m)) (room layout p.fib) (omega (arith, room_high layout p.fib)),
            lt-leb (p.used + cost p.head m) (room layout p.fib) s.full,
          ) refl
    ]

numbers_closed : (layout : FrameLayout) (p : PackState) (n : ℕ) (es : List Marked) → p.fib ≤ n
    → ((m : Marked) (rest : List Marked) → es ≡ m ∷ rest → n < (placed layout m p).fib)
    → numbers_from layout (closed p) es ≡ numbers_from layout p es
numbers_closed layout p n [] low past = refl
numbers_closed layout p n (e ∷ es) low past =
    ap (λ (q : PackState). q.fib ∷ numbers_from layout q es) (placed_closed layout e p n low (past e es refl))

pub closed_stands : (layout : FrameLayout) (ms : List Marked) (n : ℕ) (c d : Position)
    → d ≡ record { index = c.index; state = closed c.state } → IsAtFib layout ms (n + 1) c → HasPassed layout ms n c
    → NextIsAfter layout ms n c
    → IsAtFib layout ms (n + 1) d
closed_stands layout ms n c d is s passed past =
    let same = numbers_closed layout c.state n (drop c.index ms) passed.fib past in
    let e : Position = record { index = c.index; state = closed c.state } in
    let stands : IsAtFib layout ms (n + 1) e = record {
      index = s.index;
      used = omega arith;
      fib = s.fib;
      below = s.below;
      rest = λ m le. ap (λ ns. entries_in_fib m (drop c.index ms) ns) same ∙ s.rest m le;
      last = ap (last_number c.state.fib) same ∙ s.last;
    } in
    subst (λ (p : Position). IsAtFib layout ms (n + 1) p) (sym is) stands

-- ---- the remaining entries, if they go past a FIB
none_past : (layout : FrameLayout) (n : ℕ) (p : PackState) (es : List Marked)
    → ((m : Marked) (rest : List Marked) → es ≡ m ∷ rest → n < (placed layout m p).fib)
    → entries_in_fib n es (numbers_from layout p es) ≡ []
none_past layout n p [] past = refl
none_past layout n p (e ∷ es) past =
    let q : PackState = placed layout e p in
    let over : n < q.fib = past e es refl in
    in_fib_other n q.fib e es (numbers_from layout q es) (λ h. omega (arith, h, over))
    ∙ in_fib_past n q.fib es (numbers_from layout q es) over (numbers_rise layout q es q.fib (omega arith))

some_left : (layout : FrameLayout) (n : ℕ) (p : PackState) (es : List Marked) (top : ℕ)
    → ((m : Marked) (rest : List Marked) → es ≡ m ∷ rest → n < (placed layout m p).fib)
    → last_number p.fib (numbers_from layout p es) ≡ top
    → (es ≡ []) ⊎ (n < top)
some_left layout n p [] top past last = inl refl
some_left layout n p (e ∷ es) top past last =
    let q : PackState = placed layout e p in
    let above = last_rises q.fib (numbers_from layout q es) (numbers_rise layout q es q.fib (omega arith)) in
    inr (omega (arith, above, past e es refl, last))

pub walked_past : (layout : FrameLayout) (ms : List Marked) (n from : ℕ) (c : Position) → NextIsAfter layout ms n c
    → Walked layout ms n from c → take (c.index - from) (drop from ms) ≡ fib_entries layout n ms
walked_past layout ms n from c past w =
    nothing_behind (take (c.index - from) (drop from ms)) (rest_in layout n ms c.index c.state)
    (fib_entries layout n ms) (none_past layout n c.state (drop c.index ms) past) w.here

pub passed_past : (layout : FrameLayout) (ms : List Marked) (n from : ℕ) (c : Position) → NextIsAfter layout ms n c
    → Walked layout ms n from c → HasPassed layout ms n c
passed_past layout ms n from c past w = record {
  fib = w.low;
  left =
      elim (some_left layout n c.state (drop c.index ms) (last_number 0 (packing layout ms)) past w.later.last) [
        | inl e ↦
            inl (omega (arith, ap length e, length-drop c.index ms, w.later.index))
        | inr lt ↦ inr lt
      ];
}
