-- The entries and the announcements of a run are as the checker requires, frame by frame.
use Rattle.stream_laws.proofs.Words.{◌%◌, ◌&&◌, ◌+◌, ◌-◌, ◌<◌, ◌==◌, ◌||◌, ◌∙◌, ◌≡◌, ◌≢◌, ◌≤◌, ◌⊎◌, Airs, Bool}
use Rattle.stream_laws.proofs.Words.{CommittedBy, Configuration, EnsembleInformation, Holds, I, II, III, IV, IsCode}
use Rattle.stream_laws.proofs.Words.{IsPartial, IsSound, Known, KnowsAt, KnowsBy, LeftBy, Links, List, Listening, Mode}
use Rattle.stream_laws.proofs.Words.{Moment, None, Nothing, Option, Plan, Program, Some, State, SwapsOn, Waits, airs}
use Rattle.stream_laws.proofs.Words.{ap, arith, began_early, bits_of, can_fall_at, change_of, count_step, ensemble_of}
use Rattle.stream_laws.proofs.Words.{ensemble_right, ensemble_within, eq-eqb, eqb-true, false, false≢true, has_begun}
use Rattle.stream_laws.proofs.Words.{has_ensemble, has_flags, has_low, inl, inr, is_due, is_made, is_noticed, is_some}
use Rattle.stream_laws.proofs.Words.{last_flags, layout_mode, links, listening, low_of_swap, lt-ltb, ne_eqb, not}
use Rattle.stream_laws.proofs.Words.{noticed, noticed_from, none_some, noticed_information, occurrence_of, or_right}
use Rattle.stream_laws.proofs.Words.{or_true, overlap, past_end, refl, shown, some_is, split_le, subst, suc, sym, true}
use Rattle.stream_laws.proofs.Words.{unwrap_or, whole_of, zero, ℕ}
use Rattle.stream_laws.proofs.Units.{units_fine}
use Rattle.stream_laws.proofs.Agreeing.{none_or_some}
use Rattle.stream_laws.proofs.Words.{swap_not_now, long_notice, zero_or_more}

-- ---- between two frames

pub record IsBetween (plan : Plan) (past : List Moment) (s : State) : Type 0 where
  pub heard : Listening
  pub is : listening past ≡ Some heard
  pub knows : KnowsAt plan s Nothing Nothing heard
  pub fresh : has_ensemble past ≡ false
  pub pending : (low : ℕ) → heard.awaited ≡ Some low → has_begun past ≡ true
  pub early : began_early past ≡ true → (heard.awaited ≡ None) × (k : ℕ) × (s.left ≡ Some k) × (k < plan.notice)
  pub flags : (low : ℕ) → heard.awaited ≡ Some low → last_flags past ≡ bits_of (change_of s.current s.next)

-- a swap is awaited
pub record Awaits (plan : Plan) (left : Option ℕ) (n : Configuration) (count low : ℕ) (l : Listening) : Type 0 where
  pub k : ℕ
  pub is : left ≡ Some k
  pub below : k < plan.notice
  pub low_is : low ≡ (count + k) % 5000 % 250
  pub next : IsPartial (whole_of n) Nothing l.next

pub awaits_by : (plan : Plan) (left : Option ℕ) (c n : Configuration) (count : ℕ) (l : Listening) (low : ℕ)
    → KnowsBy plan left c n count Nothing Nothing l → l.awaited ≡ Some low → Awaits plan left n count low l
awaits_by plan None c n count l low h e = none_some low l.awaited h.awaits e
awaits_by plan (Some k) c n count l low h e = elim (split_le plan.notice k) [
  | inl late ↦ none_some low l.awaited (h.outside late).awaits e
  | inr below ↦ (
      let at = h.inside below in
      record {
        k = k;
        is = refl;
        below = below;
        low_is = subst (λ (o : Option ℕ). Waits plan k count o) (sym at.knows.awaits ∙ e) at.waits;
        next = at.knows.next;
      }
      )
]

-- a swap that is due is awaited
pub due_awaits : (plan : Plan) (left : Option ℕ) (c n : Configuration) (count : ℕ) (l : Listening) → 12 ≤ plan.notice
    → left ≡ Some 0 → KnowsBy plan left c n count Nothing Nothing l → l.awaited ≡ None → ⊥
due_awaits plan None c n count l long is h none = absurd cc
due_awaits plan (Some k) c n count l long is h none =
    let zero_left : k ≡ 0 = cc in
    let at = h.inside (omega (arith, zero_left, long)) in
    let same : at.awaited ≡ None = sym at.knows.awaits ∙ none in
    let waits : Waits plan 0 count None =
    subst (λ (o : Option ℕ). Waits plan 0 count o) same
    (subst (λ (j : ℕ). Waits plan j count at.awaited) zero_left at.waits) in
    long_notice (layout_mode plan.layout) plan.notice count long waits

-- ---- the state of the frame

abbrev pub on_air : Plan → State → Bool
on_air plan u = is_noticed plan.notice u.left

pub flags_on : (plan : Plan) (u : State) → Airs plan u → on_air plan u ≡ true → has_flags (ensemble_of plan u) ≡ true
flags_on plan u a on =
    let info = noticed_information plan u on in
    let within = ensemble_within plan u a in
    let more : 0 < (ensemble_of plan u).change = within.flagged.0 (ap is_some info.occurrence) in
    ap not (ne_eqb (ensemble_of plan u).change 0 (λ none. omega (arith, more, none)))

-- a swap that is awaited and not due is awaited in the frame
pub record IsStill (s u : State) (k : ℕ) : Type 0 where
  pub left : u.left ≡ Some k
  pub current : u.current ≡ s.current
  pub next : u.next ≡ s.next

pub still : (plan : Plan) (s u : State) (k : ℕ) → Links plan s u → s.left ≡ Some k → 1 ≤ k → IsStill s u k
still plan s u k link is some =
    let not_due : is_due s.left ≡ false = ap is_due is ∙ ne_eqb k 0 (λ none. omega (arith, some, none)) in
    let by = subst (λ (o : Option ℕ). LeftBy plan s.count o s.next u.left u.next) is (link.left not_due) in
    record { left = by.0; current = link.current not_due; next = by.1 }

pub on_by : (plan : Plan) (u : State) (k : ℕ) → u.left ≡ Some k → 1 ≤ k → k ≤ plan.notice → on_air plan u ≡ true
on_by plan u k is some within = ap (is_noticed plan.notice) is ∙ noticed plan.notice k some within

-- a count on which a swap falls
falls_by : (m : Mode) (x : ℕ) → x % count_step m ≡ 0 → can_fall_at (count_step m) (x % 5000 % 250) ≡ true
falls_by I x e =
    ap (λ b. b && ((x % 5000 % 250) % 2 == 0 || false)) (lt-ltb (x % 5000 % 250) 250 (omega arith))
    ∙ ap (λ b. b || false) (eq-eqb (x % 5000 % 250 % 2) 0 (omega (arith, e)))
falls_by II x e =
    let below : x % 5000 % 250 < 250 = omega arith in
    ap (λ b. b && ((x % 5000 % 250) % 2 == 0 || true)) (lt-ltb (x % 5000 % 250) 250 below)
    ∙ or_true ((x % 5000 % 250) % 2 == 0)
falls_by III x e =
    let below : x % 5000 % 250 < 250 = omega arith in
    ap (λ b. b && ((x % 5000 % 250) % 2 == 0 || true)) (lt-ltb (x % 5000 % 250) 250 below)
    ∙ or_true ((x % 5000 % 250) % 2 == 0)
falls_by IV x e =
    let below : x % 5000 % 250 < 250 = omega arith in
    let even : x % 5000 % 250 % 2 ≡ 0 = omega (arith, e) in
    ap (λ b. b && ((x % 5000 % 250) % 2 == 0 || false)) (lt-ltb (x % 5000 % 250) 250 below)
    ∙ ap (λ b. b || false) (eq-eqb (x % 5000 % 250 % 2) 0 even)

pub left_of : (plan : Plan) (left : Option ℕ) → is_noticed plan.notice left ≡ true → (k : ℕ) × (left ≡ Some k) × (1 ≤ k)
    × (k ≤ plan.notice)
left_of plan None e = absurd (false≢true e)
left_of plan (Some k) e = (let both = noticed_from plan.notice k e in (k, refl, both.0, both.1))

pub head_falls : (plan : Plan) (u : State) → Airs plan u → has_flags (ensemble_of plan u) ≡ true
    → can_fall_at (count_step (layout_mode plan.layout)) (occurrence_of (ensemble_of plan u)) ≡ true
head_falls plan u a flags = by (on_air plan u) refl
  where
    by : (b : Bool) → on_air plan u ≡ b → can_fall_at (count_step (layout_mode plan.layout))
        (occurrence_of (ensemble_of plan u)) ≡ true
    by true on =
        let info = noticed_information plan u on in
        let there = left_of plan u.left on in
        let swaps = subst (λ (o : Option ℕ). SwapsOn plan u.count o) there.1 a.swaps in
        let low = ap (λ o. unwrap_or o 0) info.occurrence ∙ ap (low_of_swap u.count) there.1 in
        ap (can_fall_at (count_step (layout_mode plan.layout))) low
        ∙ falls_by (layout_mode plan.layout) (u.count + there.0) swaps
    by false off =
        let none : (ensemble_of plan u).change ≡ 0 = ((ensemble_right plan u).unflagged off).0 in
        absurd (false≢true (sym (ap not (eq-eqb (ensemble_of plan u).change 0 none)) ∙ flags))

both_not : (a b : Bool) → a ≡ true → b ≡ true → (not a || not b) ≡ false
both_not true true x y = refl
both_not true false x y = absurd (false≢true y)
both_not false b x y = absurd (false≢true x)

pub due_low : (count low k : ℕ) → count < 5000 → k ≡ 0 → low ≡ (count + k) % 5000 % 250 → count % 250 ≡ low
due_low count low k below none is = omega (arith, below, none, is)

-- ---- a swap is made exactly where it is due

-- a swap is made exactly where it is due
pub made_where_due : (p : Program) (ts : List Known) → IsCode p ts → (s : State) → Holds p ts s → (past : List Moment)
    → (h : IsBetween p.plan past s) → is_made h.heard.awaited (ensemble_of p.plan (shown p s)) ≡ is_due s.left
made_where_due p ts c s holds past h = by (none_or_some h.heard.awaited) (due_or_not s.left)
  where
    due_or_not : (left : Option ℕ) → (left ≡ Some 0) ⊎ (is_due left ≡ false)
    due_or_not None = inr refl
    due_or_not (Some zero) = inl refl
    due_or_not (Some (suc k)) = inr (ne_eqb (suc k) 0 (λ e. omega (arith, e)))

    made_low : (low : ℕ) → h.heard.awaited ≡ Some low → is_made h.heard.awaited (ensemble_of p.plan (shown p s))
        ≡ ((ensemble_of p.plan (shown p s)).change == 0 || (ensemble_of p.plan (shown p s)).count % 250 == low)
    made_low low some = ap (λ o. is_made o (ensemble_of p.plan (shown p s))) some

    count : (ensemble_of p.plan (shown p s)).count ≡ s.count
    count = (ensemble_right p.plan (shown p s)).count ∙ (links p ts c s holds).count

    both_false : (a b : Bool) → not a ≡ true → b ≡ false → (a || b) ≡ false
    both_false true b x y = absurd (false≢true x)
    both_false false b x y = y

    by : (h.heard.awaited ≡ None) ⊎ ((low : ℕ) × (h.heard.awaited ≡ Some low)) → (s.left ≡ Some 0)
        ⊎ (is_due s.left ≡ false) → is_made h.heard.awaited (ensemble_of p.plan (shown p s)) ≡ is_due s.left
    by (inl none) (inl now) = absurd (due_awaits p.plan s.left s.current s.next s.count h.heard
        (omega (arith, c.program.planned.notice_from)) now h.knows none)
    by (inl none) (inr apart) = ap (λ o. is_made o (ensemble_of p.plan (shown p s))) none ∙ sym apart
    by (inr (low, some)) (inl now) =
        let w = awaits_by p.plan s.left s.current s.next s.count h.heard low h.knows some in
        let zero_left : w.k ≡ 0 = some_is w.k 0 (sym w.is ∙ now) in
        let at : s.count % 250 ≡ low = due_low s.count low w.k holds.tracked.count zero_left w.low_is in
        made_low low some ∙ or_right ((ensemble_of p.plan (shown p s)).change == 0) _
        (eq-eqb ((ensemble_of p.plan (shown p s)).count % 250) low (ap (λ n. n % 250) count ∙ at))
        ∙ sym (ap is_due now)
    by (inr (low, some)) (inr apart) =
        let w = awaits_by p.plan s.left s.current s.next s.count h.heard low h.knows some in
        let more : 1 ≤ w.k = elim (zero_or_more w.k) [
          | inl none ↦ absurd (false≢true (sym (sym (ap is_due w.is ∙ eq-eqb w.k 0 none) ∙ apart)))
          | inr some_left ↦ some_left
        ] in
        let on = on_by p.plan (shown p s) w.k (still p.plan s (shown p s) w.k (links p ts c s holds) w.is more).left
        more (omega (arith, w.below)) in
        let flags = flags_on p.plan (shown p s) (airs p ts c s holds) on in
        let short : w.k < 250 = omega (arith, w.below, c.program.planned.notice_to) in
        let other : s.count % 250 ≢ low = swap_not_now s.count low w.k holds.tracked.count more short w.low_is in
        made_low low some ∙ both_false ((ensemble_of p.plan (shown p s)).change == 0) _ flags
        (ne_eqb ((ensemble_of p.plan (shown p s)).count % 250) low (λ e. other (sym (ap (λ n. n % 250) count) ∙ e)))
        ∙ sym apart

-- ---- a FIG 0/0 of the frame, given what was heard before

pub record IsHeadOk (plan : Plan) (u : State) (l : Listening) (flags : ℕ) (early : Bool) : Type 0 where
  pub made : is_made l.awaited (ensemble_of plan u) ≡ true
      → ((ensemble_of plan u).count % 250 == unwrap_or l.awaited 0) ≡ true
  pub again : is_made l.awaited (ensemble_of plan u) ≡ false
      → (has_low l.awaited && (not ((ensemble_of plan u).change == flags)
      || not (occurrence_of (ensemble_of plan u) == unwrap_or l.awaited 0))) ≡ false
  pub flagged : early ≡ true → has_flags (ensemble_of plan u) ≡ true
  pub units : is_made l.awaited (ensemble_of plan u) ≡ true → (overlap l.next.subs ≡ None)
      × (past_end l.next.subs ≡ None)

pub head_ok : (p : Program) (ts : List Known) → IsCode p ts → (s : State) → Holds p ts s → (past : List Moment)
    → (h : IsBetween p.plan past s) → IsHeadOk p.plan (shown p s) h.heard (last_flags past) (began_early past)
head_ok p ts c s holds past h = record {
  made = λ is. made_by (none_or_some h.heard.awaited) is;
  again = λ is. again_by (none_or_some h.heard.awaited) is;
  units = λ is. units_by (none_or_some h.heard.awaited) is;
  flagged = λ early.
      let there = h.early early in
      elim (zero_or_more there.1) [
        | inl none ↦ absurd (due_awaits p.plan s.left s.current s.next s.count h.heard
            (omega (arith, c.program.planned.notice_from)) (there.2 ∙ ap Some none) h.knows there.0)
        | inr some ↦ flags_on p.plan (shown p s) (airs p ts c s holds)
            (on_by p.plan (shown p s) there.1
            (still p.plan s (shown p s) there.1 (links p ts c s holds) there.2 some).left some (omega (arith, there.3)))
      ];
}
  where
    count : (ensemble_of p.plan (shown p s)).count ≡ s.count
    count = (ensemble_right p.plan (shown p s)).count ∙ (links p ts c s holds).count

    made_by : (h.heard.awaited ≡ None) ⊎ ((low : ℕ) × (h.heard.awaited ≡ Some low))
        → is_made h.heard.awaited (ensemble_of p.plan (shown p s)) ≡ true
        → ((ensemble_of p.plan (shown p s)).count % 250 == unwrap_or h.heard.awaited 0) ≡ true
    made_by (inl none) is = absurd (false≢true (sym (ap (λ o. is_made o (ensemble_of p.plan (shown p s))) none) ∙ is))
    made_by (inr (low, some)) is =
        let e : EnsembleInformation = ensemble_of p.plan (shown p s) in
        let w = awaits_by p.plan s.left s.current s.next s.count h.heard low h.knows some in
        let now : w.k ≡ 0 = eqb-true w.k 0 (sym (ap is_due w.is) ∙ sym (made_where_due p ts c s holds past h) ∙ is) in
        let at : s.count % 250 ≡ low = due_low s.count low w.k holds.tracked.count now w.low_is in
        ap (λ o. e.count % 250 == unwrap_or o 0) some ∙ eq-eqb (e.count % 250) low (ap (λ n. n % 250) count ∙ at)

    committed : (left : Option ℕ) (k : ℕ) → left ≡ Some k → CommittedBy p.plan left s.current s.next → IsSound s.next
    committed None k is at = absurd cc
    committed (Some j) k is at = at.after.sound

    units_by : (h.heard.awaited ≡ None) ⊎ ((low : ℕ) × (h.heard.awaited ≡ Some low))
        → is_made h.heard.awaited (ensemble_of p.plan (shown p s)) ≡ true
        → (overlap h.heard.next.subs ≡ None) × (past_end h.heard.next.subs ≡ None)
    units_by (inl none) is = absurd (false≢true (sym (ap (λ o. is_made o (ensemble_of p.plan (shown p s))) none) ∙ is))
    units_by (inr (low, some)) is =
        let w = awaits_by p.plan s.left s.current s.next s.count h.heard low h.knows some in
        units_fine s.next Nothing h.heard.next.subs (committed s.left w.k w.is holds.between.kept.committed)
        holds.tracked.next w.next.subs

    again_by : (h.heard.awaited ≡ None) ⊎ ((low : ℕ) × (h.heard.awaited ≡ Some low))
        → is_made h.heard.awaited (ensemble_of p.plan (shown p s)) ≡ false
        → (has_low h.heard.awaited
        && (not ((ensemble_of p.plan (shown p s)).change == last_flags past)
        || not (occurrence_of (ensemble_of p.plan (shown p s)) == unwrap_or h.heard.awaited 0))) ≡ false
    again_by (inl none) is =
        ap (λ o. has_low o && (not ((ensemble_of p.plan (shown p s)).change == last_flags past)
        || not (occurrence_of (ensemble_of p.plan (shown p s)) == unwrap_or o 0))) none
    again_by (inr (low, some)) is =
        let plan : Plan = p.plan in
        let u : State = shown p s in
        let e : EnsembleInformation = ensemble_of plan u in
        let link = links p ts c s holds in
        let w = awaits_by plan s.left s.current s.next s.count h.heard low h.knows some in
        let more : 1 ≤ w.k = elim (zero_or_more w.k) [
          | inl none ↦ absurd (false≢true (sym is ∙ made_where_due p ts c s holds past h ∙ ap is_due w.is
              ∙ eq-eqb w.k 0 none))
          | inr left ↦ left
        ] in
        let stays = still plan s u w.k link w.is more in
        let info = noticed_information plan u (on_by plan u w.k stays.left more (omega (arith, w.below))) in
        let change : e.change ≡ last_flags past = cc (info.change, stays.current, stays.next, h.flags low some) in
        let occurs : occurrence_of e ≡ low = cc (info.occurrence, stays.left, link.count, w.low_is) in
        ap (λ o. has_low o && (not (e.change == last_flags past) || not (occurrence_of e == unwrap_or o 0))) some
        ∙ both_not (e.change == last_flags past) (occurrence_of e == low) (eq-eqb e.change (last_flags past) change)
        (eq-eqb (occurrence_of e) low occurs)
