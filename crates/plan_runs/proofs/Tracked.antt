-- The page in turn and the counts, from frame to frame.
use Rattle.plan_runs.proofs.Words.{◌%◌, ◌+◌, ◌-◌, ◌<◌, ◌∙◌, ◌≡◌, ◌≤◌, ◌⊎◌, Bool, Configuration, FrameLayout, I}
use Rattle.plan_runs.proofs.Words.{IsConfiguration, IsProgram, IsTyping, Known, List, Marked, Mode, None, Option, Plan}
use Rattle.plan_runs.proofs.Words.{Program, Some, State, after_burst, after_frame, and_parts, ap, arith, cond}
use Rattle.plan_runs.proofs.Words.{count_step, eqb-false, eqb-true, false, inl, inr, is_first_noticed}
use Rattle.plan_runs.proofs.Words.{is_noticed, layout_mode, leb, leb-false, leb-true, left_after_frame, ltb-true}
use Rattle.plan_runs.proofs.Words.{nat_le, nat_lt, page_after, page_set, refl, rounds, sent_rounds, shown, subst, suc}
use Rattle.plan_runs.proofs.Words.{sym, true, with_next_counts, with_swap, zero, ℕ}
use Rattle.plan_runs.proofs.Knowledge.{IsAhead, IsOnAir, CommittedBy}
use Rattle.plan_runs.proofs.Steps.{Suspends}
use Rattle.plan_runs.proofs.Between.{Between, frame_goes}
use Rattle.plan_runs.proofs.Carries.{IsNewly, LeftBy, Carries, frame_carries}

-- ---- pages in turn

-- the page in turn in frame k of a phase
pub page_of : ℕ → ℕ → ℕ
page_of pages zero = 0
page_of pages (suc k) = page_after pages (page_of pages k)

pub page_of_first : (pages : ℕ) → page_of pages 0 ≡ 0
unfolding page_of
page_of_first pages = refl

pub page_of_next : (pages k : ℕ) → page_of pages (suc k) ≡ page_after pages (page_of pages k)
unfolding page_of
page_of_next pages k = refl

after_by : (pages page_index : ℕ) → 1 ≤ pages → (b : Bool) → nat_lt (page_index + 1) pages ≡ b
    → cond b (page_index + 1) 0 < pages
after_by pages page_index some true e = ltb-true (page_index + 1) pages e
after_by pages page_index some false e = omega (arith, some)

pub page_after_below : (pages page_index : ℕ) → 1 ≤ pages → page_after pages page_index < pages
page_after_below pages page_index some = after_by pages page_index some (nat_lt (page_index + 1) pages) refl

pub page_of_below : (pages k : ℕ) → 1 ≤ pages → page_of pages k < pages
unfolding page_of
page_of_below pages zero some = omega (arith, some)
page_of_below pages (suc k) some = page_after_below pages (page_of pages k) some

pub some_rounds : (m : FrameLayout) (es : List Marked) → 1 ≤ rounds m es
some_rounds m es = omega arith

-- ---- frames of a notice

pub noticed_from : (notice l : ℕ) → is_noticed notice (Some l) ≡ true → (1 ≤ l) × (l ≤ notice)
noticed_from notice l e =
    let both = and_parts (nat_le 1 l) (nat_le l notice) e in
    (leb-true 1 l both.0, leb-true l notice both.1)

pub noticed : (notice l : ℕ) → 1 ≤ l → l ≤ notice → is_noticed notice (Some l) ≡ true
noticed notice l from to = grind (arith, from, to)

pub not_noticed : (notice l : ℕ) → notice < l → is_noticed notice (Some l) ≡ false
not_noticed notice l past = grind (arith, past)

-- ---- what is tracked

abbrev pub SwapsOn : Plan → ℕ → Option ℕ → Type 0
SwapsOn plan count None = Unit {0}
SwapsOn plan count (Some l) = (count + l) % count_step (layout_mode plan.layout) ≡ 0

pub record IsTurn (plan : Plan) (l : ℕ) (c n : Configuration) (page_index : ℕ) : Type 0 where
  pub within : l ≤ plan.notice → page_index ≡ page_of (rounds plan.layout (page_set c (Some n))) (plan.notice - l)
  pub before : plan.notice < l → page_index < rounds plan.layout (page_set c None)

-- for the state that the bytes are made from
abbrev pub TurnShown : Plan → Option ℕ → Configuration → Configuration → ℕ → Type 0
TurnShown plan None c n page_index = page_index < rounds plan.layout (page_set c None)
TurnShown plan (Some l) c n page_index = IsTurn plan l c n page_index

-- before a frame: if the notice has not yet begun, the page is one of the current configuration
pub record IsTurnBefore (plan : Plan) (l : ℕ) (c n : Configuration) (page_index : ℕ) : Type 0 where
  pub within : l < plan.notice → page_index ≡ page_of (rounds plan.layout (page_set c (Some n))) (plan.notice - l)
  pub before : plan.notice ≤ l → page_index < rounds plan.layout (page_set c None)

abbrev pub TurnBefore : Plan → Option ℕ → Configuration → Configuration → ℕ → Type 0
TurnBefore plan None c n page_index = page_index < rounds plan.layout (page_set c None)
TurnBefore plan (Some l) c n page_index = IsTurnBefore plan l c n page_index

pub record Tracked (plan : Plan) (s : State) : Type 0 where
  pub count : s.count < 5000
  pub eid : s.eid < 65536
  pub current : IsConfiguration s.current
  pub next : IsConfiguration s.next
  pub swaps : SwapsOn plan s.count s.left
  pub page_index : TurnBefore plan s.left s.current s.next s.page_index

pub record Airs (plan : Plan) (s : State) : Type 0 where
  pub count : s.count < 5000
  pub eid : s.eid < 65536
  pub current : IsConfiguration s.current
  pub next : IsConfiguration s.next
  pub ahead : IsAhead s.left
  pub on_air : IsOnAir plan s.current
  pub committed : CommittedBy plan s.left s.current s.next
  pub swaps : SwapsOn plan s.count s.left
  pub page_index : TurnShown plan s.left s.current s.next s.page_index

-- ---- the page in turn is a valid page

sent_alone : (plan : Plan) (c n : Configuration) (b : Bool) → b ≡ false
    → rounds plan.layout (page_set c (cond b (Some n) None)) ≡ rounds plan.layout (page_set c None)
sent_alone plan c n b e = ap (λ (x : Bool). rounds plan.layout (page_set c (cond x (Some n) None))) e

sent_both : (plan : Plan) (c n : Configuration) (b : Bool) → b ≡ true
    → rounds plan.layout (page_set c (cond b (Some n) None)) ≡ rounds plan.layout (page_set c (Some n))
sent_both plan c n b e = ap (λ (x : Bool). rounds plan.layout (page_set c (cond x (Some n) None))) e

pub split_le : (a b : ℕ) → (a ≤ b) ⊎ (b < a)
split_le a b = by (leb a b) refl
  where
    by : (t : Bool) → leb a b ≡ t → (a ≤ b) ⊎ (b < a)
    by true e = inl (leb-true a b e)
    by false e = inr (leb-false a b e)

turn_below : (plan : Plan) (left : Option ℕ) (c n : Configuration) (page_index : ℕ) → IsAhead left
    → TurnShown plan left c n page_index
    → page_index < rounds plan.layout (page_set c (cond (is_noticed plan.notice left) (Some n) None))
turn_below plan None c n page_index a h = h
turn_below plan (Some l) c n page_index a h =
    elim (split_le l plan.notice) [
      | inl within ↦
          let e = sent_both plan c n (is_noticed plan.notice (Some l)) (noticed plan.notice l a within) in
          let below = page_of_below (rounds plan.layout (page_set c (Some n))) (plan.notice - l)
          (some_rounds plan.layout (page_set c (Some n))) in
          subst (λ (x : ℕ). page_index < x) (sym e)
          (subst (λ (x : ℕ). x < rounds plan.layout (page_set c (Some n))) (sym (h.within within)) below)
      | inr past ↦
          let e = sent_alone plan c n (is_noticed plan.notice (Some l)) (not_noticed plan.notice l past) in
          subst (λ (x : ℕ). page_index < x) (sym e) (h.before past)
    ]

pub turn_is_page : (plan : Plan) (s : State) → Airs plan s → s.page_index < sent_rounds plan s
turn_is_page plan s h = turn_below plan s.left s.current s.next s.page_index h.ahead h.page_index

-- ---- the next frame

count_later : (count : ℕ) → (count + 1) % 5000 < 5000
count_later count = omega arith

swaps_later : (m : Mode) (count l : ℕ) → 1 ≤ l → (count + l) % count_step m ≡ 0
    → ((count + 1) % 5000 + (l - 1)) % count_step m ≡ 0
swaps_later I count l some h = omega (arith, some, h)
swaps_later _ count l some h = omega (arith, some, h)

swaps_on_later : (plan : Plan) (count : ℕ) (left : Option ℕ) → IsAhead left → SwapsOn plan count left
    → SwapsOn plan ((count + 1) % 5000) (left_after_frame left)
swaps_on_later plan count None a h = tt
swaps_on_later plan count (Some l) a h = swaps_later (layout_mode plan.layout) count l a h

page_step : (pages l notice : ℕ) → 1 ≤ l → l ≤ notice → page_after pages (page_of pages (notice - l))
    ≡ page_of pages (notice - (l - 1))
page_step pages l notice some within = sym (ap (page_of pages) (omega (arith, some, within)) ∙ page_of_next pages _)

turn_later : (plan : Plan) (left : Option ℕ) (c n : Configuration) (page_index : ℕ) → IsAhead left
    → TurnShown plan left c n page_index
    → TurnBefore plan (left_after_frame left) c n
    (page_after (rounds plan.layout (page_set c (cond (is_noticed plan.notice left) (Some n) None))) page_index)
turn_later plan None c n page_index a h =
    page_after_below (rounds plan.layout (page_set c None)) page_index (some_rounds plan.layout (page_set c None))
turn_later plan (Some l) c n page_index a h =
    let both : ℕ = rounds plan.layout (page_set c (Some n)) in
    let alone : ℕ = rounds plan.layout (page_set c None) in
    let sent : ℕ = rounds plan.layout (page_set c (cond (is_noticed plan.notice (Some l)) (Some n) None)) in
    record {
      within = λ earlier.
          let inside : l ≤ plan.notice = omega (arith, earlier, a) in
          let e : sent ≡ both = sent_both plan c n (is_noticed plan.notice (Some l)) (noticed plan.notice l a inside) in
          ap (λ (x : ℕ). page_after x page_index) e ∙ ap (page_after both) (h.within inside)
          ∙ page_step both l plan.notice a inside;
      before = λ later.
          let past : plan.notice < l = omega (arith, later, a) in
          let e = sent_alone plan c n (is_noticed plan.notice (Some l)) (not_noticed plan.notice l past) in
          subst (λ (x : ℕ). page_after x page_index < alone) (sym e)
          (page_after_below alone page_index (some_rounds plan.layout (page_set c None)));
    }

pub airs_later : (plan : Plan) (s : State) → Airs plan s → Tracked plan (with_next_counts plan s)
airs_later plan s h = record {
  count = count_later s.count;
  eid = h.eid;
  current = h.current;
  next = h.next;
  swaps = swaps_on_later plan s.count s.left h.ahead h.swaps;
  page_index = turn_later plan s.left s.current s.next s.page_index h.ahead h.page_index;
}

-- ---- from the state before a frame to the one that its bytes are made from

-- before it is known whether a notice begins
pub record IsTurnAfter (plan : Plan) (l : ℕ) (c n : Configuration) (page_index : ℕ) : Type 0 where
  pub within : l < plan.notice → page_index ≡ page_of (rounds plan.layout (page_set c (Some n))) (plan.notice - l)
  pub before : plan.notice < l → page_index < rounds plan.layout (page_set c None)

abbrev pub TurnAfter : Plan → Option ℕ → Configuration → Configuration → ℕ → Type 0
TurnAfter plan None c n page_index = page_index < rounds plan.layout (page_set c None)
TurnAfter plan (Some l) c n page_index = IsTurnAfter plan l c n page_index

newly_turn : (plan : Plan) (count : ℕ) (left : Option ℕ) (c n : Configuration) (page_index : ℕ)
    → IsNewly plan count left → page_index < rounds plan.layout (page_set c None) → TurnAfter plan left c n page_index
newly_turn plan count None c n page_index new below = below
newly_turn plan count (Some l) c n page_index new below =
    record { within = λ earlier. absurd (omega (arith, earlier, new.0)); before = λ past. below }

newly_swaps : (plan : Plan) (count : ℕ) (left : Option ℕ) → IsNewly plan count left → SwapsOn plan count left
newly_swaps plan count None new = tt
newly_swaps plan count (Some l) new = new.1

-- no swap was due
turn_carried : (plan : Plan) (count : ℕ) (before left : Option ℕ) (c n m : Configuration) (page_index : ℕ)
    → LeftBy plan count before n left m → TurnBefore plan before c n page_index → TurnAfter plan left c m page_index
turn_carried plan count None left c n m page_index g h = newly_turn plan count left c m page_index g h
turn_carried plan count (Some l) left c n m page_index g h =
    let there : TurnAfter plan (Some l) c n page_index =
    record { within = h.within; before = λ past. h.before (omega (arith, past)) } in
    rw g.0 (rw g.1 there)

swaps_carried : (plan : Plan) (count : ℕ) (before left : Option ℕ) (n m : Configuration)
    → LeftBy plan count before n left m → SwapsOn plan count before → SwapsOn plan count left
swaps_carried plan count None left n m g h = newly_swaps plan count left g
swaps_carried plan count (Some l) left n m g h = subst (λ (o : Option ℕ). SwapsOn plan count o) (sym g.0) h

-- after the instructions
pub record Carried (plan : Plan) (s u : State) : Type 0 where
  pub count : u.count ≡ s.count
  pub eid : u.eid ≡ s.eid
  pub current : IsConfiguration u.current
  pub next : IsConfiguration u.next
  pub swaps : SwapsOn plan u.count u.left
  pub page_index : TurnAfter plan u.left u.current u.next u.page_index

at_state : (plan : Plan) (u : State) (count page_index : ℕ) (c : Configuration) → u.count ≡ count
    → u.page_index ≡ page_index → u.current ≡ c → SwapsOn plan count u.left → TurnAfter plan u.left c u.next page_index
    → SwapsOn plan u.count u.left × TurnAfter plan u.left u.current u.next u.page_index
at_state plan u count page_index c a b d swaps t = (
  subst (λ (x : ℕ). SwapsOn plan x u.left) (sym a) swaps,
  subst (λ (x : ℕ). TurnAfter plan u.left u.current u.next x) (sym b)
      (subst (λ (x : Configuration). TurnAfter plan u.left x u.next page_index) (sym d) t),
)

carried_by : (plan : Plan) (s u : State) (due : Bool) → Tracked plan s → Carries plan (cond due (with_swap s) s) u
    → Carried plan s u
carried_by plan s u true h g =
    let at = at_state plan u s.count 0 s.next g.count g.page_index g.current (newly_swaps plan s.count u.left g.left)
    (newly_turn plan s.count u.left s.next u.next 0 g.left (some_rounds plan.layout (page_set s.next None))) in
    record {
      count = g.count;
      eid = g.eid;
      current = subst (λ (x : Configuration). IsConfiguration x) (sym g.current)
          h.next;
      next = g.next h.next;
      swaps = at.0;
      page_index = at.1;
    }
carried_by plan s u false h g =
    let at = at_state plan u _ _ _ g.count g.page_index g.current (swaps_carried plan _ _ _ _ _ g.left h.swaps)
    (turn_carried plan _ _ _ _ _ _ _ g.left h.page_index) in
    record {
      count = g.count;
      eid = g.eid;
      current = subst (λ (x : Configuration). IsConfiguration x) (sym g.current)
          h.current;
      next = g.next h.next;
      swaps = at.0;
      page_index = at.1;
    }

-- page 0 is in turn where a notice begins
first_turn : (plan : Plan) (left : Option ℕ) (c n : Configuration) (page_index : ℕ)
    → is_first_noticed plan.notice left ≡ true → TurnShown plan left c n 0
first_turn plan None c n page_index e = absurd cc
first_turn plan (Some l) c n page_index e =
    let none : plan.notice - l ≡ 0 = omega (arith, eqb-true l plan.notice e) in
    record {
      within = λ inside. sym (ap (page_of (rounds plan.layout (page_set c (Some n)))) none
          ∙ page_of_first (rounds plan.layout (page_set c (Some n))));
      before = λ past. absurd (omega (arith, past, eqb-true l plan.notice e));
    }

other_turn : (plan : Plan) (left : Option ℕ) (c n : Configuration) (page_index : ℕ)
    → is_first_noticed plan.notice left ≡ false → TurnAfter plan left c n page_index
    → TurnShown plan left c n page_index
other_turn plan None c n page_index e h = h
other_turn plan (Some l) c n page_index e h =
    record { within = λ inside. h.within (omega (arith, inside, eqb-false l plan.notice e)); before = h.before }

airs_with : (p : Program) (ts : List Known) (s u : State) (page_index : ℕ) → Tracked p.plan s → Suspends p ts u
    → Carried p.plan s u → TurnShown p.plan u.left u.current u.next page_index
    → Airs p.plan (let r : State = record u { page_index = page_index } in r)
airs_with p ts s u page_index h d g turn = record {
  count = subst (λ (x : ℕ). x < 5000) (sym g.count) h.count;
  eid = subst (λ (x : ℕ). x < 65536) (sym g.eid) h.eid;
  current = g.current;
  next = g.next;
  ahead = d.ahead;
  on_air = d.kept.on_air;
  committed = d.kept.committed;
  swaps = g.swaps;
  page_index = turn;
}

airs_by : (p : Program) (ts : List Known) (s u : State) (first : Bool) → is_first_noticed p.plan.notice u.left ≡ first
    → Tracked p.plan s → Suspends p ts u → Carried p.plan s u
    → Airs p.plan (cond first (let r : State = record u { page_index = 0 } in r) u)
airs_by p ts s u true e h d g = airs_with p ts s u 0 h d g (first_turn p.plan u.left u.current u.next u.page_index e)
airs_by p ts s u false e h d g = airs_with p ts s u _ h d g (other_turn _ _ _ _ _ e g.page_index)

pub frame_carried : (p : Program) (ts : List Known) → IsProgram p → IsTyping p ts → (s : State) → Between p ts s
    → Tracked p.plan s → Carried p.plan s (after_burst p s)
frame_carried p ts pr ty s b h =
    let goes = frame_goes p ts pr ty s b in
    carried_by _ s _ _ h (frame_carries p pr s goes.allowed.steps goes.allowed.executes)

pub frame_airs : (p : Program) (ts : List Known) → IsProgram p → IsTyping p ts → (s : State) → Between p ts s
    → Tracked p.plan s → Airs p.plan (shown p s)
frame_airs p ts pr ty s b h =
    airs_by p ts s _ _ refl h (frame_goes p ts pr ty s b).suspends (frame_carried p ts pr ty s b h)

pub frame_tracked : (p : Program) (ts : List Known) → IsProgram p → IsTyping p ts → (s : State) → Between p ts s
    → Tracked p.plan s → Tracked p.plan (after_frame p s)
frame_tracked p ts pr ty s b h = airs_later p.plan (shown p s) (frame_airs p ts pr ty s b h)
