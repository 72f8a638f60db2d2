-- The whole current configuration is heard in any period of a phase.
use Rattle.plan_runs.proofs.Words.{[], ◌+◌, ◌-◌, ◌<◌, ◌∙◌, ◌∷◌, ◌≡◌, ◌≤◌, BeginsNoPhase, Bool, Configuration, Contact}
use Rattle.plan_runs.proofs.Words.{Contains, Contains-append_left, Event, Frame, IsHeardInRow, IsHeardInSome}
use Rattle.plan_runs.proofs.Words.{IsHeardWhole, IsOnePhase, Known, List, Marked, None, Option, PeriodsAreWhole, Plan}
use Rattle.plan_runs.proofs.Words.{Program, SentBy, Some, State, after_burst, after_frame, ap, arith, begins_phase}
use Rattle.plan_runs.proofs.Words.{cond, ensemble_sent, eqb-false, facts_of, false, frame_bytes, happens, inl, inr}
use Rattle.plan_runs.proofs.Words.{is_due, is_first_noticed, is_noticed, left_after_frame, length, lt-ltb, or_parts}
use Rattle.plan_runs.proofs.Words.{page_after, page_entries, page_set, refl, rounds, run, run_frames, sent_entries}
use Rattle.plan_runs.proofs.Words.{sent_rounds, shown, shown_bytes, subst, suc, sym, true, with_due_swap}
use Rattle.plan_runs.proofs.Words.{with_next_counts, with_swap, zero, ℕ}
use Rattle.plan_runs.proofs.Knowledge.{IsAhead, IsOnAir, CommittedBy}
use Rattle.plan_runs.proofs.Passing.{ahead_from}
use Rattle.plan_runs.proofs.Tracked.{Airs, noticed, not_noticed, split_le, turn_is_page}
use Rattle.plan_runs.proofs.Between.{frame_goes}
use Rattle.plan_runs.proofs.Carries.{IsNewly, LeftBy, frame_carries}
use Rattle.plan_runs.proofs.Facts.{Holds, IsCode, airs, frame_holds, happens_holds, run_holds, code_of, played_holds}
use Rattle.plan_runs.proofs.Right.{PageLaws, pageable}
use Rattle.plan_runs.proofs.Notice.{links}
use Rattle.plan_runs.proofs.Announcing.{page_wraps}
use Rattle.plan_runs.proofs.Swaps.{left_turned}

-- ---- each page is in turn within as many frames as there are pages

pages_on : ℕ → ℕ → ℕ → ℕ
pages_on pages zero page_index = page_index
pages_on pages (suc d) page_index = pages_on pages d (page_after pages page_index)

pub after_up : (pages page_index : ℕ) → page_index + 1 < pages → page_after pages page_index ≡ page_index + 1
after_up pages page_index below = ap (λ (b : Bool). cond b (page_index + 1) 0) (lt-ltb (page_index + 1) pages below)

pages_up : (pages d page_index : ℕ) → page_index + d < pages → pages_on pages d page_index ≡ page_index + d
unfolding pages_on
pages_up pages zero page_index below = omega arith
pages_up pages (suc d) page_index below =
    let one : page_index + 1 + d ≡ page_index + suc d = omega arith in
    cc (after_up pages page_index (omega (arith, below)), pages_up pages d (page_index + 1) (omega (arith, below)), one)

pages_joined : (pages d e page_index : ℕ) → pages_on pages (d + e) page_index
    ≡ pages_on pages e (pages_on pages d page_index)
unfolding pages_on
pages_joined pages zero e page_index =
    let none : 0 + e ≡ e = omega arith in
    ap (λ (x : ℕ). pages_on pages x page_index) none
pages_joined pages (suc d) e page_index =
    let up : suc d + e ≡ suc (d + e) = omega arith in
    ap (λ (x : ℕ). pages_on pages x page_index) up ∙ pages_joined pages d e (page_after pages page_index)

pages_one : (pages e page_index : ℕ) → pages_on pages (suc e) page_index
    ≡ pages_on pages e (page_after pages page_index)
unfolding pages_on
pages_one pages e page_index = refl

pages_none : (pages page_index : ℕ) → pages_on pages 0 page_index ≡ page_index
unfolding pages_on
pages_none pages page_index = refl

record IsWay (pages page_index page : ℕ) : Type 0 where
  pub frames : ℕ
  pub within : frames < pages
  pub there : pages_on pages frames page_index ≡ page

reaches : (pages page_index page : ℕ) → page_index < pages → page < pages → IsWay pages page_index page
reaches pages page_index page t p =
    elim (split_le page_index page) [
      | inl up ↦
          record {
            frames = page - page_index;
            within = omega (arith, p);
            there = pages_up pages (page - page_index) page_index (omega (arith, up, p)) ∙ (omega (arith, up));
          }
      | inr down ↦
          let last : ℕ = pages - 1 - page_index in
          let top : page_index + last ≡ pages - 1 = omega (arith, t) in
          record {
            frames = last + suc page;
            within = omega (arith, t, down);
            there =
                pages_joined pages last (suc page) page_index
                ∙ ap (pages_on pages (suc page)) (pages_up pages last page_index (omega (arith, t)) ∙ top)
                ∙ pages_one pages page (pages - 1)
                ∙ ap (pages_on pages page) (page_wraps pages (pages - 1) (omega (arith, t)))
                ∙ pages_up pages page 0 (omega (arith, p))
                ∙ (omega arith);
          }
    ]

-- ---- what is sent is the same throughout a phase

sent_later : (plan : Plan) (left : Option ℕ) (c n : Configuration) (ms : List Marked) → IsAhead left
    → page_set c (cond (is_noticed plan.notice left) (Some n) None) ≡ ms → SentBy plan (left_after_frame left) c n ms
sent_later plan None c n ms a e = e
sent_later plan (Some l) c n ms a e = (
  λ earlier.
      let on = noticed plan.notice l a (omega (arith, earlier, a)) in
      sym (ap (λ (b : Bool). page_set c (cond b (Some n) None)) on) ∙ e,
  λ later.
      let off = not_noticed plan.notice l (omega (arith, later, a)) in
      sym (ap (λ (b : Bool). page_set c (cond b (Some n) None)) off) ∙ e,
)

-- by the frames left before the frame, and in the state that its bytes are made from
sent_new : (plan : Plan) (count : ℕ) (left : Option ℕ) (c n : Configuration) (ms : List Marked)
    → IsNewly plan count left → is_first_noticed plan.notice left ≡ false → page_set c None ≡ ms
    → page_set c (cond (is_noticed plan.notice left) (Some n) None) ≡ ms
sent_new plan count None c n ms new other e = e
sent_new plan count (Some l) c n ms new other e =
    let off = not_noticed plan.notice l (omega (arith, new.0, eqb-false l plan.notice other)) in
    ap (λ (b : Bool). page_set c (cond b (Some n) None)) off ∙ e

sent_on : (plan : Plan) (l : ℕ) (c n : Configuration) (ms : List Marked) → 1 ≤ l
    → is_first_noticed plan.notice (Some l) ≡ false → SentBy plan (Some l) c n ms
    → page_set c (cond (is_noticed plan.notice (Some l)) (Some n) None) ≡ ms
sent_on plan l c n ms some other h =
    let apart = eqb-false l plan.notice other in
    elim (split_le l plan.notice) [
      | inl within ↦
          let on = noticed plan.notice l some within in
          ap (λ (b : Bool). page_set c (cond b (Some n) None)) on ∙ h.0 (omega (arith, within, apart))
      | inr past ↦
          let off = not_noticed plan.notice l past in
          ap (λ (b : Bool). page_set c (cond b (Some n) None)) off ∙ h.1 (omega (arith, past))
    ]

sent_same : (plan : Plan) (count : ℕ) (before left : Option ℕ) (c n m : Configuration) (ms : List Marked)
    → IsAhead before → LeftBy plan count before n left m → is_first_noticed plan.notice left ≡ false
    → SentBy plan before c n ms
    → page_set c (cond (is_noticed plan.notice left) (Some m) None) ≡ ms
sent_same plan count None left c n m ms a g other h = sent_new plan count left c m ms g other h
sent_same plan count (Some l) left c n m ms a g other h =
    let other_l = subst (λ (o : Option ℕ). is_first_noticed plan.notice o ≡ false) g.0 other in
    let there = sent_on plan l c n ms a other_l h in
    cc (g.0, g.1, there)

-- ---- hearing a frame

heard_page : PageLaws → (plan : Plan) (u : State) → Airs plan u → (ms : List Marked) → sent_entries plan u ≡ ms
    → (m : Marked) → Contains (page_entries plan.layout u.page_index ms) m → IsHeardInRow (shown_bytes plan u) m
heard_page laws plan u a ms e m inside =
    let there = subst (λ (es : List Marked). Contains (page_entries plan.layout u.page_index es) m) (sym e) inside in
    (laws.heard plan.layout (ensemble_sent plan u) u.page_index (sent_entries plan u) (pageable laws plan u a) m).1
    there

heard_first : (frame : List ℕ) (frames : List (List ℕ)) (m : Marked) → IsHeardInRow frame m
    → IsHeardInSome (frame ∷ frames) m
heard_first frame frames m h = (frame, (0, omega arith, refl), h)

heard_later : (frame : List ℕ) (frames : List (List ℕ)) (m : Marked) → IsHeardInSome frames m
    → IsHeardInSome (frame ∷ frames) m
heard_later frame frames m h = (h.0, (suc h.1.0, omega (arith, h.1.1), h.1.2), h.2)

-- ---- the frames of a phase after its first one

-- a state whose next frame sends these entries, with this page in turn
pub record Goes (plan : Plan) (s : State) (ms : List Marked) (page_index : ℕ) : Type 0 where
  pub sent : SentBy plan s.left s.current s.next ms
  pub turn_is : s.page_index ≡ page_index

pub after_goes : (plan : Plan) (u : State) → Airs plan u → (ms : List Marked) → sent_entries plan u ≡ ms
    → Goes plan (with_next_counts plan u) ms (page_after (rounds plan.layout ms) u.page_index)
after_goes plan u a ms e = record {
  sent = sent_later plan u.left u.current u.next ms a.ahead e;
  turn_is = ap (λ (es : List Marked). page_after (rounds plan.layout es) u.page_index) e;
}

-- the state that the bytes of such a frame are made from
pub record Sends (plan : Plan) (u : State) (ms : List Marked) (page_index : ℕ) : Type 0 where
  pub entries : sent_entries plan u ≡ ms
  pub turn_is : u.page_index ≡ page_index

turn_kept : (u : State) (b : Bool) → b ≡ false
    → (cond b (let r : State = record u { page_index = 0 } in r) u).page_index ≡ u.page_index
turn_kept u true e = absurd cc
turn_kept u false e = refl

pub current_kept : (u : State) (b : Bool) → (cond b (let r : State = record u { page_index = 0 } in r) u).current
    ≡ u.current
current_kept u true = refl
current_kept u false = refl

due_turn : (s : State) (b : Bool) → b ≡ false → (cond b (with_swap s) s).page_index ≡ s.page_index
due_turn s true e = absurd cc
due_turn s false e = refl

pub sends : (p : Program) (ts : List Known) → IsCode p ts → (s : State) → Holds p ts s → begins_phase p s ≡ false
    → (ms : List Marked) (page_index : ℕ) → Goes p.plan s ms page_index → Sends p.plan (shown p s) ms page_index
sends p ts c s h no_phase ms page_index g =
    let u : State = shown p s in
    let v : State = after_burst p s in
    let parts = or_parts (is_due s.left) (is_first_noticed p.plan.notice u.left) no_phase in
    let link = links p ts c s h in
    let goes = frame_goes p ts c.program c.typing s h.between in
    let carried = frame_carries p c.program s goes.allowed.steps goes.allowed.executes in
    let other : is_first_noticed p.plan.notice v.left ≡ false =
    ap (is_first_noticed p.plan.notice) (sym (left_turned v (is_first_noticed p.plan.notice v.left))) ∙ parts.1 in
    let same = sent_same p.plan s.count s.left u.left s.current s.next u.next ms (ahead_from s.left parts.0)
    (link.left parts.0) parts.1 g.sent in
    record {
      entries = ap (λ (x : Configuration). page_set x (cond (is_noticed p.plan.notice u.left) (Some u.next) None))
          (link.current parts.0) ∙ same;
      turn_is = turn_kept v _ other ∙ carried.page_index ∙ due_turn s _ parts.0 ∙ g.turn_is;
    }

-- a page that is in turn d frames later is heard
comes : PageLaws → (p : Program) (ts : List Known) → IsCode p ts → (s : State) (es : List Event) → Holds p ts s
    → BeginsNoPhase p s es → (ms : List Marked) (page_index d page : ℕ) → Goes p.plan s ms page_index
    → pages_on (rounds p.plan.layout ms) d page_index ≡ page → d < length (run_frames p s es) → (m : Marked)
    → Contains (page_entries p.plan.layout page ms) m → IsHeardInSome (run_frames p s es) m
comes laws p ts c s [] h phase ms page_index d page g there below m inside = absurd (omega (arith, below))
comes laws p ts c s (Contact k closed ∷ es) h phase ms page_index d page g there below m inside =
    comes laws p ts c (happens p s (Contact k closed)) es (happens_holds p ts c s (Contact k closed) h) phase ms
    page_index d page (record { sent = g.sent; turn_is = g.turn_is }) there below m inside
comes laws p ts c s (Frame ∷ es) h phase ms page_index zero page g there below m inside =
    let u : State = shown p s in
    let sent = sends p ts c s h phase.0 ms page_index g in
    let here : page ≡ u.page_index = sym there ∙ pages_none (rounds p.plan.layout ms) page_index ∙ sym sent.turn_is in
    let now = subst (λ (x : ℕ). Contains (page_entries p.plan.layout x ms) m) here inside in
    heard_first (frame_bytes p s) (run_frames p (after_frame p s) es) m
    (heard_page laws p.plan u (airs p ts c s h) ms sent.entries m now)
comes laws p ts c s (Frame ∷ es) h phase ms page_index (suc d) page g there below m inside =
    let u : State = shown p s in
    let pages : ℕ = rounds p.plan.layout ms in
    let sent = sends p ts c s h phase.0 ms page_index g in
    let step : pages_on pages d (page_after pages u.page_index) ≡ page =
    cc (sent.turn_is, pages_one pages d page_index, there) in
    heard_later (frame_bytes p s) (run_frames p (after_frame p s) es) m
    (comes laws p ts c (after_frame p s) es (frame_holds p ts c s h) phase.1 ms (page_after pages u.page_index) d page
    (after_goes p.plan u (airs p ts c s h) ms sent.entries) step (omega (arith, below)) m inside)

-- ---- a period

-- what is sent has no more pages than the period has frames
rounds_by : (plan : Plan) (left : Option ℕ) (c n : Configuration) (b : Bool) → b ≡ is_noticed plan.notice left
    → IsOnAir plan c → CommittedBy plan left c n → rounds plan.layout (page_set c (cond b (Some n) None)) ≤ plan.period
rounds_by plan left c n false e a h = a.within_period
rounds_by plan None c n true e a h = absurd cc
rounds_by plan (Some l) c n true e a h = h.within_period

pub sent_period : (plan : Plan) (u : State) → Airs plan u → sent_rounds plan u ≤ plan.period
sent_period plan u a = rounds_by plan u.left u.current u.next (is_noticed plan.notice u.left) refl a.on_air a.committed

pub current_inside : (c n : Configuration) (b : Bool) (m : Marked) → Contains (facts_of c false) m
    → Contains (page_set c (cond b (Some n) None)) m
current_inside c n false m h = h
current_inside c n true m h = Contains-append_left (facts_of c false) (facts_of n true) m h

pub contact_current : (s t : State) (b : Bool) → t.current ≡ s.current → t.next ≡ s.next
    → (cond b (with_swap t) t).current ≡ (cond b (with_swap s) s).current
contact_current s t true c n = n
contact_current s t false c n = c

way_heard : PageLaws → (p : Program) (ts : List Known) → IsCode p ts → (s : State) (es : List Event) → Holds p ts s
    → BeginsNoPhase p (after_frame p s) es → (u : State) → shown p s ≡ u → Airs p.plan (shown p s)
    → (ms : List Marked) → sent_entries p.plan (shown p s) ≡ ms → (page d : ℕ)
    → pages_on (rounds p.plan.layout ms) d (shown p s).page_index ≡ page → d < length (run_frames p s (Frame ∷ es))
    → (m : Marked) → Contains (page_entries p.plan.layout page ms) m → IsHeardInSome (run_frames p s (Frame ∷ es)) m
way_heard laws p ts c s es h phase u is a ms e page zero there below m inside =
    let here = sym there ∙ pages_none (rounds p.plan.layout ms) (shown p s).page_index in
    let now = subst (λ (x : ℕ). Contains (page_entries p.plan.layout x ms) m) here inside in
    heard_first (frame_bytes p s) (run_frames p (after_frame p s) es) m (heard_page laws _ _ a ms e m now)
way_heard laws p ts c s es h phase u is a ms e page (suc d) there below m inside =
    let pages : ℕ = rounds p.plan.layout ms in
    let next = after_goes p.plan (shown p s) a ms e in
    heard_later (frame_bytes p s) (run_frames p (after_frame p s) es) m
    (comes laws p ts c (after_frame p s) es (frame_holds p ts c s h) phase ms (page_after pages (shown p s).page_index)
    d page next (sym (pages_one pages d (shown p s).page_index) ∙ there) (omega (arith, below)) m inside)

whole : PageLaws → (p : Program) (ts : List Known) → IsCode p ts → (s : State) (es : List Event) → Holds p ts s
    → IsOnePhase p s es → length (run_frames p s es) ≡ p.plan.period → 1 ≤ p.plan.period
    → IsHeardWhole (with_due_swap s).current false (run_frames p s es)
whole laws p ts c s [] h phase long some m inside = absurd (omega (arith, long, some))
whole laws p ts c s (Contact k closed ∷ es) h phase long some m inside =
    let t : State = happens p s (Contact k closed) in
    let same : (with_due_swap t).current ≡ (with_due_swap s).current = contact_current s t (is_due s.left) refl refl in
    whole laws p ts c t es (happens_holds p ts c s (Contact k closed) h) phase long some m (rw same inside)
whole laws p ts c s (Frame ∷ es) h phase long some m inside =
    let u : State = shown p s in
    let v : State = after_burst p s in
    let a = airs p ts c s h in
    let goes = frame_goes p ts c.program c.typing s h.between in
    let carried = frame_carries p c.program s goes.allowed.steps goes.allowed.executes in
    let current = current_kept v (is_first_noticed p.plan.notice v.left) ∙ carried.current in
    let ms : List Marked = sent_entries p.plan u in
    let pages : ℕ = rounds p.plan.layout ms in
    let mine = subst (λ (x : Configuration). Contains (facts_of x false) m) (sym current) inside in
    let among : Contains ms m = current_inside u.current u.next (is_noticed p.plan.notice u.left) m mine in
    let page = laws.each p.plan.layout ms m among in
    let way = reaches pages u.page_index page.0 (turn_is_page p.plan u a) page.1 in
    way_heard laws p ts c s es h phase u refl a ms refl page.0 way.frames way.there
    (omega (arith, way.within, sent_period p.plan u a, long)) m page.2

pub periods_are_whole : PageLaws → PeriodsAreWhole
periods_are_whole laws p s h before events phase long =
    let ts : List Known = h.typed.0 in
    let c = code_of p s h in
    whole laws p ts c (run p s before) events (run_holds p ts c s before (played_holds p s h)) phase long
    (omega (arith, h.program.planned.period_from))
