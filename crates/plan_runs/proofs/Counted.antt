-- All announcements of a notice name one count, and the swap falls on the first later frame with that count.
use Rattle.plan_runs.proofs.Words.{[], ◌%◌, ◌+◌, ◌-◌, ◌<◌, ◌==◌, ◌∙◌, ◌∷◌, ◌≡◌, ◌≢◌, ◌≤◌, AnnouncesOnly, Bool, Contact}
use Rattle.plan_runs.proofs.Words.{EnsembleInformation, Event, Frame, IsAnnouncedIn, KeepsCount, Known, List, MatchBool}
use Rattle.plan_runs.proofs.Words.{None, Option, Plan, Program, Some, State, SwapsAt, SwapsComeAsAnnounced, after_frame}
use Rattle.plan_runs.proofs.Words.{ap, arith, ensemble_of, ensemble_sent, eq-eqb, eqb-true}
use Rattle.plan_runs.proofs.Words.{false, frame_bytes, happens, inl, inr, is_due, is_noticed, left_after_frame}
use Rattle.plan_runs.proofs.Words.{low_of_swap, refl, sent_entries, shown, shown_bytes, sym, true, with_next_counts, ℕ}
use Rattle.plan_runs.proofs.Passing.{not_due_from}
use Rattle.plan_runs.proofs.Tracked.{Airs, noticed_from}
use Rattle.plan_runs.proofs.Facts.{Holds, IsCode, airs, frame_holds, happens_holds, code_of, played_holds}
use Rattle.plan_runs.proofs.Right.{PageLaws, pageable}
use Rattle.plan_runs.proofs.Notice.{links}
use Rattle.plan_runs.proofs.Announcing.{sent_is, noticed_information}
use Rattle.plan_runs.proofs.Swaps.{zero_or_more, shown_left}

-- a frame that makes an announcement is in the notice, and the low part is that of the swap's count
pub record IsOfNotice (plan : Plan) (u : State) (low : ℕ) : Type 0 where
  pub frames : ℕ
  pub left : u.left ≡ Some frames
  pub some : 1 ≤ frames
  pub within : frames ≤ plan.notice
  pub low_is : low ≡ (u.count + frames) % 5000 % 250

some_low : (a b : ℕ) (o : Option ℕ) → o ≡ Some a → o ≡ Some b → a ≡ b
some_low a b o e f = cc (sym e ∙ f)

of_notice_by : (plan : Plan) (u : State) (left : Option ℕ) (low : ℕ) → u.left ≡ left
    → is_noticed plan.notice left ≡ true → low ≡ low_of_swap u.count left → IsOfNotice plan u low
of_notice_by plan u None low is on e = absurd cc
of_notice_by plan u (Some l) low is on e =
    let both = noticed_from plan.notice l on in
    record { frames = l; left = is; some = both.0; within = both.1; low_is = e }

announced_by : (plan : Plan) (u : State) (low : ℕ) (b : Bool) → is_noticed plan.notice u.left ≡ b
    → (ensemble_of plan u).occurrence ≡ Some low → IsOfNotice plan u low
announced_by plan u low true e o =
    let info = noticed_information plan u e in
    let same = some_low low (low_of_swap u.count u.left) (ensemble_of plan u).occurrence o info.occurrence in
    of_notice_by plan u u.left low refl e same
announced_by plan u low false e o =
    absurd cc

pub of_notice : PageLaws → (plan : Plan) (u : State) (low : ℕ) → Airs plan u → IsAnnouncedIn (shown_bytes plan u) low
    → IsOfNotice plan u low
of_notice laws plan u low a (next, e, heard, occurrence) =
    let sent = (laws.ensemble plan.layout (ensemble_sent plan u) u.page_index (sent_entries plan u)
    (pageable laws plan u a) next e).0 heard in
    let here = ap (λ (x : EnsembleInformation). x.occurrence) (sent_is plan u e sent.1) ∙ occurrence in
    announced_by plan u low (is_noticed plan.notice u.left) refl here

-- ---- frames after an announcement

-- a state whose swap has this low part, and falls within the notice
pub record Awaits (plan : Plan) (s : State) (low : ℕ) : Type 0 where
  pub frames : ℕ
  pub left : s.left ≡ Some frames
  pub within : frames < plan.notice
  pub low_is : low ≡ (s.count + frames) % 5000 % 250

pub next_low : (count low l : ℕ) → 1 ≤ l → low ≡ (count + l) % 5000 % 250
    → low ≡ ((count + 1) % 5000 + (l - 1)) % 5000 % 250
next_low count low l some is = omega (arith, some, is)

awaits_after : (plan : Plan) (u : State) (low : ℕ) → IsOfNotice plan u low → Awaits plan (with_next_counts plan u) low
awaits_after plan u low h = record {
  frames = h.frames - 1;
  left = ap left_after_frame h.left;
  within = omega (arith, h.within, h.some);
  low_is = next_low u.count low h.frames h.some h.low_is;
}

pub swap_now : (count low : ℕ) → count < 5000 → low ≡ (count + 0) % 5000 % 250 → count % 250 ≡ low
swap_now count low below is = omega (arith, below, is)

pub swap_not_now : (count low l : ℕ) → count < 5000 → 1 ≤ l → l < 250 → low ≡ (count + l) % 5000 % 250
    → count % 250 ≢ low
swap_not_now count low l below some short is e = omega (arith, below, some, short, is, e)

-- the frames from here to the swap keep the announcement
match_yes : (b : Bool) (P Q : Type 0) → b ≡ true → P → MatchBool b P Q
match_yes true P Q e p = p
match_yes false P Q e p = absurd cc

match_no : (b : Bool) (P Q : Type 0) → b ≡ false → Q → MatchBool b P Q
match_no true P Q e q = absurd cc
match_no false P Q e q = q

differ : (a b : ℕ) → a ≢ b → (a == b) ≡ false
differ a b apart = by (a == b) refl
  where
    by : (t : Bool) → (a == b) ≡ t → (a == b) ≡ false
    by true e = absurd (apart (eqb-true a b e))
    by false e = e

not_due_left : (left : Option ℕ) (l : ℕ) → left ≡ Some l → 1 ≤ l → is_due left ≡ false
not_due_left left l is some = ap is_due is ∙ not_due_from (Some l) some

due_left : (left : Option ℕ) → left ≡ Some 0 → is_due left ≡ true
due_left left is = ap is_due is

-- a later frame of the notice
frame_waits : PageLaws → (p : Program) (ts : List Known) → IsCode p ts → (low : ℕ) (s : State) (es : List Event)
    → Holds p ts s → (w : Awaits p.plan s low) → 1 ≤ w.frames
    → (Awaits p.plan (after_frame p s) low → SwapsAt low p (after_frame p s) es) → SwapsAt low p s (Frame ∷ es)
frame_waits laws p ts c low s es h w some rest =
    let u : State = shown p s in
    let short : w.frames < 250 = omega (arith, w.within, c.program.planned.notice_to) in
    let apart = swap_not_now s.count low w.frames h.tracked.count some short w.low_is in
    let waits : is_due s.left ≡ false = not_due_left s.left w.frames w.left some in
    let link = links p ts c s h in
    let left : u.left ≡ Some w.frames = shown_left p.plan s u w.frames s.left w.left (link.left waits) in
    let now = w.low_is ∙ ap (λ (x : ℕ). (x + w.frames) % 5000 % 250) (sym link.count) in
    let of : IsOfNotice p.plan u low =
    record { frames = w.frames; left = left; some = some; within = omega (arith, w.within); low_is = now } in
    let only : AnnouncesOnly low (frame_bytes p s) =
    λ other heard.
    let that = of_notice laws p.plan u other (airs p ts c s h) heard in
    let same : that.frames ≡ w.frames = some_low that.frames w.frames u.left that.left left in
    that.low_is ∙ ap (λ (x : ℕ). (u.count + x) % 5000 % 250) same ∙ sym now in match_no _ _ _
    (differ (s.count % 250) low apart) (waits, only, rest (awaits_after _ u low of))

-- the frame of the swap
frame_swaps : (p : Program) (ts : List Known) (low : ℕ) (s : State) (es : List Event) → Holds p ts s
    → (w : Awaits p.plan s low) → w.frames ≡ 0 → SwapsAt low p s (Frame ∷ es)
frame_swaps p ts low s es h w none =
    let left : s.left ≡ Some 0 = w.left ∙ ap (λ (x : ℕ). Some x) none in
    let is : low ≡ (s.count + 0) % 5000 % 250 = w.low_is ∙ ap (λ (x : ℕ). (s.count + x) % 5000 % 250) none in
    match_yes (s.count % 250 == low) (is_due s.left ≡ true)
    ((is_due s.left ≡ false) × AnnouncesOnly low (frame_bytes p s) × SwapsAt low p (after_frame p s) es)
    (eq-eqb (s.count % 250) low (swap_now s.count low h.tracked.count is)) (due_left s.left left)

swaps_at : PageLaws → (p : Program) (ts : List Known) → IsCode p ts → (low : ℕ) (s : State) (events : List Event)
    → Holds p ts s → Awaits p.plan s low → SwapsAt low p s events
swaps_at laws p ts c low s [] h w = tt
swaps_at laws p ts c low s (Contact d closed ∷ es) h w =
    swaps_at laws p ts c low (happens p s (Contact d closed)) es (happens_holds p ts c s (Contact d closed) h)
    (record { frames = w.frames; left = w.left; within = w.within; low_is = w.low_is })
swaps_at laws p ts c low s (Frame ∷ es) h w =
    elim (zero_or_more w.frames) [
      | inl none ↦ frame_swaps p ts low s es h w none
      | inr some ↦ frame_waits laws p ts c low s es h w some
          (λ more. swaps_at laws p ts c low (after_frame p s) es (frame_holds p ts c s h) more)
    ]

keeps : PageLaws → (p : Program) (ts : List Known) → IsCode p ts → (s : State) (events : List Event) → Holds p ts s
    → KeepsCount p s events
keeps laws p ts c s [] h = tt
keeps laws p ts c s (Contact d closed ∷ es) h =
    keeps laws p ts c (happens p s (Contact d closed)) es (happens_holds p ts c s (Contact d closed) h)
keeps laws p ts c s (Frame ∷ es) h =
    let later = frame_holds p ts c s h in (
      λ low heard. swaps_at laws p ts c low (after_frame p s) es later
          (awaits_after p.plan (shown p s) low (of_notice laws p.plan (shown p s) low (airs p ts c s h) heard)),
      keeps laws p ts c (after_frame p s) es later,
    )

pub swaps_come_as_announced : PageLaws → SwapsComeAsAnnounced
swaps_come_as_announced laws p s events h = keeps laws p h.typed.0 (code_of p s h) s events (played_holds p s h)
