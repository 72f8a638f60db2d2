-- What the player's calls require of a state that a typed code reaches.
use Rattle.plan_player.proofs.Words.{[], ◌<◌, ◌||◌, ◌∙◌, ◌∷◌, ◌≡◌, ◌≤◌, Bool, Configuration, Contact, Frame}
use Rattle.plan_player.proofs.Words.{FrameLayout, HasChange, IsFrameReady, IsGoing, IsPlan, IsPlayed, IsProgram}
use Rattle.plan_player.proofs.Words.{IsStart, IsTyped, Keeps, KeepsChange, List, Marked, None, Option, PhasePages, Plan}
use Rattle.plan_player.proofs.Words.{Program, Progress, Some, Start, StartIsInRange, State, after_burst, after_frame}
use Rattle.plan_player.proofs.Words.{after_goes, airs, ap, arith, begins_phase, code_of, cond}
use Rattle.plan_player.proofs.Words.{eqb-false, false, frame_steps, happens, is_due, is_first_noticed, is_noticed}
use Rattle.plan_player.proofs.Words.{left_after_frame, noticed, noticed_from, page_set, played_holds, reached_is_kept}
use Rattle.plan_player.proofs.Words.{refl, rounds, sends, sent_entries, shown, starts_are_reached, subst, sym, true}
use Rattle.plan_player.proofs.Words.{typed_code_runs, with_swap, ℕ}
use Rattle.plan_runs.specs.Phases.{SentBy}
use Rattle.plan_runs.proofs.Carries.{IsNewly, LeftBy, frame_carries}
use Rattle.plan_runs.proofs.Knowledge.{IsAhead, IsOnAir, CommittedBy}
use Rattle.plan_runs.proofs.Notice.{Links, links}
use Rattle.plan_runs.proofs.Swaps.{left_turned}
use Rattle.plan_runs.proofs.Headline.{frames_can_be_sent}

-- ---- progress: a typed code can always continue

-- what is sent takes at most the period
few_by : (plan : Plan) (left : Option ℕ) (c n : Configuration) → IsPlan plan → IsOnAir plan c
    → CommittedBy plan left c n
    → (b : Bool) → is_noticed plan.notice left ≡ b → rounds plan.layout (page_set c (cond b (Some n) None)) ≤ 60
few_by plan None c n formed air committed true e = absurd cc
few_by plan (Some l) c n formed air committed true e = omega (arith, committed.within_period, formed.period_to)
few_by plan left c n formed air committed false e = omega (arith, air.within_period, formed.period_to)

pub typed_code_progresses : Progress
typed_code_progresses p s h =
    let frame = (typed_code_runs p s (Frame ∷ []) h).allowed.0 in
    let a = airs p h.typed.0 (code_of p s h) s (played_holds p s h) in
    let t = shown p s in
    record {
      runs = record { steps = frame.steps; end = after_burst p s; within = frame.within; executes = frame.executes };
      sent = frames_can_be_sent p s h;
      few = few_by _ _ _ _ h.program.planned a.on_air a.committed _ refl;
    }

-- the state after a frame is again one that the code reaches
pub frame_plays : (p : Program) (s : State) → IsPlayed p s → IsPlayed p (after_frame p s)
frame_plays p s h = record {
  program = h.program;
  typed = h.typed;
  reached = reached_is_kept p s (Frame ∷ []) h.reached (tt, tt);
}

-- ---- the page in turn as a phase begins

due_turn : (s : State) (b : Bool) → b ≡ true → (cond b (with_swap s) s).page_index ≡ 0
due_turn s true e = refl
due_turn s false e = absurd cc

first_turn : (u : State) (b : Bool) → b ≡ true
    → (cond b (let r : State = record u { page_index = 0 } in r) u).page_index ≡ 0
first_turn u true e = refl
first_turn u false e = absurd cc

kept_turn : (u : State) (b : Bool) → u.page_index ≡ 0
    → (cond b (let r : State = record u { page_index = 0 } in r) u).page_index ≡ 0
kept_turn u true e = refl
kept_turn u false e = e

begun : (u : State) (due first : Bool) (b : Bool) → (due || first) ≡ true → (due ≡ true → u.page_index ≡ 0)
    → (first ≡ b) → (cond b (let r : State = record u { page_index = 0 } in r) u).page_index ≡ 0
begun u true first b e zero same = kept_turn u b (zero refl)
begun u false first b e zero same = first_turn u b (sym same ∙ e)

first_page : (p : Program) (s : State) → IsPlayed p s → begins_phase p s ≡ true → (shown p s).page_index ≡ 0
first_page p s h begins =
    let u : State = after_burst p s in
    let frame = (typed_code_runs p s (Frame ∷ []) h).allowed.0 in
    let same = ap (is_first_noticed p.plan.notice) (left_turned u (is_first_noticed p.plan.notice u.left)) in
    begun u (is_due s.left) (is_first_noticed p.plan.notice (shown p s).left) (is_first_noticed p.plan.notice u.left)
    begins
    (λ due. (frame_carries p h.program s frame.steps frame.executes).page_index ∙ due_turn s (is_due s.left) due) same

-- ---- the change flags of a notice

newly_off : (plan : Plan) (count : ℕ) (left : Option ℕ) → IsNewly plan count left
    → is_first_noticed plan.notice left ≡ false → is_noticed plan.notice left ≡ true → ⊥
newly_off plan count None new other on = absurd cc
newly_off plan count (Some l) new other on =
    omega (arith, new.0, eqb-false l plan.notice other, (noticed_from plan.notice l on).1)

change_on : (plan : Plan) (count : ℕ) (before left : Option ℕ) (c n m : Configuration) (change : ℕ)
    → LeftBy plan count before n left m → is_first_noticed plan.notice left ≡ false
    → KeepsChange plan.notice before c n change → HasChange plan.notice left c m change
change_on plan count None left c n m change g other h on = absurd (newly_off plan count left g other on)
change_on plan count (Some l) left c n m change g other h on =
    let apart = eqb-false l plan.notice (subst (λ (o : Option ℕ). is_first_noticed plan.notice o ≡ false) g.0 other) in
    let within = noticed_from plan.notice l (subst (λ (o : Option ℕ). is_noticed plan.notice o ≡ true) g.0 on) in
    rw (g.1) (h (omega (arith, apart, within.1)))

change_known : (plan : Plan) (s u : State) (change : ℕ) → Links plan s u → (b : Bool) → is_due s.left ≡ b
    → is_first_noticed plan.notice u.left ≡ false → KeepsChange plan.notice s.left s.current s.next change
    → HasChange plan.notice u.left u.current u.next change
change_known plan s u change link true due other h on = absurd (newly_off plan s.count u.left (link.due due) other on)
change_known plan s u change link false due other h on =
    rw (link.current due) (change_on plan _ _ _ _ _ _ _ (link.left due) other h on)

change_later : (notice : ℕ) (left : Option ℕ) (c n : Configuration) (change : ℕ) → IsAhead left
    → HasChange notice left c n change → KeepsChange notice (left_after_frame left) c n change
change_later notice None c n change a h = tt
change_later notice (Some l) c n change a h = λ earlier. h (noticed notice l a (omega (arith, earlier, a)))

-- ---- a frame

pub frame_ready : (p : Program) (s : State) (steps : ℕ) (pages : PhasePages) → IsGoing p s steps pages
    → IsFrameReady p s pages
frame_ready p s steps pages h =
    let goes = typed_code_progresses p s h.played in
    let ms : List Marked = h.phase.entries in
    record {
      runs = goes.runs;
      sent = goes.sent;
      few = goes.few;
      first = first_page p s h.played;
      kept = λ no_phase.
          let sent = sends p h.played.typed.0 (code_of p s h.played) s (played_holds p s h.played) no_phase ms
          s.page_index (record { sent = h.phase.sent; turn_is = refl }) in
          rw (sent.entries) (rw (sent.turn_is) h.phase.keeps);
      change = λ other.
          let link = links p h.played.typed.0 (code_of p s h.played) s (played_holds p s h.played) in
          change_known p.plan s (shown p s) pages.change link (is_due s.left) refl other h.phase.change;
    }

pub frame_goes : (p : Program) (s : State) (steps : ℕ) (pages after : PhasePages) → IsGoing p s steps pages
    → Keeps p.plan.layout (sent_entries p.plan (shown p s)) (after_frame p s).page_index after
    → HasChange p.plan.notice (shown p s).left (shown p s).current (shown p s).next after.change
    → IsGoing p (after_frame p s) (frame_steps p s) after
frame_goes p s steps pages after h keeps change =
    let u : State = shown p s in
    let frame = (typed_code_runs p s (Frame ∷ []) h.played).allowed.0 in
    let air = airs p h.played.typed.0 (code_of p s h.played) s (played_holds p s h.played) in
    record {
      played = frame_plays p s h.played;
      phase = record {
        entries = sent_entries p.plan u;
        sent = (after_goes p.plan u air (sent_entries p.plan u) refl).sent;
        keeps = keeps;
        change = change_later p.plan.notice u.left u.current u.next after.change air.ahead change;
      };
      within = omega (arith, frame.counted, frame.within);
    }

-- the same for a borrowed code
pub lent_ready : (p q : Program) (s : State) (steps : ℕ) (pages : PhasePages) → q ≡ p → IsGoing p s steps pages
    → IsFrameReady q s pages
lent_ready p q s steps pages e h = rw (e) (frame_ready p s steps pages h)

pub lent_goes : (p q : Program) (s t : State) (steps made : ℕ) (pages after : PhasePages) → q ≡ p
    → IsGoing p s steps pages → t ≡ after_frame q s → made ≡ frame_steps q s
    → Keeps q.plan.layout (sent_entries q.plan (shown q s)) (after_frame q s).page_index after
    → HasChange q.plan.notice (shown q s).left (shown q s).current (shown q s).next after.change
    → IsGoing p t made after
lent_goes p q s t steps made pages after e h state count keeps change =
    let on = frame_goes p s steps pages after h (rw (← e) keeps) (rw (← e) change) in
    let state_is : t ≡ after_frame p s = rw (← e) state in
    let count_is : made ≡ frame_steps p s = rw (← e) count in
    rw (state_is) (rw (count_is) on)

-- ---- a contact

pub contact_goes : (p : Program) (s : State) (steps : ℕ) (pages : PhasePages) (c : ℕ) (closed : Bool)
    → IsGoing p s steps pages → c < 16 → IsGoing p (happens p s (Contact c closed)) steps pages
contact_goes p s steps pages c closed h below = record {
  played = record {
    program = h.played.program;
    typed = h.played.typed;
    reached = reached_is_kept p s (Contact c closed ∷ []) h.played.reached (below, tt);
  };
  phase = record { entries = h.phase.entries; sent = h.phase.sent; keeps = h.phase.keeps; change = h.phase.change };
  within = h.within;
}

-- ---- the start

pub start_goes : (p : Program) (start : Start) (s : State) (pages : PhasePages) → IsProgram p → IsTyped p
    → StartIsInRange start → IsStart p start s → ((layout : FrameLayout) (ms : List Marked) → Keeps layout ms 0 pages)
    → IsGoing p s 0 pages
start_goes p start s pages formed typed range starts none =
    let ms : List Marked = page_set s.current None in
    let sent : SentBy p.plan None s.current s.next ms = refl in
    record {
      played = record { program = formed; typed = typed; reached = starts_are_reached p start s range starts };
      phase = record {
        entries = ms;
        sent = rw (starts.left) sent;
        keeps = rw (starts.page_index) (none p.plan.layout ms);
        change = rw starts.left tt;
      };
      within = omega arith;
    }
