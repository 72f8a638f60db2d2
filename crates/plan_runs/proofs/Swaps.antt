-- A swap is made in the frame that its commit requested, and changes the current configuration in that frame alone.
use Rattle.plan_runs.proofs.Words.{[], ◌%◌, ◌+◌, ◌-◌, ◌<◌, ◌∙◌, ◌∷◌, ◌≡◌, ◌≤◌, ◌⊎◌, Bool, CarriesOut, CommitAt}
use Rattle.plan_runs.proofs.Words.{CommitIn, CommitsAreKept, Contact, Event, Executes, Frame, I, Instr, IsAllowed}
use Rattle.plan_runs.proofs.Words.{IsFirstWhere, IsSwapAfterDelay, IsSwapAtCount, Known, List, Mode, None, Option, Plan}
use Rattle.plan_runs.proofs.Words.{Program, Some, State, StepIsAllowed, SwapsAreOnSteps, SwapsAtCount}
use Rattle.plan_runs.proofs.Words.{SwapsChangeTheCurrent, SwapsInTime, after_burst, after_frame, ap, arith, burst}
use Rattle.plan_runs.proofs.Words.{commit, cond, count_step, effect, false, inl, inr, is_due, is_first_noticed}
use Rattle.plan_runs.proofs.Words.{layout_mode, left_after_frame, left_at, left_in, ready, refl, shown, step, subst}
use Rattle.plan_runs.proofs.Words.{suc, sym, true, zero, ℕ}
use Rattle.plan_runs.proofs.Passing.{some_is, due_is, not_due_from}
use Rattle.plan_runs.proofs.Between.{step_is, frame_goes}
use Rattle.plan_runs.proofs.Carries.{LeftBy, Carries, burst_carries}
use Rattle.plan_runs.proofs.Tracked.{SwapsOn}
use Rattle.plan_runs.proofs.Facts.{Holds, IsCode, frame_holds, happens_holds, code_of, played_holds}
use Rattle.plan_runs.proofs.Notice.{links}
use Rattle.plan_runs.proofs.Clock.{shown_current, shown_count}

-- ---- on a step

on_step_by : (plan : Plan) (count : ℕ) (left : Option ℕ) → is_due left ≡ true → SwapsOn plan count left
    → count % count_step (layout_mode plan.layout) ≡ 0
on_step_by plan count None due h = absurd cc
on_step_by plan count (Some l) due h =
    let same : count ≡ count + l = omega (arith, due_is l due) in
    ap (λ (x : ℕ). x % count_step (layout_mode plan.layout)) same ∙ h

pub swaps_are_on_steps : SwapsAreOnSteps
swaps_are_on_steps p s h due = on_step_by p.plan s.count s.left due (played_holds p s h).tracked.swaps

-- ---- the current configuration

pub swaps_change_the_current : SwapsChangeTheCurrent
swaps_change_the_current p s =
    let becomes : is_due s.left ≡ true → (shown p s).current ≡ s.next = λ due. shown_current p s true due in
    let stays : is_due s.left ≡ false → (shown p s).current ≡ s.current = λ none. shown_current p s false none in
    (record { becomes_next = becomes; stays = stays }, record { becomes_next = becomes; stays = stays })

-- ---- an instruction of a frame

-- the machine is about to execute an instruction, and reaches a suspension in this state
pub record IsMidway (p : Program) (end at : State) : Type 0 where
  pub allowed : StepIsAllowed p at
  pub more : ℕ
  pub executes : Executes p (step p at) more end

pub midway : (p : Program) (s end : State) (n k : ℕ) → Executes p s n end → k < n → IsMidway p end (burst k p s)
midway p s end zero k h below = absurd (omega (arith, below))
midway p s end (suc n) zero h below = record { allowed = h.1; more = n; executes = h.2 }
midway p s end (suc n) (suc k) h below =
    let same : burst (suc k) p s ≡ burst k p (step p s) = ap (λ (b : Bool). cond b (burst k p (step p s)) s) h.0 in
    subst (λ (t : State). IsMidway p end t) (sym same) (midway p (step p s) end n k h.2 (omega (arith, below)))

-- a commit executed in a frame: its preconditions, and the frames left after this frame's instructions
pub record IsCommitted (p : Program) (s : State) (i : Instr) (left : ℕ → ℕ) : Type 0 where
  pub at : State
  pub allowed : IsAllowed p.plan i at
  pub remains : (shown p s).left ≡ Some (left at.count)
  pub count : at.count ≡ s.count

pub left_turned : (s : State) (b : Bool) → (cond b (let r : State = record s { page_index = 0 } in r) s).left ≡ s.left
left_turned s true = refl
left_turned s false = refl

count_turned : (s : State) (b : Bool) → (cond b (let r : State = record s { page_index = 0 } in r) s).count ≡ s.count
count_turned s true = refl
count_turned s false = refl

committed : (p : Program) (ts : List Known) → IsCode p ts → (s : State) → Holds p ts s → (i : Instr) (left : ℕ → ℕ)
    → ((t : State) → effect p.plan i t ≡ commit (left t.count) t) → CarriesOut p s i → IsCommitted p s i left
committed p ts c s h i left commits (k, below, instr) =
    let goes = frame_goes p ts c.program c.typing s h.between in
    let end : State = after_burst p s in
    let at : State = burst k p (ready s) in
    let m = midway p _ end _ k goes.allowed.executes (omega (arith, below, goes.allowed.counted)) in
    let same : m.allowed.instr ≡ i = some_is m.allowed.instr i (sym m.allowed.within ∙ instr) in
    let stepped : step p at ≡ commit (left at.count) at = step_is p at i instr ∙ commits at in
    let carried : Carries p.plan (commit (left at.count) at) end =
    subst (λ (t : State). Carries p.plan t end) stepped (burst_carries p c.program (step p at) m.more end m.executes) in
    let first : Bool = is_first_noticed p.plan.notice end.left in
    record {
      at = at;
      allowed = subst (λ (j : Instr). IsAllowed p.plan j at) same m.allowed.allowed;
      remains = left_turned end first ∙ carried.left.0;
      count = sym carried.count ∙ (sym (count_turned end first) ∙ shown_count p s);
    }

-- ---- the frames from a commit to its swap

pub shown_left : (plan : Plan) (s u : State) (l : ℕ) (before : Option ℕ) → before ≡ Some l
    → LeftBy plan s.count before s.next u.left u.next → u.left ≡ Some l
shown_left plan s u l None e h = absurd cc
shown_left plan s u l (Some k) e h = h.0 ∙ e

-- the swap is due in the frame with this number, where the property holds, and it holds in none before
pub record IsAwaited (Q : ℕ → ℕ → Type 0) (number count left : ℕ) : Type 0 where
  pub here : Q (number + left) ((count + left) % 5000)
  pub none_before : (i : ℕ) → i < left → Q (number + i) ((count + i) % 5000) → ⊥

awaited_later : (Q : ℕ → ℕ → Type 0) (number count left : ℕ) → 1 ≤ left → IsAwaited Q number count left
    → IsAwaited Q (number + 1) ((count + 1) % 5000) (left - 1)
awaited_later Q number count left some h =
    record {
      here = subst (λ (x : ℕ). Q (number + 1 + (left - 1)) x) (omega (arith, some))
          (subst (λ (x : ℕ). Q x ((count + left) % 5000)) (omega (arith, some)) h.here);
      none_before = λ i below q.
          h.none_before (i + 1) (omega (arith, below))
          (subst (λ (x : ℕ). Q (number + (i + 1)) x) (omega arith)
          (subst (λ (x : ℕ). Q x (((count + 1) % 5000 + i) % 5000)) (omega arith) q));
    }

pub zero_or_more : (n : ℕ) → (n ≡ 0) ⊎ (1 ≤ n)
zero_or_more zero = inl refl
zero_or_more (suc n) = inr (omega arith)

first_due : (p : Program) (ts : List Known) → IsCode p ts
    → (Q : ℕ → ℕ → Type 0) (number left : ℕ) (s : State) (events : List Event) → Holds p ts s → s.left ≡ Some left
    → IsAwaited Q number s.count left → IsFirstWhere (λ t. is_due t.left) (λ later t. Q later t.count) number p s events
first_due p ts c Q number left s [] h is w = tt
first_due p ts c Q number left s (Contact d closed ∷ es) h is w =
    first_due p ts c Q number left _ es (happens_holds p ts c s (Contact d closed) h) is w
first_due p ts c Q number left s (Frame ∷ es) h is w =
    elim (zero_or_more left) [
      | inl none ↦
          let due : is_due s.left ≡ true = ap is_due is ∙ ap (λ (x : ℕ). is_due (Some x)) none in
          let place : number + left ≡ number = omega (arith, none) in
          let when : (s.count + left) % 5000 ≡ s.count = omega (arith, none) in
          inl (due, subst (λ (x : ℕ). Q number x) when (subst (λ (x : ℕ). Q x ((s.count + left) % 5000)) place w.here))
      | inr some ↦
          let waits : is_due s.left ≡ false = ap is_due is ∙ not_due_from (Some left) some in
          let link = links p ts c s h in
          let remains = ap left_after_frame (shown_left p.plan s (shown p s) left s.left is (link.left waits)) in
          let when : s.count ≡ (s.count + 0) % 5000 = omega arith in
          let later : IsAwaited Q (number + 1) (after_frame p s).count (left - 1) =
          rw (← ap (λ (x : ℕ). (x + 1) % 5000) (sym link.count)) (awaited_later Q number s.count left some w) in
          inr (
            waits,
            (λ q. w.none_before 0 (omega (arith, some))
                (subst (λ (x : ℕ). Q (number + 0) x) when (subst (λ (x : ℕ). Q x s.count) (omega arith) q))),
            first_due p ts c Q (number + 1) (left - 1) (after_frame p s) es (frame_holds p ts c s h) remains later,
          )
    ]

-- after the frame of a commit
first_after : (p : Program) (ts : List Known) → IsCode p ts
    → (Q : ℕ → ℕ → Type 0) (left : ℕ) (s : State) (events : List Event) → Holds p ts s → 1 ≤ left
    → (shown p s).left ≡ Some left
    → IsAwaited Q 0 s.count left → IsFirstWhere (λ t. is_due t.left) (λ later t. Q later t.count) 1 p (after_frame p s)
    events
first_after p ts c Q left s events h some is w =
    let counted = ap (λ (x : ℕ). (x + 1) % 5000) (sym (shown_count p s)) in
    let later = subst (λ (x : ℕ). IsAwaited Q 1 x (left - 1)) counted (awaited_later Q 0 s.count left some w) in
    first_due p ts c Q 1 (left - 1) (after_frame p s) events (frame_holds p ts c s h) (ap left_after_frame is) later

-- ---- the commits

comes_at_count : SwapsAtCount → (p : Program) (ts : List Known) → IsCode p ts
    → (s : State) (n : ℕ) (events : List Event) → Holds p ts s → IsSwapAtCount n p s events
comes_at_count least p ts c s n events h carries =
    let m = committed p ts c s h (CommitAt n) (λ count. left_at count p.plan.notice n) (λ t. refl) carries in
    let r : ℕ = left_at m.at.count p.plan.notice n in
    let first = least m.at.count p.plan.notice n m.allowed.1.1 in
    let some : 1 ≤ r = omega (arith, first.reached, c.program.planned.notice_from) in
    let Q : ℕ → ℕ → Type 0 = λ later count. (p.plan.notice ≤ later) × (count ≡ n) in
    let awaited : IsAwaited Q 0 m.at.count r =
    record {
      here = (omega (arith, first.reached), first.holds);
      none_before = λ i below q. let no_less = first.first i (omega (arith, q.0)) q.1 in omega (arith, no_less, below);
    } in
    first_after p ts c Q r s events h some m.remains (subst (λ (x : ℕ). IsAwaited Q 0 x r) m.count awaited)

whole_turns : (m : Mode) (a : ℕ) → a % 5000 % count_step m ≡ a % count_step m
whole_turns I a = omega arith
whole_turns _ a = omega arith

comes_in_time : SwapsInTime → (p : Program) (ts : List Known) → IsCode p ts → (s : State) (k : ℕ) (events : List Event)
    → Holds p ts s → IsSwapAfterDelay k p s events
comes_in_time least p ts c s k events h carries =
    let mode : Mode = layout_mode p.plan.layout in
    let m = committed p ts c s h (CommitIn k) (λ count. left_in (count_step mode) count k) (λ t. refl) carries in
    let r : ℕ = left_in (count_step mode) m.at.count k in
    let first = least mode m.at.count k in
    let some : 1 ≤ r = omega (arith, first.reached, c.program.planned.notice_from) in
    let Q : ℕ → ℕ → Type 0 = λ later count. (k ≤ later) × (count % count_step mode ≡ 0) in
    let awaited : IsAwaited Q 0 m.at.count r =
    record {
      here = (omega (arith, first.reached), whole_turns mode (m.at.count + r) ∙ first.holds);
      none_before = λ i below q.
          let no_less = first.first i (omega (arith, q.0)) (sym (whole_turns mode (m.at.count + i)) ∙ q.1) in
          omega (arith, no_less, below);
    } in
    first_after p ts c Q r s events h some m.remains (subst (λ (x : ℕ). IsAwaited Q 0 x r) m.count awaited)

pub commits_are_kept : SwapsInTime → SwapsAtCount → CommitsAreKept
commits_are_kept in_time at_count p s n events h =
    let ts : List Known = h.typed.0 in
    let c = code_of p s h in (
      comes_at_count at_count p ts c s n events (played_holds p s h),
      comes_in_time in_time p ts c s n events (played_holds p s h),
    )
