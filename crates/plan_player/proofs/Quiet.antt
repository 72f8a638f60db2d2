-- Quiet frames: what they are, from the state alone, and how many there are.
use Rattle.plan_player.proofs.Words.{◌%◌, ◌+◌, ◌==◌, ◌||◌, ◌∙◌, ◌∷◌, ◌≡◌, ◌≤◌, AreQuiet, Bool, DayIsAway, Ended}
use Rattle.plan_player.proofs.Words.{FRAMES_A_DAY, Frame, Hold, HoldIsAway, IfSome, IsQuiet, List, None, Option, Plan}
use Rattle.plan_player.proofs.Words.{Program, QuietFramesAreCopied, Running, Some, State, SwapIsAway, Waits, WaitsAny}
use Rattle.plan_player.proofs.Words.{WaitsContact, WaitsDay, WaitsSwap, after_burst, after_frame, ap, arith}
use Rattle.plan_player.proofs.Words.{burst_steps, cond, eqb-true, false, frame_bytes, frame_steps}
use Rattle.plan_player.proofs.Words.{hold_after_frame, is_day, is_due, is_first_noticed, is_here, is_running}
use Rattle.plan_player.proofs.Words.{last_steps, left_after_frame, notice_frames, or_from, ready, refl}
use Rattle.plan_player.proofs.Words.{replicate, run_frames, shown, shown_bytes, still_stops, subst, suc, sym, true}
use Rattle.plan_player.proofs.Words.{with_due_swap, with_next_counts, with_swap, zero, ℕ}
use Rattle.plan_code.specs.Flags.{is_closed, any_closed, any_open}
use Rattle.mux_config.specs.Sameness.{is_same_flag}
use Rattle.plan_runs.proofs.Waits.{burst_stays}

-- ---- a quiet frame

abbrev resumed : State → State
resumed s = record s { hold = Running }

no_swap_due : (s : State) (b : Bool) → b ≡ false → cond b (with_swap s) s ≡ s
no_swap_due s true e = absurd cc
no_swap_due s false e = refl

not_resumed : (s : State) (b : Bool) → is_running (cond b (resumed s) s).hold ≡ false → cond b (resumed s) s ≡ s
not_resumed s true e = absurd cc
not_resumed s false e = refl

is_ready : (p : Program) (s : State) → is_due s.left ≡ false → is_running (ready s).hold ≡ false → ready s ≡ s
is_ready p s no_swap suspended =
    let unswapped : with_due_swap s ≡ s = no_swap_due s (is_due s.left) no_swap in
    rw (unswapped) (not_resumed s (is_here s s.hold) (rw (← unswapped) suspended))

held_steps : (most : ℕ) (p : Program) (s : State) → is_running s.hold ≡ false → burst_steps most p s ≡ 0
held_steps zero p s held = refl
held_steps (suc most) p s held = rw held refl

abbrev at_first_page : State → State
at_first_page s = record s { page_index = 0 }

no_phase_begun : (s : State) (b : Bool) → b ≡ false → cond b (at_first_page s) s ≡ s
no_phase_begun s true e = absurd cc
no_phase_begun s false e = refl

left_kept : (s : State) (b : Bool) → (cond b (at_first_page s) s).left ≡ s.left
left_kept s true = refl
left_kept s false = refl

or_false : (a b : Bool) → (a || b) ≡ false → b ≡ false
or_false true b e = absurd cc
or_false false b e = e

-- a quiet frame, from the state alone
pub record Stays (p : Program) (s : State) : Type 0 where
  pub shows : shown p s ≡ s
  pub bytes : frame_bytes p s ≡ shown_bytes p.plan s
  pub after : after_frame p s ≡ with_next_counts p.plan s
  pub no_steps : frame_steps p s ≡ 0
  pub no_notice : is_first_noticed p.plan.notice s.left ≡ false

pub stays : (p : Program) (s : State) → IsQuiet p s → Stays p s
stays p s quiet =
    let at : ready s ≡ s = is_ready p s quiet.no_swap quiet.suspended in
    let held : is_running s.hold ≡ false = rw (← at) quiet.suspended in
    let ran : after_burst p s ≡ s = rw (at) (burst_stays p.plan.budget p s held) in
    let notice = p.plan.notice in
    let left : (shown p s).left ≡ s.left = left_kept _ _ ∙ ap (λ (t : State). t.left) ran in
    let later : is_first_noticed notice s.left ≡ false = rw (← left)
    (or_false (is_due s.left) (is_first_noticed notice (shown p s).left) quiet.no_phase) in
    let same : shown p s ≡ s = rw (ran) (no_phase_begun s (is_first_noticed notice s.left) later) in
    record {
      shows = same;
      bytes = ap (λ (t : State). shown_bytes p.plan t) same;
      after = rw (same) refl;
      no_steps = rw (at) (held_steps p.plan.budget p s held);
      no_notice = later;
    }

-- ---- quiet frames one after another

pub quiet_frames_are_copied : QuietFramesAreCopied
quiet_frames_are_copied p zero s quiet = record { frames = refl; state = refl; no_steps = refl }
quiet_frames_are_copied p (suc n) s quiet =
    let now = stays p s quiet.0 in
    let later = quiet_frames_are_copied p n (after_frame p s) quiet.1 in
    record {
      frames = ap (λ (f : List ℕ). f ∷ run_frames p (after_frame p s) (replicate n Frame)) now.bytes
          ∙ ap (λ (fs : List (List ℕ)). shown_bytes p.plan s ∷ fs)
          (later.frames ∙ ap (λ (t : State). notice_frames p.plan n t) now.after);
      state = rw (← now.after) later.state;
      no_steps = ap (λ (k : ℕ). last_steps p (after_frame p s) k (replicate n Frame)) now.no_steps ∙ later.no_steps;
    }

-- ---- counting them

pub fewer_swap : (notice : ℕ) (left : Option ℕ) (m n : ℕ) → n ≤ m → SwapIsAway notice left m → SwapIsAway notice left n
fewer_swap notice None m n le away = tt
fewer_swap notice (Some l) m n le away = (omega (arith, le, away.0), λ from. omega (arith, le, away.1 from))

pub fewer_day : (day t m n : ℕ) → n ≤ m → DayIsAway day m t → DayIsAway day n t
fewer_day day t m n le away = λ some.
    let at = away (omega (arith, le, some)) in
    (omega (arith, le, at.0), λ before. omega (arith, le, at.1 before))

pub fewer_until : (day : ℕ) (until : Option ℕ) (m n : ℕ) → n ≤ m → IfSome until (DayIsAway day m)
    → IfSome until (DayIsAway day n)
fewer_until day None m n le away = tt
fewer_until day (Some t) m n le away = fewer_day day t m n le away

pub fewer_left : (left : Option ℕ) (m n : ℕ) → n ≤ m → IfSome left (λ k. m ≤ k) → IfSome left (λ k. n ≤ k)
fewer_left None m n le away = tt
fewer_left (Some k) m n le away = omega (arith, le, away)

pub fewer_hold : (s : State) (hold : Hold) (m n : ℕ) → n ≤ m → HoldIsAway s hold m → HoldIsAway s hold n
fewer_hold s Running m n le away = omega (arith, le, away)
fewer_hold s (Waits frames) m n le away = omega (arith, le, away)
fewer_hold s (WaitsDay t) m n le away = fewer_day s.day t m n le away
fewer_hold s (WaitsContact c closed) m n le away = λ here. omega (arith, le, away here)
fewer_hold s (WaitsAny closed opened until left) m n le away = record {
  closed_away = λ here. omega (arith, le, away.closed_away here);
  opened_away = λ here. omega (arith, le, away.opened_away here);
  until_away = fewer_until s.day until m n le away.until_away;
  left_away = fewer_left left m n le away.left_away;
}
fewer_hold s WaitsSwap m n le away = tt
fewer_hold s Ended m n le away = tt

not_zero : (l : ℕ) → 1 ≤ l → (b : Bool) → (l == 0) ≡ b → b ≡ false
not_zero l some true e = absurd (omega (arith, some, eqb-true l 0 e))
not_zero l some false e = refl

not_due : (notice : ℕ) (left : Option ℕ) (n : ℕ) → SwapIsAway notice left (suc n) → is_due left ≡ false
not_due notice None n away = refl
not_due notice (Some l) n away = not_zero l (omega (arith, away.0)) (l == 0) refl

not_noticed : (notice : ℕ) (left : Option ℕ) (n : ℕ) → SwapIsAway notice left (suc n) → (b : Bool)
    → is_first_noticed notice left ≡ b → b ≡ false
not_noticed notice None n away b e = sym e
not_noticed notice (Some l) n away true e =
    absurd (omega (arith, eqb-true l notice e, away.1 (omega (arith, eqb-true l notice e))))
not_noticed notice (Some l) n away false e = refl

swap_nearer : (notice : ℕ) (left : Option ℕ) (n : ℕ) → SwapIsAway notice left (suc n)
    → SwapIsAway notice (left_after_frame left) n
swap_nearer notice None n away = tt
swap_nearer notice (Some l) n away = (omega (arith, away.0), λ from. omega (arith, from, away.1 (omega (arith, from))))

day_not_here : (day t n : ℕ) → (day ≤ t → day + suc n ≤ t) → (b : Bool) → (day == t) ≡ b → b ≡ false
day_not_here day t n before true e =
    absurd (omega (arith, eqb-true day t e, before (omega (arith, eqb-true day t e))))
day_not_here day t n before false e = refl

contact_not_here : (here : Bool) (n : ℕ) → (here ≡ true → suc n ≡ 0) → here ≡ false
contact_not_here true n away = let none : suc n ≡ 0 = away refl in absurd (omega (arith, none))
contact_not_here false n away = refl

until_not_here : (day : ℕ) (until : Option ℕ) (n : ℕ) → IfSome until (DayIsAway day (suc n)) → is_day day until ≡ false
until_not_here day None n away = refl
until_not_here day (Some t) n away = day_not_here day t n (away (omega arith)).1 (day == t) refl

left_not_here : (left : Option ℕ) (n : ℕ) → IfSome left (λ k. suc n ≤ k) → is_due left ≡ false
left_not_here None n away = refl
left_not_here (Some k) n away = not_zero k (omega (arith, away)) (k == 0) refl

not_here : (s : State) (hold : Hold) (n : ℕ) → HoldIsAway s hold (suc n) → is_here s hold ≡ false
not_here s Running n away = absurd (omega (arith, away))
not_here s (Waits k) n away = not_zero k (omega (arith, away)) (k == 0) refl
not_here s (WaitsDay t) n away = day_not_here s.day t n (away (omega arith)).1 (s.day == t) refl
not_here s (WaitsContact c closed) n away = contact_not_here (is_same_flag (is_closed s.contacts c) closed) n away
not_here s (WaitsAny closed opened until left) n away =
    or_from (any_closed closed s.contacts) _ (contact_not_here (any_closed closed s.contacts) n away.closed_away)
    (or_from (any_open opened s.contacts) _ (contact_not_here (any_open opened s.contacts) n away.opened_away)
    (or_from (is_day s.day until) _ (until_not_here s.day until n away.until_away)
    (left_not_here left n away.left_away)))
not_here s _ n away = refl

not_ended : (s : State) (b : Bool) → b ≡ false → cond b (resumed s) s ≡ s
not_ended s true e = absurd cc
not_ended s false e = refl

-- or_from a swap nor a notice nor the end of the wait falls on the next frame
pub is_quiet : (p : Program) (s : State) (n : ℕ) → SwapIsAway p.plan.notice s.left (suc n) → HoldIsAway s s.hold (suc n)
    → IsQuiet p s
is_quiet p s n swap hold =
    let notice = p.plan.notice in
    let due : is_due s.left ≡ false = not_due notice s.left n swap in
    let here : is_here s s.hold ≡ false = not_here s s.hold n hold in
    let at : ready s ≡ s = rw ((no_swap_due s (is_due s.left) due)) (not_ended s (is_here s s.hold) here) in
    let held : is_running s.hold ≡ false = still_stops s s.hold here in
    let ran : after_burst p s ≡ s = rw (at) (burst_stays p.plan.budget p s held) in
    let left : (shown p s).left ≡ s.left = left_kept _ _ ∙ ap (λ (t : State). t.left) ran in
    let later : is_first_noticed notice (shown p s).left ≡ false =
    rw (left) (not_noticed notice s.left n swap (is_first_noticed notice s.left) refl) in
    record {
      no_swap = due;
      suspended = rw (at) held;
      no_phase = or_from (is_due s.left) (is_first_noticed notice (shown p s).left) due later;
    }

day_nearer : (day t n : ℕ) → DayIsAway day (suc n) t → DayIsAway ((day + 1) % FRAMES_A_DAY) n t
day_nearer day t n away = λ some.
    let at = away (omega arith) in
    (omega (arith, at.0), λ before. omega (arith, at.1 (omega (arith, before))))

until_nearer : (day : ℕ) (until : Option ℕ) (n : ℕ) → IfSome until (DayIsAway day (suc n))
    → IfSome until (DayIsAway ((day + 1) % FRAMES_A_DAY) n)
until_nearer day None n away = tt
until_nearer day (Some t) n away = day_nearer day t n away

left_nearer : (left : Option ℕ) (n : ℕ) → IfSome left (λ k. suc n ≤ k) → IfSome (left_after_frame left) (λ k. n ≤ k)
left_nearer None n away = tt
left_nearer (Some k) n away = omega (arith, away)

none_before : (n : ℕ) → suc n ≡ 0 → n ≡ 0
none_before n none = absurd (omega (arith, none))

hold_nearer : (plan : Plan) (s : State) (hold : Hold) (n : ℕ) → HoldIsAway s hold (suc n)
    → HoldIsAway (with_next_counts plan s) (hold_after_frame hold) n
hold_nearer plan s Running n away = absurd (omega (arith, away))
hold_nearer plan s (Waits k) n away = omega (arith, away)
hold_nearer plan s (WaitsDay t) n away = day_nearer s.day t n away
hold_nearer plan s (WaitsContact c closed) n away = λ here.
    absurd (omega (arith, away here))
hold_nearer plan s (WaitsAny closed opened until left) n away = record {
  closed_away = λ here. none_before n (away.closed_away here);
  opened_away = λ here. none_before n (away.opened_away here);
  until_away = until_nearer s.day until n away.until_away;
  left_away = left_nearer left n away.left_away;
}
hold_nearer plan s _ n away = tt

pub are_quiet : (p : Program) (s : State) (n : ℕ) → SwapIsAway p.plan.notice s.left n → HoldIsAway s s.hold n
    → AreQuiet p n s
are_quiet p s zero swap hold = tt
are_quiet p s (suc n) swap hold =
    let quiet = is_quiet p s n swap hold in
    let on : State = with_next_counts p.plan s in
    let later = are_quiet p on n (swap_nearer p.plan.notice s.left n swap) (hold_nearer p.plan s s.hold n hold) in
    (quiet, subst (λ (t : State). AreQuiet p n t) (sym (stays p s quiet).after) later)
