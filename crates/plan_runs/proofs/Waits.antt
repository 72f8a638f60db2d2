-- A suspended code resumes in the first frame with which its wait ends.
use Rattle.plan_runs.proofs.Words.{[], ◌+◌, ◌-◌, ◌==◌, ◌∙◌, ◌∷◌, ◌≡◌, ◌≤◌, Bool, CarriesOut, Contact, Contacts, End}
use Rattle.plan_runs.proofs.Words.{Ended, Event, Executes, Frame, HasCome, Hold, IfSome, Instr, InstructionsSuspend}
use Rattle.plan_runs.proofs.Words.{IsFirstWhere, IsInstr, IsPlayed, Join, List, None, Option, Program, Running, Some}
use Rattle.plan_runs.proofs.Words.{State, Until, Wait, WaitAny, WaitContact, Waits, WaitsAny, WaitsAreKept}
use Rattle.plan_runs.proofs.Words.{WaitsContact, WaitsDay, WaitsSwap, after_burst, after_frame, any_closed, any_open}
use Rattle.plan_runs.proofs.Words.{ap, arith, burst, burst_steps, cond, effect, eq-eqb, eqb-false, eqb-true, false}
use Rattle.plan_runs.proofs.Words.{happens, hold_after_frame, hold_after_swap, inl, inr, is_active, is_any_here}
use Rattle.plan_runs.proofs.Words.{is_closed, is_day, is_due, is_first_noticed, is_here, is_running, is_same_flag}
use Rattle.plan_runs.proofs.Words.{le-leb, left_after_frame, nat_le, or_cases, or_left, or_right, ready, refl, shown}
use Rattle.plan_runs.proofs.Words.{step, subst, suc, sym, true, with_due_swap, with_swap, zero, ℕ}
use Rattle.plan_code.proofs.Meeting.{closed_is, is_closed_one, open_is, is_open_one}
use Rattle.plan_runs.proofs.Between.{line_formed, step_is, frame_goes, not_due, still_stops}
use Rattle.plan_runs.proofs.Steps.{IsSuspended}
use Rattle.plan_runs.proofs.Facts.{code_of, played_holds}
use Rattle.plan_runs.proofs.Swaps.{midway}

-- ---- the wait ends with the frame from this state

abbrev ends_by : State → Hold → Bool
ends_by s Running = true
ends_by s (Waits n) = n == 0
ends_by s (WaitsDay t) = s.day == t
ends_by s (WaitsContact c closed) = is_same_flag (is_closed s.contacts c) closed
ends_by s (WaitsAny closed opened until left) = is_any_here s closed opened until left
ends_by s WaitsSwap = is_due s.left
ends_by s Ended = false

after_swap : (s : State) (h : Hold) → is_due s.left ≡ true → is_here (with_swap s) (hold_after_swap h) ≡ ends_by s h
after_swap s WaitsSwap due = sym due
after_swap s _ due = refl

without_swap : (s : State) (h : Hold) → is_due s.left ≡ false → is_here s h ≡ ends_by s h
without_swap s WaitsSwap due = sym due
without_swap s _ due = refl

ends_is : (s : State) (due : Bool) → is_due s.left ≡ due
    → is_here (cond due (with_swap s) s) (cond due (with_swap s) s).hold ≡ ends_by s s.hold
ends_is s true e = after_swap s s.hold e
ends_is s false e = without_swap s s.hold e

-- ---- then, and only then, the frame executes instructions

steps_by : (budget : ℕ) (p : Program) (s : State) (runs : Bool) → is_running s.hold ≡ runs → 1 ≤ budget
    → nat_le 1 (burst_steps budget p s) ≡ runs
steps_by zero p s runs e some = absurd (omega (arith, some))
steps_by (suc most) p s true e some = cc (e, le-leb 1 (1 + burst_steps most p (step p s)) (omega arith))
steps_by (suc most) p s false e some = ap (λ (b : Bool). nat_le 1 (cond b (1 + burst_steps most p (step p s)) 0)) e

ready_runs : (s : State) (here : Bool) → is_here s s.hold ≡ here
    → is_running (cond here (let r : State = record s { hold = Running } in r) s).hold ≡ here
ready_runs s true e = refl
ready_runs s false e = still_stops s s.hold e

active_is : (p : Program) (s : State) → 1 ≤ p.plan.budget → is_active p s ≡ ends_by s s.hold
active_is p s some =
    let t : State = with_due_swap s in
    steps_by _ p _ _ (ready_runs t _ refl) some ∙ ends_is s _ refl

-- ---- otherwise it is still suspended after the frame

pub burst_stays : (most : ℕ) (p : Program) (s : State) → is_running s.hold ≡ false → burst most p s ≡ s
burst_stays zero p s e = refl
burst_stays (suc most) p s e = ap (λ (b : Bool). cond b (burst most p (step p s)) s) e

hold_turned : (s : State) (b : Bool) → (cond b (let r : State = record s { page_index = 0 } in r) s).hold ≡ s.hold
hold_turned s true = refl
hold_turned s false = refl

hold_shown : (p : Program) (s : State) → (shown p s).hold ≡ (after_burst p s).hold
hold_shown p s = hold_turned (after_burst p s) (is_first_noticed p.plan.notice (after_burst p s).left)

hold_swapped : (s : State) (h : Hold) → is_due s.left ≡ true → ends_by s h ≡ false → hold_after_swap h ≡ h
hold_swapped s WaitsSwap due away = let clash : true ≡ false = sym due ∙ away in absurd cc
hold_swapped s _ due away = refl

hold_begun : (s : State) (due : Bool) → is_due s.left ≡ due → ends_by s s.hold ≡ false
    → (cond due (with_swap s) s).hold ≡ s.hold
hold_begun s true e away = hold_swapped s s.hold e away
hold_begun s false e away = refl

still_held : (p : Program) (s : State) → ends_by s s.hold ≡ false → (after_frame p s).hold ≡ hold_after_frame s.hold
still_held p s away =
    let t : State = with_due_swap s in
    let not_here : is_here t t.hold ≡ false = ends_is s (is_due s.left) refl ∙ away in
    let same : ready s ≡ t = ap (λ (b : Bool). cond b (let r : State = record t { hold = Running } in r) t) not_here in
    let rests = ap (λ (x : State). is_running x.hold) same ∙ still_stops t t.hold not_here in
    let held : (shown p s).hold ≡ s.hold =
    cc (hold_shown p s, burst_stays p.plan.budget p (ready s) rests, same, hold_begun s (is_due s.left) refl away) in
    ap hold_after_frame held

-- ---- frame by frame

-- the frames that are left of a number of them, if there is one, n frames later
abbrev fewer : ℕ → Option ℕ → Option ℕ
fewer n None = None
fewer n (Some k) = Some (k - n)

abbrev AreLeft : ℕ → Option ℕ → Type 0
AreLeft n frames = IfSome frames (λ k. n ≤ k)

fewer_later : (n : ℕ) (frames : Option ℕ) → left_after_frame (fewer n frames) ≡ fewer (n + 1) frames
fewer_later n None = refl
fewer_later n (Some k) = let same : k - n - 1 ≡ k - (n + 1) = omega arith in ap (λ (m : ℕ). Some m) same

fewer_first : (frames : Option ℕ) → left_after_frame frames ≡ fewer 1 frames
fewer_first _ = refl

left_later : (n : ℕ) (frames : Option ℕ) → AreLeft n frames → is_due (fewer n frames) ≡ false → AreLeft (n + 1) frames
left_later n None left away = tt
left_later n (Some k) left away = let apart = eqb-false (k - n) 0 away in omega (arith, apart, left)

-- one of the alternatives is met exactly if the wait has come to its end
frames_over : (n : ℕ) (frames : Option ℕ) → AreLeft n frames → is_due (fewer n frames) ≡ true → frames ≡ Some n
frames_over n None left due = absurd cc
frames_over n (Some k) left due = let none = eqb-true (k - n) 0 due in let same : k ≡ n = omega (arith, none, left) in
    ap (λ (m : ℕ). Some m) same

over_frames : (n : ℕ) (frames : Option ℕ) → frames ≡ Some n → is_due (fewer n frames) ≡ true
over_frames n frames is = ap (λ (o : Option ℕ). is_due (fewer n o)) is ∙ eq-eqb (n - n) 0 (omega arith)

day_is : (day : ℕ) (until : Option ℕ) → is_day day until ≡ true → until ≡ Some day
day_is day None here = absurd cc
day_is day (Some t) here = let same = eqb-true day t here in ap (λ (m : ℕ). Some m) (sym same)

alternative : (s : State) (closed opened : Contacts) (until frames : Option ℕ) (n : ℕ) → AreLeft n frames
    → is_any_here s closed opened until (fewer n frames) ≡ true
    → HasCome (WaitsAny closed opened until frames) n s
alternative s closed opened until frames n left here =
    elim (or_cases (any_closed closed s.contacts) _ here) [
      | inl level ↦ inl (closed_is closed s.contacts level)
      | inr others ↦ inr (elim (or_cases (any_open opened s.contacts) _ others) [
        | inl level ↦ inl (open_is opened s.contacts level)
        | inr times ↦ inr (elim (or_cases (is_day s.day until) _ times) [
          | inl day ↦ inl (day_is s.day until day)
          | inr due ↦ inr (frames_over n frames left due)
        ])
      ])
    ]

by_alternative : (s : State) (closed opened : Contacts) (until frames : Option ℕ) (n : ℕ)
    → HasCome (WaitsAny closed opened until frames) n s
    → is_any_here s closed opened until (fewer n frames) ≡ true
by_alternative s closed opened until frames n came =
    elim came [
      | inl level ↦ or_left (any_closed closed s.contacts) _
          (is_closed_one closed s.contacts level.0 level.1 level.2 level.3)
      | inr others ↦ or_right (any_closed closed s.contacts) _ (elim others [
        | inl level ↦ or_left (any_open opened s.contacts) _
            (is_open_one opened s.contacts level.0 level.1 level.2 level.3)
        | inr times ↦ or_right (any_open opened s.contacts) _ (elim times [
          | inl day ↦ or_left (is_day s.day until) _ (ap (is_day s.day) day ∙ eq-eqb s.day s.day refl)
          | inr over ↦ or_right (is_day s.day until) _ (over_frames n frames over)
        ])
      ])
    ]

-- the hold before the n-th frame after one that left the machine in `hold`
abbrev IsHeld : Hold → ℕ → Hold → Type 0
IsHeld Running n h = ⊥
IsHeld (Waits frames) n h = (h ≡ Waits (frames - n)) × (n ≤ frames)
IsHeld (WaitsDay t) n h = h ≡ WaitsDay t
IsHeld (WaitsContact c closed) n h = h ≡ WaitsContact c closed
IsHeld (WaitsAny closed opened until frames) n h = (h ≡ WaitsAny closed opened until (fewer n frames))
    × AreLeft n frames
IsHeld WaitsSwap n h = h ≡ WaitsSwap
IsHeld Ended n h = h ≡ Ended

same_flag : (a b : Bool) → is_same_flag a b ≡ true → a ≡ b
same_flag true false e = absurd cc
same_flag false true e = absurd cc
same_flag _ _ e = refl

flag_same : (a b : Bool) → a ≡ b → is_same_flag a b ≡ true
flag_same true false e = absurd cc
flag_same false true e = absurd cc
flag_same _ _ e = refl

has_come : (hold : Hold) (n : ℕ) (s : State) (h : Hold) → IsHeld hold n h → ends_by s h ≡ true → HasCome hold n s
has_come Running n s h held e = held
has_come (Waits frames) n s h held e =
    omega (arith, eqb-true (frames - n) 0 (sym (ap (ends_by s) held.0) ∙ e), held.1)
has_come (WaitsDay t) n s h held e = eqb-true s.day t (sym (ap (ends_by s) held) ∙ e)
has_come (WaitsContact c closed) n s h held e = same_flag _ closed (sym (ap (ends_by s) held) ∙ e)
has_come (WaitsAny closed opened until frames) n s h held e =
    alternative s closed opened until frames n held.1 (sym (ap (ends_by s) held.0) ∙ e)
has_come WaitsSwap n s h held e = sym (ap (ends_by s) held) ∙ e
has_come Ended n s h held e = let clash : false ≡ true = sym (ap (ends_by s) held) ∙ e in absurd cc

not_yet : (hold : Hold) (n : ℕ) (s : State) (h : Hold) → IsHeld hold n h → ends_by s h ≡ false → HasCome hold n s → ⊥
not_yet (Waits frames) n s h held e came =
    eqb-false (frames - n) 0 (sym (ap (ends_by s) held.0) ∙ e) (omega (arith, came))
not_yet (WaitsDay t) n s h held e came = eqb-false s.day t (sym (ap (ends_by s) held) ∙ e) came
not_yet (WaitsContact c closed) n s h held e came =
    let clash : true ≡ false = sym (flag_same (is_closed s.contacts c) closed came) ∙ sym (ap (ends_by s) held) ∙ e in
    absurd cc
not_yet (WaitsAny closed opened until frames) n s h held e came =
    let clash = sym (by_alternative s closed opened until frames n came) ∙ sym (ap (ends_by s) held.0) ∙ e in
    absurd cc
not_yet WaitsSwap n s h held e came = let clash : true ≡ false = sym came ∙ sym (ap (ends_by s) held) ∙ e in absurd cc
not_yet _ n s h held e came = came

held_later : (hold : Hold) (n : ℕ) (s : State) (h : Hold) → IsHeld hold n h → ends_by s h ≡ false
    → IsHeld hold (n + 1) (hold_after_frame h)
held_later Running n s h held e = held
held_later (Waits frames) n s h held e =
    let over : (frames - n == 0) ≡ false = sym (ap (ends_by s) held.0) ∙ e in
    let fewer : frames - n - 1 ≡ frames - (n + 1) = omega arith in
    (ap hold_after_frame held.0 ∙ ap (λ (k : ℕ). Waits k) fewer, omega (arith, eqb-false (frames - n) 0 over, held.1))
held_later (WaitsAny closed opened until frames) n s h held e =
    let away = not_due s closed opened until (fewer n frames) (sym (ap (ends_by s) held.0) ∙ e) in (
      ap hold_after_frame held.0 ∙ ap (λ (left : Option ℕ). WaitsAny closed opened until left) (fewer_later n frames),
      left_later n frames held.1 away,
    )
held_later _ n s h held e = ap hold_after_frame held

frame_waits : (p : Program) (hold : Hold) (n : ℕ) (s : State) (es : List Event) → 1 ≤ p.plan.budget
    → IsHeld hold n s.hold
    → (IsHeld hold (n + 1) (after_frame p s).hold → IsFirstWhere (is_active p) (HasCome hold) (n + 1) p
    (after_frame p s) es)
    → (ends : Bool) → ends_by s s.hold ≡ ends → IsFirstWhere (is_active p) (HasCome hold) n p s (Frame ∷ es)
frame_waits p hold n s es some held rest true e = inl (active_is p s some ∙ e, has_come hold n s s.hold held e)
frame_waits p hold n s es some held rest false e =
    let later : IsHeld hold (n + 1) (after_frame p s).hold =
    subst (λ (h : Hold). IsHeld hold (n + 1) h) (sym (still_held p s e)) (held_later hold n s s.hold held e) in
    inr (active_is p s some ∙ e, not_yet hold n s s.hold held e, rest later)

waits_from : (p : Program) (hold : Hold) (n : ℕ) (s : State) (events : List Event) → 1 ≤ p.plan.budget
    → IsHeld hold n s.hold
    → IsFirstWhere (is_active p) (HasCome hold) n p s events
waits_from p hold n s [] some held = tt
waits_from p hold n s (Contact c closed ∷ es) some held =
    waits_from p hold n (happens p s (Contact c closed)) es some held
waits_from p hold n s (Frame ∷ es) some held =
    frame_waits p hold n s es some held (λ later. waits_from p hold (n + 1) (after_frame p s) es some later) _ refl

held_first : (h : Hold) → IsSuspended h → IsHeld h 1 (hold_after_frame h)
held_first Running e = absurd e
held_first (Waits n) e = (refl, e)
held_first (WaitsAny closed opened until frames) e =
    (ap (λ (left : Option ℕ). WaitsAny closed opened until left) (fewer_first frames), e)
held_first _ e = refl

pub waits_are_kept : WaitsAreKept
waits_are_kept p s events h =
    let c = code_of p s h in
    let goes = frame_goes p h.typed.0 c.program c.typing s (played_holds p s h).between in
    waits_from p (shown p s).hold 1 (after_frame p s) events h.program.planned.budget_from
    (held_first (shown p s).hold (subst IsSuspended (sym (hold_shown p s)) goes.suspends.stops))

-- ---- instructions that suspend

suspended_end : (p : Program) (s end : State) (n : ℕ) → is_running s.hold ≡ false → Executes p s n end → s ≡ end
suspended_end p s end zero stops h = h.1
suspended_end p s end (suc n) stops h = let clash : true ≡ false = sym h.0 ∙ stops in absurd cc

leaves : (p : Program) (s : State) (i : Instr) (hold : Hold) → IsPlayed p s → (IsInstr i → is_running hold ≡ false)
    → ((t : State) → (effect p.plan i t).hold ≡ hold) → CarriesOut p s i → (shown p s).hold ≡ hold
leaves p s i hold h stops holds (k, below, instr) =
    let c = code_of p s h in
    let goes = frame_goes p h.typed.0 c.program c.typing s (played_holds p s h).between in
    let at : State = burst k p (ready s) in
    let m = midway p _ _ _ k goes.allowed.executes (omega (arith, below, goes.allowed.counted)) in
    let now : (step p at).hold ≡ hold = ap (λ (t : State). t.hold) (step_is p at i instr) ∙ holds at in
    let formed : IsInstr i = line_formed p.lines at.pc i h.program.lines_formed instr in
    let end = suspended_end p (step p at) (after_burst p s) m.more (ap is_running now ∙ stops formed) m.executes in
    hold_shown p s ∙ ap (λ (t : State). t.hold) (sym end) ∙ now

pub instructions_suspend : InstructionsSuspend
instructions_suspend p s (Wait n) h carries = leaves p s (Wait n) (Waits n) h (λ formed. refl) (λ t. refl) carries
instructions_suspend p s (Until d) h carries = leaves p s (Until d) (WaitsDay d) h (λ formed. refl) (λ t. refl) carries
instructions_suspend p s (WaitContact d closed) h carries = leaves p s _ _ h (λ formed. refl) (λ t. refl) carries
instructions_suspend p s (WaitAny closed opened until frames) h carries =
    leaves p s _ _ h (λ formed. refl) (λ t. refl) carries
instructions_suspend p s Join h carries = leaves p s Join WaitsSwap h (λ formed. refl) (λ t. refl) carries
instructions_suspend p s End h carries = leaves p s End Ended h (λ formed. refl) (λ t. refl) carries
instructions_suspend p s _ h carries = tt
