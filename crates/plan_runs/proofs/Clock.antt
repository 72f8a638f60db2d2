-- What no instruction changes in any code: the current configuration, the CIF count, the frame of the day and the
-- contacts; and the counts and the contacts along a run.
use Rattle.plan_runs.proofs.Words.{[], ◌%◌, ◌+◌, ◌<◌, ◌∙◌, ◌∷◌, ◌≡◌, Bool, Configuration, Contact, Contacts}
use Rattle.plan_runs.proofs.Words.{ContactsAreAsSet, Event, Frame, FramesAreCounted, Instr, List, None, Option, Plan}
use Rattle.plan_runs.proofs.Words.{Program, Settle, Some, State, after_burst, after_frame, ap, arith, burst, cond}
use Rattle.plan_runs.proofs.Words.{contacts_change_alone, effect, effect_of, eqb, eqb-false, eqb-true, false, happens}
use Rattle.plan_runs.proofs.Words.{instr_at, is_closed, is_due, is_first_noticed, is_here, length}
use Rattle.plan_runs.proofs.Words.{level_after, ready, refl, run, run_frames, settle, shown, step, subst, suc, sym}
use Rattle.plan_runs.proofs.Words.{true, with_contact, with_due_swap, with_swap, zero, ℕ}

abbrev Unchanged : Type 0
Unchanged = Configuration × ℕ × ℕ × Contacts

abbrev clock : State → Unchanged
clock s = (s.current, s.count, s.day, s.contacts)

either_clock : (test : Bool) (s t : State) (x : Unchanged) → clock s ≡ x → clock t ≡ x → clock (cond test s t) ≡ x
either_clock true s t x here there = here
either_clock false s t x here there = there

settle_clock : (left : Option ℕ) (s : State) → clock (settle left s) ≡ clock s
settle_clock None s = refl
settle_clock (Some left) s = refl

effect_clock : (plan : Plan) (i : Instr) (s : State) → clock (effect plan i s) ≡ clock s
effect_clock plan Settle s = settle_clock s.left s
effect_clock plan _ s = refl

step_clock : (plan : Plan) (i : Option Instr) (s : State) → clock (effect_of plan i s) ≡ clock s
step_clock plan None s = refl
step_clock plan (Some i) s = effect_clock plan i s

burst_clock : (most : ℕ) (p : Program) (s : State) → clock (burst most p s) ≡ clock s
burst_clock zero p s = refl
burst_clock (suc most) p s =
    either_clock _ _ s _ (burst_clock most p (step p s) ∙ step_clock p.plan (instr_at p s.pc) s) refl

ready_clock : (s : State) → clock (ready s) ≡ clock (with_due_swap s)
ready_clock s =
    let t = with_due_swap s in
    either_clock (is_here t t.hold) _ t (clock t) refl refl

shown_clock : (p : Program) (s : State) → clock (shown p s) ≡ clock (with_due_swap s)
shown_clock p s =
    let t = after_burst p s in
    let same : clock t ≡ clock (with_due_swap s) = burst_clock p.plan.budget p (ready s) ∙ ready_clock s in
    either_clock (is_first_noticed p.plan.notice t.left) _ t (clock (with_due_swap s)) same same

-- the current configuration that the frame sends
pub shown_current : (p : Program) (s : State) (due : Bool) → is_due s.left ≡ due
    → (shown p s).current ≡ (cond due (with_swap s) s).current
shown_current p s due e = ap (λ (x : Unchanged). x.0) (shown_clock p s)
    ∙ ap (λ (b : Bool). (cond b (with_swap s) s).current) e

due_count : (s : State) (due : Bool) → (cond due (with_swap s) s).count ≡ s.count
due_count s true = refl
due_count s false = refl

due_day : (s : State) (due : Bool) → (cond due (with_swap s) s).day ≡ s.day
due_day s true = refl
due_day s false = refl

-- the counts that it sends
pub shown_count : (p : Program) (s : State) → (shown p s).count ≡ s.count
shown_count p s = ap (λ (x : Unchanged). x.1) (shown_clock p s) ∙ due_count s (is_due s.left)

pub shown_day : (p : Program) (s : State) → (shown p s).day ≡ s.day
shown_day p s = ap (λ (x : Unchanged). x.2) (shown_clock p s) ∙ due_day s (is_due s.left)

due_contacts : (s : State) (due : Bool) → (cond due (with_swap s) s).contacts ≡ s.contacts
due_contacts s true = refl
due_contacts s false = refl

pub frame_contacts : (p : Program) (s : State) → (after_frame p s).contacts ≡ s.contacts
frame_contacts p s = ap (λ (x : Unchanged). x.3) (shown_clock p s) ∙ due_contacts s (is_due s.left)

-- ---- the counts along a run

abbrev IsLater : ℕ → ℕ → ℕ → State → Type 0
IsLater count day frames s = (s.count ≡ (count + frames) % 5000) × (s.day ≡ (day + frames) % 3600000)

later : (p : Program) (s : State) (count day frames : ℕ) → IsLater count day frames s
    → IsLater count day (frames + 1) (after_frame p s)
later p s count day frames h =
    let at : (shown p s).count ≡ (count + frames) % 5000 = shown_count p s ∙ h.0 in
    let dated : ((shown p s).day + 1) % 3600000 ≡ (day + (frames + 1)) % 3600000 = omega (arith, shown_day p s ∙ h.1) in
    ((omega (arith, at)), dated)

counted_from : (p : Program) (s : State) (count day frames : ℕ) (events : List Event) → IsLater count day frames s
    → IsLater count day (frames + length (run_frames p s events)) (run p s events)
counted_from p s count day frames [] h = let none : frames ≡ frames + 0 = omega arith in
    subst (λ (n : ℕ). IsLater count day n s) none h
counted_from p s count day frames (Contact c closed ∷ es) h =
    counted_from p (happens p s (Contact c closed)) count day frames es h
counted_from p s count day frames (Frame ∷ es) h =
    let rest = counted_from p (after_frame p s) count day (frames + 1) es (later p s count day frames h) in
    let n : ℕ = length (run_frames p (after_frame p s) es) in
    subst (λ (k : ℕ). IsLater count day k (run p (after_frame p s) es)) (omega arith) rest

pub frames_are_counted : FramesAreCounted
frames_are_counted p start first events in_range started =
    let count : first.count ≡ (start.count + 0) % 5000 = omega (arith, started.count, in_range.count) in
    let day : first.day ≡ (start.day + 0) % 3600000 = omega (arith, started.day, in_range.day) in
    let frames : ℕ = length (run_frames p first events) in
    let end : IsLater start.count start.day frames (run p first events) =
    subst (λ (n : ℕ). IsLater start.count start.day n (run p first events)) (omega arith)
    (counted_from p first start.count start.day 0 events (count, day)) in
    record { count = end.0; day = end.1 }

-- ---- contacts

set_by : (contacts : Contacts) (contact c : ℕ) (closed : Bool) → contact < 16 → c < 16 → (same : Bool)
    → eqb c contact ≡ same
    → is_closed (with_contact c closed contacts) contact ≡ cond same closed (is_closed contacts contact)
set_by contacts contact c closed low within true is =
    rw (← (eqb-true c contact is)) (contacts_change_alone contacts c closed within).0
set_by contacts contact c closed low within false is =
    (contacts_change_alone contacts c closed within).1 contact low (λ e. (eqb-false c contact is) (sym e))

pub contacts_are_as_set : ContactsAreAsSet
contacts_are_as_set p s contact [] low within = refl
contacts_are_as_set p s contact (Contact c closed ∷ es) low within =
    contacts_are_as_set p (happens p s (Contact c closed)) contact es low within.1
    ∙ ap (λ (b : Bool). level_after contact b es) (set_by s.contacts contact c closed low within.0 (eqb c contact) refl)
contacts_are_as_set p s contact (Frame ∷ es) low within =
    cc (contacts_are_as_set p (after_frame p s) contact es low within.1, frame_contacts p s)
