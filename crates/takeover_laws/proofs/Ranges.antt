-- The identifier, the counts and the contacts of a run stay in their ranges, so that a plan can start in each frame.
use Rattle.takeover_laws.proofs.Words.{[], ◌-◌, ◌<◌, ◌^◌, ◌∙◌, ◌∷◌, ◌≡◌, AllByRecursion, Bool, Contact, Contacts}
use Rattle.takeover_laws.proofs.Words.{Event, Frame, Instr, IsEvent, List, None, Option, Plan, Program, Settle, Some}
use Rattle.takeover_laws.proofs.Words.{StartIsInRange, State, after_burst, after_frame, and_le_l, arith, burst, cond}
use Rattle.takeover_laws.proofs.Words.{effect, effect_of, false, happens, instr_at, is_due, is_first_noticed, is_here}
use Rattle.takeover_laws.proofs.Words.{or_lt, pow_below, ready, refl, run, settle, start_in, step, subst, suc, sym}
use Rattle.takeover_laws.proofs.Words.{true, with_contact, with_due_swap, with_swap, zero, ℕ}
use Rattle.plan_runs.proofs.Clock.{frame_contacts}

-- ---- no instruction changes the identifier

either_eid : (b : Bool) (s t : State) (eid : ℕ) → s.eid ≡ eid → t.eid ≡ eid → (cond b s t).eid ≡ eid
either_eid true s t eid here there = here
either_eid false s t eid here there = there

settle_eid : (left : Option ℕ) (s : State) → (settle left s).eid ≡ s.eid
settle_eid None s = refl
settle_eid (Some left) s = refl

effect_eid : (plan : Plan) (i : Instr) (s : State) → (effect plan i s).eid ≡ s.eid
effect_eid plan Settle s = settle_eid s.left s
effect_eid plan _ s = refl

step_eid : (plan : Plan) (o : Option Instr) (s : State) → (effect_of plan o s).eid ≡ s.eid
step_eid plan None s = refl
step_eid plan (Some i) s = effect_eid plan i s

burst_eid : (most : ℕ) (p : Program) (s : State) → (burst most p s).eid ≡ s.eid
burst_eid zero p s = refl
burst_eid (suc most) p s =
    either_eid _ _ s s.eid (burst_eid most p (step p s) ∙ step_eid p.plan (instr_at p s.pc) s) refl

ready_eid : (s : State) → (ready s).eid ≡ s.eid
ready_eid s =
    let t : State = with_due_swap s in
    let same : t.eid ≡ s.eid = either_eid (is_due s.left) (with_swap s) s s.eid refl refl in
    either_eid (is_here t t.hold) _ t s.eid same same

frame_eid : (p : Program) (s : State) → (after_frame p s).eid ≡ s.eid
frame_eid p s =
    let t : State = after_burst p s in
    let same : t.eid ≡ s.eid = burst_eid p.plan.budget p (ready s) ∙ ready_eid s in
    either_eid (is_first_noticed p.plan.notice t.left) _ t s.eid same same

-- ---- one event, and all of them

contacts_below : (contacts : Contacts) (c : ℕ) (closed : Bool) → c < 16 → contacts.0 < 65536
    → (with_contact c closed contacts).0 < 65536
contacts_below contacts c true within below = or_lt 16 contacts.0 (2 ^ c) below (pow_below c 16 within)
contacts_below contacts c false within below = omega (arith, and_le_l contacts.0 (2 ^ 16 - 1 - 2 ^ c), below)

stays_in_range : (p : Program) (s : State) (e : Event) → IsEvent e → StartIsInRange (start_in s)
    → StartIsInRange (start_in (happens p s e))
stays_in_range p s (Contact c closed) is h = record {
  eid = h.eid;
  count = h.count;
  day = h.day;
  contacts = contacts_below s.contacts c closed is h.contacts;
}
stays_in_range p s Frame is h = record {
  eid = subst (λ (n : ℕ). n < 65536) (sym (frame_eid p s)) h.eid;
  count = omega arith;
  day = omega arith;
  contacts = subst (λ (c : Contacts). c.0 < 65536) (sym (frame_contacts p s)) h.contacts;
}

pub run_in_range : (p : Program) (s : State) (events : List Event) → AllByRecursion IsEvent events
    → StartIsInRange (start_in s) → StartIsInRange (start_in (run p s events))
run_in_range p s [] within h = h
run_in_range p s (e ∷ es) within h =
    run_in_range p (happens p s e) es within.1 (stays_in_range p s e within.0 h)
