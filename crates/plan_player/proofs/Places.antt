-- The pc is within the code in every state that a typed code reaches.
use Rattle.plan_player.proofs.Words.{[], ◌<◌, ◌∙◌, ◌∷◌, ◌≡◌, Arrives, Bool, Contact, End, Ended, Event, Executes, Frame}
use Rattle.plan_player.proofs.Words.{Hold, Holds, IsCode, IsPlayed, IsSome, IsTyping, Join, Known, Line, List, None}
use Rattle.plan_player.proofs.Words.{Option, Plan, Program, Running, Settle, Some, State, Until, Wait, WaitAny}
use Rattle.plan_player.proofs.Words.{WaitContact, after_burst, after_frame, arith, code_of, cond, effect, eqb}
use Rattle.plan_player.proofs.Words.{eqb-true, false, frame_goes, happens, happens_holds, hold_after_frame}
use Rattle.plan_player.proofs.Words.{is_first_noticed, is_running, label_at, left_after_frame, length, line_at}
use Rattle.plan_player.proofs.Words.{option_map, played_holds, ready, refl, run, settle, slice_get, starts_are_reached}
use Rattle.plan_player.proofs.Words.{step, step_is, suc, true, with_swap, zero, ℕ}
use Rattle.plan_code.specs.declared.instr.Instr.{Instr}
use Rattle.plan_code.specs.declared.label.Label.{Label}
use Rattle.plan_runs.proofs.Lookups.{found, get_below}
use Rattle.plan_runs.proofs.Steps.{ResumesBy}

abbrev pub IsInside : Program → ℕ → Type 0
IsInside p pc = pc < length p.lines

-- ---- after a suspension other than `End`

arrives_inside : (p : Program) (ts : List Known) → IsTyping p ts → (pc : ℕ) (t : Known) (o : Option Label)
    → label_at p pc ≡ o → Arrives p ts pc o t → IsInside p pc
arrives_inside p ts ty pc t None e arrives = omega (arith, get_below ts pc t arrives, ty.each)
arrives_inside p ts ty pc t (Some label) e arrives =
    let one = found (λ (l : Label). eqb l.pc pc) p.labels label e in
    let place = ty.labels label one.inside in
    omega (arith, get_below ts label.pc place.known place.there, ty.each, eqb-true label.pc pc one.passes)

-- ---- after `End`

line_inside : (lines : List Line) (pc : ℕ) (i : Instr) (o : Option Line) → slice_get lines pc ≡ o
    → option_map (λ (l : Line). l.instr) o ≡ Some i → pc < length lines
line_inside lines pc i None e h = absurd cc
line_inside lines pc i (Some l) e h = get_below lines pc l e

not_ended : (hold : Hold) → is_running hold ≡ true → hold ≡ Ended → ⊥
not_ended hold runs e =
    absurd cc

settle_ends : (s : State) (left : Option ℕ) → is_running s.hold ≡ true → (settle left s).hold ≡ Ended → ⊥
settle_ends s None runs e = not_ended s.hold runs e
settle_ends s (Some l) runs e = absurd cc

effect_inside : (p : Program) (plan : Plan) (i : Instr) (s : State) → is_running s.hold ≡ true → IsInside p s.pc
    → (effect plan i s).hold ≡ Ended → IsInside p (effect plan i s).pc
effect_inside p plan (Wait n) s runs inside e = absurd cc
effect_inside p plan (Until d) s runs inside e = absurd cc
effect_inside p plan (WaitContact d closed) s runs inside e = absurd cc
effect_inside p plan (WaitAny closed opened until frames) s runs inside e = absurd cc
effect_inside p plan Join s runs inside e = absurd cc
effect_inside p plan Settle s runs inside e = absurd (settle_ends s s.left runs e)
effect_inside p plan End s runs inside e = inside
effect_inside p plan _ s runs inside e = absurd (not_ended s.hold runs e)

ends_inside : (p : Program) (n : ℕ) (s t : State) → Executes p s n t → (s.hold ≡ Ended → IsInside p s.pc)
    → t.hold ≡ Ended → IsInside p t.pc
ends_inside p zero s t h here e =
    let same : s ≡ t = h.1 in
    rw (← same) (here (rw (same) e))
ends_inside p (suc n) s t h here e =
    let i : Instr = h.1.instr in
    let inside : IsInside p s.pc = line_inside p.lines s.pc i (slice_get p.lines s.pc) refl h.1.within in
    let is : step p s ≡ effect p.plan i s = step_is p s i h.1.within in
    let next : (step p s).hold ≡ Ended → IsInside p (step p s).pc =
    λ ended. rw is (effect_inside p p.plan i s h.0 inside (rw (← is) ended)) in
    ends_inside p n (step p s) t h.2 next e

-- ---- a frame

due_place : (s : State) (b : Bool) → (cond b (with_swap s) s).pc ≡ s.pc
due_place s true = refl
due_place s false = refl

held_place : (s : State) (b : Bool) → (cond b (let r : State = record s { hold = Running } in r) s).pc ≡ s.pc
held_place s true = refl
held_place s false = refl

ready_place : (s : State) → (ready s).pc ≡ s.pc
ready_place s = held_place _ _ ∙ due_place s _

turned_place : (u : State) (b : Bool) → (cond b (let r : State = record u { page_index = 0 } in r) u).pc ≡ u.pc
turned_place u true = refl
turned_place u false = refl

suspended_inside : (p : Program) (ts : List Known) → IsTyping p ts → (u : State) (hold : Hold) → u.hold ≡ hold
    → ResumesBy p ts u.pc (hold_after_frame hold) (left_after_frame u.left) u.current u.next u.counters
    → (u.hold ≡ Ended → IsInside p u.pc) → IsInside p u.pc
suspended_inside p ts ty u Ended e h ended = ended e
suspended_inside p ts ty u _ e h ended = arrives_inside p ts ty u.pc h.known (label_at p u.pc) refl h.arrives

frame_inside : (p : Program) (ts : List Known) → IsCode p ts → (s : State) → Holds p ts s → IsInside p s.pc
    → IsInside p (after_frame p s).pc
frame_inside p ts c s h inside =
    let u : State = after_burst p s in
    let goes = frame_goes p ts c.program c.typing s h.between in
    let ended = ends_inside p goes.allowed.steps (ready s) u goes.allowed.executes (λ e. (rw (ready_place s) inside)) in
    let here : IsInside p u.pc = suspended_inside p ts c.typing u u.hold refl goes.suspends.resumes ended in
    rw (turned_place u (is_first_noticed p.plan.notice u.left)) here

happens_inside : (p : Program) (ts : List Known) → IsCode p ts → (s : State) (e : Event) → Holds p ts s
    → IsInside p s.pc → IsInside p (happens p s e).pc
happens_inside p ts c s (Contact d closed) h inside = inside
happens_inside p ts c s Frame h inside = frame_inside p ts c s h inside

run_inside : (p : Program) (ts : List Known) → IsCode p ts → (s : State) (events : List Event) → Holds p ts s
    → IsInside p s.pc → IsInside p (run p s events).pc
run_inside p ts c s [] h inside = inside
run_inside p ts c s (e ∷ es) h inside =
    run_inside p ts c (happens p s e) es (happens_holds p ts c s e h) (happens_inside p ts c s e h inside)

pub played_inside : (p : Program) (s : State) → IsPlayed p s → IsInside p s.pc
played_inside p s h =
    let r = h.reached in
    let start : IsPlayed p r.first =
    record {
      program = h.program;
      typed = h.typed;
      reached = starts_are_reached p r.start r.first r.in_range r.started;
    } in
    let zero_inside : IsInside p r.first.pc = omega (arith, r.started.pc, h.program.lines_from) in
    rw (← r.leads) (run_inside p h.typed.0 (code_of p s h) r.first r.events (played_holds p r.first start) zero_inside)

some_line : (lines : List Line) (pc : ℕ) → pc < length lines
    → IsSome (option_map (λ (l : Line). l.number) (slice_get lines pc))
some_line [] pc below = absurd (omega (arith, below))
some_line (l ∷ ls) zero below = refl
some_line (l ∷ ls) (suc pc) below = some_line ls pc (omega (arith, below))

-- so the next instruction has a line
pub has_line : (p q : Program) (s : State) (o : Option ℕ) → IsPlayed p s → q ≡ p → o ≡ line_at q s.pc → IsSome o
has_line p q s o h same is =
    let here : o ≡ line_at p s.pc = rw (← same) is in
    rw (here) (some_line p.lines s.pc (played_inside p s h))
