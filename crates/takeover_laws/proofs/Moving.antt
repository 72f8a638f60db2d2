-- One instruction, the instructions of a frame, a frame and a run, in a code whose instructions stand further on.
use Rattle.takeover_laws.proofs.Words.{[], ◌++◌, ◌+◌, ◌-◌, ◌∙◌, ◌∷◌, ◌≡◌, Bool, Configuration, Contact, End, Event}
use Rattle.takeover_laws.proofs.Words.{Frame, Hold, Instr, IsMovedBy, IsTakeover, Jump, Line, List, Loop, None}
use Rattle.takeover_laws.proofs.Words.{Option, Plan, PlansPlayOn, PlayAlike, Program, Running, Settle, Some, State}
use Rattle.takeover_laws.proofs.Words.{Test, TestTime, after_burst, after_frame, ap, arith, burst, cond, counter_of}
use Rattle.takeover_laws.proofs.Words.{effect, effect_of, false, frame_bytes, happens, instr_at, is_closed, is_due}
use Rattle.takeover_laws.proofs.Words.{is_first_noticed, is_here, is_in_window, is_running, lead, leading, length}
use Rattle.takeover_laws.proofs.Words.{map, moved, moved_line, nat_lt, option_map, ready, refl, run, run_frames}
use Rattle.takeover_laws.proofs.Words.{settle, shown, shown_bytes, slice_get, slice_get-map, slice_set, step, suc}
use Rattle.takeover_laws.proofs.Words.{true, with_due_swap, with_hold_ended, with_next_counts, with_swap, zero, ℕ}

abbrev pub at : State → ℕ → State
at s pc = record s { pc = pc }

abbrev pub further : ℕ → State → State
further by s = at s (s.pc + by)

-- ---- one instruction

onward : (by : ℕ) (s : State) → at s (s.pc + by + 1) ≡ at s (s.pc + 1 + by)
onward by s = let same : s.pc + by + 1 ≡ s.pc + 1 + by = omega arith in ap (λ (n : ℕ). at s n) same

either : (b : Bool) (by target : ℕ) (s : State)
    → at s (cond b (s.pc + by + 1) (target + by)) ≡ at s (cond b (s.pc + 1) target + by)
either true by target s = onward by s
either false by target s = refl

looped : (b : Bool) (by target : ℕ) (s : State)
    → at s (cond b (target + by) (s.pc + by + 1)) ≡ at s (cond b target (s.pc + 1) + by)
looped true by target s = refl
looped false by target s = onward by s

settled : (by : ℕ) (left : Option ℕ) (s : State) → settle left (further by s) ≡ further by (settle left s)
settled by None s = onward by s
settled by (Some left) s = ap (λ (t : State). record t { hold = (settle (Some left) s).hold }) (onward by s)

effect_further : (plan : Plan) (by : ℕ) (i : Instr) (s : State)
    → effect plan (moved by i) (further by s) ≡ further by (effect plan i s)
effect_further plan by (Test c target) s = either (is_closed s.contacts c) by target s
effect_further plan by (TestTime from to target) s = either (is_in_window from to s.day) by target s
effect_further plan by (Jump target) s = refl
effect_further plan by (Loop r target) s =
    looped (nat_lt 1 (counter_of s r)) by target
    (let t : State = record s { counters = slice_set s.counters r (counter_of s r - 1) } in t)
effect_further plan by Settle s = settled by s.left s
effect_further plan by End s = refl
effect_further plan by i s = onward by (let t : State = effect plan i s in record t { pc = s.pc })

-- ---- the instruction at a pc

pub behind : {A : Type 0} (xs ys : List A) (n : ℕ) → slice_get (xs ++ ys) (n + length xs) ≡ slice_get ys n
behind [] ys n = let same : n + 0 ≡ n = omega arith in ap (slice_get ys) same
behind (x ∷ xs) ys n =
    let same : n + length (x ∷ xs) ≡ suc (n + length xs) = omega arith in
    ap (slice_get (x ∷ (xs ++ ys))) same ∙ behind xs ys n

taken : (by : ℕ) (o : Option Line) → option_map (λ l. l.instr) (option_map (moved_line by) o)
    ≡ option_map (moved by) (option_map (λ l. l.instr) o)
taken by None = refl
taken by (Some l) = refl

-- the code has the instructions of another one so many further on, for the same plan
pub record IsFurther (by : ℕ) (old new : Program) : Type 0 where
  pub plan : new.plan ≡ old.plan
  pub instrs : (pc : ℕ) → instr_at new (pc + by) ≡ option_map (moved by) (instr_at old pc)

pub is_further : (line : ℕ) (old new : Program) (from to : Configuration) → IsTakeover line old from to new
    → IsFurther (lead old line from to) old new
is_further line old new from to h =
    let front : List Line = leading old.plan line from to in
    let by : ℕ = length front in
    record {
      plan = h.plan;
      instrs = λ pc.
          ap (λ (ls : List Line). option_map (λ l. l.instr) (slice_get ls (pc + by))) h.lines
          ∙ (ap (λ (o : Option Line). option_map (λ l. l.instr) o)
          (behind front (map (moved_line by) old.lines) pc ∙ slice_get-map (moved_line by) old.lines pc)
          ∙ taken by (slice_get old.lines pc));
    }

-- ---- the instructions of a frame

of_further : (plan : Plan) (by : ℕ) (o : Option Instr) (s : State)
    → effect_of plan (option_map (moved by) o) (further by s) ≡ further by (effect_of plan o s)
of_further plan by None s = refl
of_further plan by (Some i) s = effect_further plan by i s

step_further : (by : ℕ) (old new : Program) → IsFurther by old new → (s : State)
    → step new (further by s) ≡ further by (step old s)
step_further by old new h s =
    ap (λ (plan : Plan). effect_of plan (instr_at new (s.pc + by)) (further by s)) h.plan
    ∙ (ap (λ (o : Option Instr). effect_of old.plan o (further by s)) (h.instrs s.pc)
    ∙ of_further old.plan by (instr_at old s.pc) s)

-- a choice between states is moved as a whole
chosen : (b : Bool) (by : ℕ) (s t : State) → cond b (further by s) (further by t) ≡ further by (cond b s t)
chosen true by s t = refl
chosen false by s t = refl

burst_further : (most by : ℕ) (old new : Program) → IsFurther by old new → (s : State)
    → burst most new (further by s) ≡ further by (burst most old s)
burst_further zero by old new h s = refl
burst_further (suc most) by old new h s =
    ap (λ (t : State). cond (is_running s.hold) t (further by s))
    (ap (burst most new) (step_further by old new h s) ∙ burst_further most by old new h (step old s))
    ∙ chosen (is_running s.hold) by (burst most old (step old s)) s

here_further : (by : ℕ) (s : State) (hold : Hold) → is_here (further by s) hold ≡ is_here s hold
here_further by s _ = refl

ended_further : (by : ℕ) (s : State) → with_hold_ended (further by s) ≡ further by (with_hold_ended s)
ended_further by s =
    let run : State = record s { hold = Running } in
    ap (λ (b : Bool). cond b (further by run) (further by s)) (here_further by s s.hold)
    ∙ chosen (is_here s s.hold) by run s

pub ready_further : (by : ℕ) (s : State) → ready (further by s) ≡ further by (ready s)
ready_further by s =
    ap with_hold_ended (chosen (is_due s.left) by (with_swap s) s) ∙ ended_further by (with_due_swap s)

after_further : (by : ℕ) (old new : Program) → IsFurther by old new → (s : State)
    → after_burst new (further by s) ≡ further by (after_burst old s)
after_further by old new h s =
    ap (λ (plan : Plan). burst plan.budget new (ready (further by s))) h.plan
    ∙ (ap (burst old.plan.budget new) (ready_further by s) ∙ burst_further old.plan.budget by old new h (ready s))

-- ---- a frame

-- what is sent, given the state after the instructions
abbrev turned : ℕ → State → State
turned notice t =
    let first : State = record t { page_index = 0 } in cond (is_first_noticed notice t.left) first t

turned_further : (notice by : ℕ) (t : State) → turned notice (further by t) ≡ further by (turned notice t)
turned_further notice by t =
    chosen (is_first_noticed notice t.left) by (let first : State = record t { page_index = 0 } in first) t

shown_further : (by : ℕ) (old new : Program) → IsFurther by old new → (s : State)
    → shown new (further by s) ≡ further by (shown old s)
shown_further by old new h s =
    ap (λ (plan : Plan). turned plan.notice (after_burst new (further by s))) h.plan
    ∙ (ap (turned old.plan.notice) (after_further by old new h s)
    ∙ turned_further old.plan.notice by (after_burst old s))

frame_further : (by : ℕ) (old new : Program) → IsFurther by old new → (s : State)
    → after_frame new (further by s) ≡ further by (after_frame old s)
frame_further by old new h s =
    ap (λ (plan : Plan). with_next_counts plan (shown new (further by s))) h.plan
    ∙ ap (with_next_counts old.plan) (shown_further by old new h s)

bytes_further : (by : ℕ) (old new : Program) → IsFurther by old new → (s : State)
    → frame_bytes new (further by s) ≡ frame_bytes old s
bytes_further by old new h s =
    ap (λ (plan : Plan). shown_bytes plan (shown new (further by s))) h.plan
    ∙ ap (shown_bytes old.plan) (shown_further by old new h s)

-- ---- a run

run_further : (by : ℕ) (old new : Program) → IsFurther by old new → (s : State) (events : List Event)
    → run new (further by s) events ≡ further by (run old s events)
run_further by old new h s [] = refl
run_further by old new h s (Contact c closed ∷ es) = run_further by old new h (happens old s (Contact c closed)) es
run_further by old new h s (Frame ∷ es) =
    ap (λ (t : State). run new t es) (frame_further by old new h s) ∙ run_further by old new h (after_frame old s) es

frames_further : (by : ℕ) (old new : Program) → IsFurther by old new → (s : State) (events : List Event)
    → run_frames new (further by s) events ≡ run_frames old s events
frames_further by old new h s [] = refl
frames_further by old new h s (Contact c closed ∷ es) =
    frames_further by old new h (happens old s (Contact c closed)) es
frames_further by old new h s (Frame ∷ es) =
    ap (λ (bytes : List ℕ). bytes ∷ run_frames new (after_frame new (further by s)) es) (bytes_further by old new h s)
    ∙ ap (λ (frames : List (List ℕ)). frame_bytes old s ∷ frames)
    (ap (λ (t : State). run_frames new t es) (frame_further by old new h s)
    ∙ frames_further by old new h (after_frame old s) es)

pub alike : (by : ℕ) (old new : Program) → IsFurther by old new → (s t : State) (events : List Event)
    → IsMovedBy by s t → PlayAlike by old new s t events
alike by old new h s t events is =
    record {
      bytes = ap (λ (u : State). run_frames new u events) is ∙ frames_further by old new h s events;
      states = ap (λ (u : State). run new u events) is ∙ run_further by old new h s events;
    }

pub plans_play_on : PlansPlayOn
plans_play_on line old new from to h s t events is =
    alike (lead old line from to) old new (is_further line old new from to h) s t events is
