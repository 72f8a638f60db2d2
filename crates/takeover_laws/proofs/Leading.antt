-- The instructions that lead to a plan: from what is on air to the wait for the swap, step by step and frame by frame.
use Rattle.takeover_laws.proofs.Words.{[], ◌%◌, ◌++◌, ◌+◌, ◌-◌, ◌==◌, ◌∙◌, ◌∷◌, ◌≡◌, ◌≤◌, ◌⊎◌, Act, Bool, CommitIn}
use Rattle.takeover_laws.proofs.Words.{Configuration, Contact, Edit, Edits, Event, Frame, Hold, Instr, Join, Joins}
use Rattle.takeover_laws.proofs.Words.{Line, List, MakesNoSwap, None, Option, Plan, Program, Running, Some, State}
use Rattle.takeover_laws.proofs.Words.{Wait, Waits, WaitsSwap, after, after_burst, after_frame, ap, append_assoc}
use Rattle.takeover_laws.proofs.Words.{arith, burst, changed, committed, cond, effect, effect_of, eqb-true, false}
use Rattle.takeover_laws.proofs.Words.{false≢true, happens, hold_after_frame, if◌then◌else◌, inl, inr, instr_at}
use Rattle.takeover_laws.proofs.Words.{instr_of_act, is_due, is_first_noticed, is_here, is_running, left_after_frame}
use Rattle.takeover_laws.proofs.Words.{length, length_push, map, option_map, paced, pause_after, ready, refl}
use Rattle.takeover_laws.proofs.Words.{replicate, run, shown, slice_get, step, subst, suc, sym, true, with_due_swap}
use Rattle.takeover_laws.proofs.Words.{with_hold_ended, with_next_counts, with_swap, zero, ℕ}
use Rattle.takeover_laws.proofs.Moving.{behind}

-- ---- the acts that lead

-- edits and waits for a frame that make a configuration of this one, a commit after the notice, and `join`
abbrev pub Leads : (notice : ℕ) → (to : Configuration) → List Act → Configuration → Type 0
Leads notice to [] c = ⊥
Leads notice to (Edits e ∷ acts) c = Leads notice to acts (changed e c)
Leads notice to (Wait n ∷ acts) c = (n ≡ 1) × Leads notice to acts c
Leads notice to (CommitIn k ∷ acts) c = (k ≡ notice) × (c ≡ to) × (acts ≡ Join ∷ [])
Leads notice to (_ ∷ acts) c = ⊥

paused : (notice : ℕ) (to : Configuration) (acts : List Act) (c : Configuration) (b : Bool) → Leads notice to acts c
    → Leads notice to ((if b then Wait 1 ∷ [] else []) ++ acts) c
paused notice to acts c true h = (refl, h)
paused notice to acts c false h = h

pub paced_leads : (header : Plan) (full n : ℕ) (es : List Edit) (c to : Configuration) → after es c ≡ to
    → Leads header.notice to (paced full n es ++ committed header) c
paced_leads header full n [] c to made = (refl, made, refl)
paced_leads header full n (e ∷ es) c to made =
    let rest = paced_leads header full (n + 1) es (changed e c) to made in
    subst (λ (acts : List Act). Leads header.notice to acts (changed e c))
    (sym (append_assoc (pause_after full n) (paced full (n + 1) es) (committed header)))
    (paused header.notice to (paced full (n + 1) es ++ committed header) (changed e c) (n % full == 0) rest)

-- from this pc on the code has the instructions of these acts, up to the one with number `by`
abbrev pub Follows : Program → (by pc : ℕ) → List Act → Type 0
Follows new by pc [] = pc ≡ by
Follows new by pc (a ∷ acts) = (instr_at new pc ≡ Some (instr_of_act a)) × Follows new by (pc + 1) acts

abbrev pub line_of : ℕ → Act → Line
line_of line a = record { number = line; instr = instr_of_act a }

pub follows : (line : ℕ) (new : Program) (by pc : ℕ) (before more : List Line) (acts : List Act)
    → new.lines ≡ before ++ (map (line_of line) acts ++ more) → pc ≡ length before → by ≡ pc + length acts
    → Follows new by pc acts
follows line new by pc before more [] is at end = omega (arith, end)
follows line new by pc before more (a ∷ acts) is at end =
    let rest : List Line = map (line_of line) acts ++ more in
    let size = length_push before (line_of line a) in
    let place : pc ≡ 0 + length before = omega (arith, at) in
    let first : instr_at new pc ≡ Some (instr_of_act a) =
    ap (λ (ls : List Line). option_map (λ l. l.instr) (slice_get ls pc)) is
    ∙ ap (λ (n : ℕ). option_map (λ l. l.instr) (slice_get (before ++ (line_of line a ∷ rest)) n)) place
    ∙ ap (λ (o : Option Line). option_map (λ l. l.instr) o) (behind before (line_of line a ∷ rest) 0) in (
      first,
      follows line new by (pc + 1) (before ++ line_of line a ∷ []) more acts
          (is ∙ sym (append_assoc before (line_of line a ∷ []) rest)) (omega (arith, at, size)) (omega (arith, end)),
    )

-- ---- where the machine is

-- a code that leads from one configuration to another, with the number of its instructions up to the join
pub record Way : Type 0 where
  pub code : Program
  pub by : ℕ
  pub from : Configuration
  pub to : Configuration

-- the machine is running, or waits for a number of frames
abbrev pub IsPacing : Hold → Type 0
IsPacing Running = Unit {0}
IsPacing (Waits n) = Unit {0}
IsPacing _ = ⊥

-- before the commit
pub record IsLeading (w : Way) (pc : ℕ) (on_air coming : Configuration) (swap : Option ℕ) (wait : Hold)
    (table : List ℕ) : Type 0 where
  pub acts : List Act
  pub follows : Follows w.code w.by pc acts
  pub leads : Leads w.code.plan.notice w.to acts coming
  pub current : on_air ≡ w.from
  pub left : swap ≡ None
  pub hold : IsPacing wait
  pub counters : table ≡ replicate 8 0

-- between the commit and the join, with at least so many frames until the swap
pub record IsCommitted (least : ℕ) (w : Way) (pc : ℕ) (on_air coming : Configuration) (swap : Option ℕ) (wait : Hold)
    (table : List ℕ) : Type 0 where
  pub instr : instr_at w.code pc ≡ Some Joins
  pub last : pc + 1 ≡ w.by
  pub current : on_air ≡ w.from
  pub next : coming ≡ w.to
  pub frames : ℕ
  pub left : swap ≡ Some frames
  pub ahead : least ≤ frames
  pub hold : wait ≡ Running
  pub counters : table ≡ replicate 8 0

-- behind the join
pub record IsJoined (w : Way) (pc : ℕ) (on_air coming : Configuration) (wait : Hold) (table : List ℕ)
    : Type 0 where
  pub at : pc ≡ w.by
  pub current : on_air ≡ w.from
  pub next : coming ≡ w.to
  pub hold : wait ≡ WaitsSwap
  pub counters : table ≡ replicate 8 0

abbrev pub IsOnWay : (least : ℕ) → Way → State → Type 0
IsOnWay least w s =
    IsLeading w s.pc s.current s.next s.left s.hold s.counters
    ⊎ (IsCommitted least w s.pc s.current s.next s.left s.hold s.counters
    ⊎ IsJoined w s.pc s.current s.next s.hold s.counters)

-- ---- one instruction

pub stepped : (p : Program) (s : State) (i : Instr) → instr_at p s.pc ≡ Some i → step p s ≡ effect p.plan i s
stepped p s i is = ap (λ (o : Option Instr). effect_of p.plan o s) is

at_least : (least more : ℕ) → 2 ≤ least → 2 ≤ least + more
at_least least more two = omega (arith, two)

lead_step : (w : Way) (s : State) (acts : List Act) → 2 ≤ w.code.plan.notice → s.hold ≡ Running
    → IsLeading w s.pc s.current s.next s.left s.hold s.counters
    → Follows w.code w.by s.pc acts → Leads w.code.plan.notice w.to acts s.next → IsOnWay 2 w (step w.code s)
lead_step w s [] two runs h f l = absurd l
lead_step w s (Edits e ∷ acts) two runs h f l =
    subst (IsOnWay 2 w) (sym (stepped w.code s _ f.0))
    (inl (record {
      acts = acts;
      follows = f.1;
      leads = l;
      current = h.current;
      left = h.left;
      hold = h.hold;
      counters = h.counters;
    }))
lead_step w s (Wait n ∷ acts) two runs h f l =
    subst (IsOnWay 2 w) (sym (stepped w.code s _ f.0))
    (inl (record {
      acts = acts;
      follows = f.1;
      leads = l.1;
      current = h.current;
      left = h.left;
      hold = tt;
      counters = h.counters;
    }))
lead_step w s (CommitIn k ∷ acts) two runs h f l =
    let f2 : Follows w.code w.by (s.pc + 1) (Join ∷ []) = subst (Follows w.code w.by (s.pc + 1)) l.2 f.1 in
    let long : 2 ≤ k = omega (arith, two, l.0) in
    subst (IsOnWay 2 w) (sym (stepped w.code s _ f.0))
    (inr (inl (record {
      instr = f2.0;
      last = f2.1;
      current = h.current;
      next = l.1;
      frames = _;
      left = refl;
      ahead = at_least k _ long;
      hold = runs;
      counters = h.counters;
    })))
lead_step w s (_ ∷ acts) two runs h f l = absurd l

join_step : (w : Way) (least : ℕ) (s : State)
    → IsCommitted least w s.pc s.current s.next s.left s.hold s.counters → IsOnWay 2 w (step w.code s)
join_step w least s c =
    subst (IsOnWay 2 w) (sym (stepped w.code s Joins c.instr))
    (inr (inr (record { at = c.last; current = c.current; next = c.next; hold = refl; counters = c.counters })))

runs_alone : (hold : Hold) → IsPacing hold → is_running hold ≡ true → hold ≡ Running
runs_alone Running h runs = refl
runs_alone _ h runs = absurd (false≢true runs)

one_step : (w : Way) (s : State) → 2 ≤ w.code.plan.notice → is_running s.hold ≡ true → IsOnWay 2 w s
    → IsOnWay 2 w (step w.code s)
one_step w s two runs (inl h) = lead_step w s h.acts two (runs_alone s.hold h.hold runs) h h.follows h.leads
one_step w s two runs (inr (inl c)) = join_step w 2 s c
one_step w s two runs (inr (inr j)) = absurd (false≢true (sym (ap is_running j.hold) ∙ runs))

-- ---- the instructions of a frame

pub either_way : (P : State → Type 0) (b : Bool) (s t : State) → (b ≡ true → P s) → P t → P (cond b s t)
either_way P true s t first other = first refl
either_way P false s t first other = other

burst_on : (w : Way) (most : ℕ) (s : State) → 2 ≤ w.code.plan.notice → IsOnWay 2 w s → IsOnWay 2 w (burst most w.code s)
burst_on w zero s two h = h
burst_on w (suc most) s two h =
    either_way (IsOnWay 2 w) (is_running s.hold) (burst most w.code (step w.code s)) s
    (λ runs. burst_on w most (step w.code s) two (one_step w s two runs h)) h

-- a frame that begins between commit and join executes the join
burst_from : (w : Way) (most : ℕ) (s : State) → 1 ≤ most → 2 ≤ w.code.plan.notice → IsOnWay 1 w s
    → IsOnWay 2 w (burst most w.code s)
burst_from w most s one two (inl h) = burst_on w most s two (inl h)
burst_from w zero s one two (inr (inl c)) = absurd (omega (arith, one))
burst_from w (suc most) s one two (inr (inl c)) =
    let runs : is_running s.hold ≡ true = ap is_running c.hold in
    subst (IsOnWay 2 w)
    (sym (ap (λ (b : Bool). cond b (burst most w.code (step w.code s)) s) runs))
    (burst_on w most (step w.code s) two (join_step w 1 s c))
burst_from w most s one two (inr (inr j)) = burst_on w most s two (inr (inr j))

-- ---- a frame without a swap

hold_ends : (w : Way) (s : State) → IsOnWay 1 w s → IsOnWay 1 w (with_hold_ended s)
hold_ends w s (inl h) =
    let run : State = record s { hold = Running } in
    either_way (IsOnWay 1 w) (is_here s s.hold) run s
    (λ here. inl (record {
      acts = h.acts;
      follows = h.follows;
      leads = h.leads;
      current = h.current;
      left = h.left;
      hold = tt;
      counters = h.counters;
    })) (inl h)
hold_ends w s (inr (inl c)) =
    let run : State = record s { hold = Running } in
    either_way (IsOnWay 1 w) (is_here s s.hold) run s
    (λ here. inr (inl (record {
      instr = c.instr;
      last = c.last;
      current = c.current;
      next = c.next;
      frames = c.frames;
      left = c.left;
      ahead = c.ahead;
      hold = refl;
      counters = c.counters;
    }))) (inr (inl c))
hold_ends w s (inr (inr j)) =
    let run : State = record s { hold = Running } in
    either_way (IsOnWay 1 w) (is_here s s.hold) run s
    (λ here. absurd (false≢true (sym (ap (is_here s) j.hold) ∙ here))) (inr (inr j))

pacing_on : (hold : Hold) → IsPacing hold → IsPacing (hold_after_frame hold)
pacing_on Running h = tt
pacing_on (Waits n) h = tt
pacing_on _ h = absurd h

one_less : (n : ℕ) → 2 ≤ n → 1 ≤ n - 1
one_less n two = omega (arith, two)

counted : (w : Way) (plan : Plan) (s : State) → IsOnWay 2 w s → IsOnWay 1 w (with_next_counts plan s)
counted w plan s (inl h) =
    inl (record {
      acts = h.acts;
      follows = h.follows;
      leads = h.leads;
      current = h.current;
      left = ap left_after_frame h.left;
      hold = pacing_on s.hold h.hold;
      counters = h.counters;
    })
counted w plan s (inr (inl c)) =
    inr (inl (record {
      instr = c.instr;
      last = c.last;
      current = c.current;
      next = c.next;
      frames = c.frames - 1;
      left = ap left_after_frame c.left;
      ahead = one_less c.frames c.ahead;
      hold = ap hold_after_frame c.hold;
      counters = c.counters;
    }))
counted w plan s (inr (inr j)) =
    inr (inr (record {
      at = j.at;
      current = j.current;
      next = j.next;
      hold = ap hold_after_frame j.hold;
      counters = j.counters;
    }))

frame_on : (w : Way) (s : State) → 1 ≤ w.code.plan.budget → 2 ≤ w.code.plan.notice → is_due s.left ≡ false
    → IsOnWay 1 w s → IsOnWay 1 w (after_frame w.code s)
frame_on w s one two waits h =
    let same : with_due_swap s ≡ s = ap (λ (b : Bool). cond b (with_swap s) s) waits in
    let begun : IsOnWay 1 w (ready s) =
    subst (λ (t : State). IsOnWay 1 w (with_hold_ended t)) (sym same) (hold_ends w s h) in
    let end : State = after_burst w.code s in
    let ended : IsOnWay 2 w end = burst_from w w.code.plan.budget (ready s) one two begun in
    counted w w.code.plan (shown w.code s)
    (either_way (IsOnWay 2 w) (is_first_noticed w.code.plan.notice end.left)
    (let first : State = record end { page_index = 0 } in first) end (λ first. ended) ended)

-- ---- a run without a swap

pub run_on : (w : Way) (s : State) (events : List Event) → 1 ≤ w.code.plan.budget → 2 ≤ w.code.plan.notice
    → MakesNoSwap w.code s events → IsOnWay 1 w s → IsOnWay 1 w (run w.code s events)
run_on w s [] one two none h = h
run_on w s (Contact c closed ∷ es) one two none h =
    run_on w (happens w.code s (Contact c closed)) es one two none h
run_on w s (Frame ∷ es) one two none h =
    run_on w (after_frame w.code s) es one two none.1 (frame_on w s one two none.0 h)

pub still_on_air : (w : Way) (s : State) → IsOnWay 1 w s → s.current ≡ w.from
still_on_air w s (inl h) = h.current
still_on_air w s (inr (inl c)) = c.current
still_on_air w s (inr (inr j)) = j.current

-- a swap is due behind the join alone
not_none : (o : Option ℕ) → o ≡ None → is_due o ≡ true → ⊥
not_none o none due = false≢true (sym (ap is_due none) ∙ due)

not_ahead : (o : Option ℕ) (n : ℕ) → o ≡ Some n → 1 ≤ n → is_due o ≡ true → ⊥
not_ahead o n some ahead due =
    let now : n ≡ 0 = eqb-true n 0 (sym (ap is_due some) ∙ due) in omega (arith, ahead, now)

pub joined_where_due : (w : Way) (s : State) → IsOnWay 1 w s → is_due s.left ≡ true
    → IsJoined w s.pc s.current s.next s.hold s.counters
joined_where_due w s (inl h) due = absurd (not_none s.left h.left due)
joined_where_due w s (inr (inl c)) due = absurd (not_ahead s.left c.frames c.left c.ahead due)
joined_where_due w s (inr (inr j)) due = j
