-- Each kind of instruction of a typed code is allowed, and leaves what is known wherever the machine continues.
use Rattle.plan_runs.proofs.Words.{◌+◌, ◌-◌, ◌<◌, ◌∙◌, ◌≡◌, ◌≢◌, ◌≤◌, Arrives, Bool, CanCommit, CommitAt, CommitIn}
use Rattle.plan_runs.proofs.Words.{Configuration, Counters, Edits, End, Hold, Idle, IfSome, Instr, IsAllowed, IsFrames}
use Rattle.plan_runs.proofs.Words.{IsInstr, IsProgram, IsReady, IsSafe, IsSound, IsSurelyPending, IsTyping, Join, Jump}
use Rattle.plan_runs.proofs.Words.{Known, Label, List, Loop, Mode, None, Option, Perhaps, Program, Reaches, Set, Settle}
use Rattle.plan_runs.proofs.Words.{Some, State, Swap, Test, TestTime, Until, Wait, WaitAny, WaitContact, Waits}
use Rattle.plan_runs.proofs.Words.{WaitsAny, WaitsContact, WaitsDay, WaitsSwap, Within, advance, after_pause}
use Rattle.plan_runs.proofs.Words.{after_settle, after_wait, ap, arith, changed, commit, cond, continues, count_step}
use Rattle.plan_runs.proofs.Words.{counter_of, counters_change_alone, edit_fault, effect, eqb, eqb-false, eqb-true}
use Rattle.plan_runs.proofs.Words.{false, get_or-set_other, get_or-set_same, hold_after_frame, inl, inr, is_closed}
use Rattle.plan_runs.proofs.Words.{is_in_window, is_running, is_set, is_some, known_after_swap, label_at, layout_mode}
use Rattle.plan_runs.proofs.Words.{leaves, left_after_frame, left_at, left_in, length, length-set, ltb-true, nat_lt}
use Rattle.plan_runs.proofs.Words.{refl, set, settle, slice_index, slice_set, spent, subst, suspend, sym, target_of}
use Rattle.plan_runs.proofs.Words.{true, with_counter, without_counter, ℕ}
use Rattle.plan_runs.proofs.Knowledge.{IsIdleAs, IsPendingAs, AgreesBy, ComesBy, PausesBy, JoinsBy, IsAhead, AreSet}
use Rattle.plan_runs.proofs.Knowledge.{IsCommitted, CommittedBy, IsKept}
use Rattle.plan_runs.proofs.Passing.{wait_by, pause_by, after_some}
use Rattle.plan_runs.proofs.Steps.{Expects, ResumesBy, IsSuspended, Suspends, Outcome, arrive}

-- what is known where an instruction is executed
pub record IsHere (p : Program) (ts : List Known) (b : ℕ) (s : State) (i : Instr) (t : Known) : Type 0 where
  pub program : IsProgram p
  pub typing : IsTyping p ts
  pub formed : IsInstr i
  pub safe : IsSafe p ts s.pc i t
  pub runs : is_running s.hold ≡ true
  pub affords : t.allowance ≤ b + 1
  pub within : b + 1 ≤ p.plan.budget
  pub agrees : AgreesBy t.pending t.current t.next s.left s.current s.next
  pub set : AreSet t.counters s.counters
  pub kept : IsKept p.plan s.left s.current s.next s.counters

-- it doesn't trap, and the state after it is as expected
abbrev pub Succeeds : Program → List Known → ℕ → State → Instr → Type 0
Succeeds p ts b s i = IsAllowed p.plan i s × Outcome p ts b (effect p.plan i s)

-- ---- pending swaps

agrees_ahead : (pending : Swap) (x y : Configuration) (left : Option ℕ) (c n : Configuration)
    → AgreesBy pending x y left c n → IsAhead left
agrees_ahead Idle x y left c n h = subst IsAhead (sym h.none) tt
agrees_ahead (Within lo hi) x y left c n h = subst IsAhead (sym h.is) h.ahead
agrees_ahead (Perhaps hi) x y left c n (inl h) = subst IsAhead (sym h.is) h.ahead
agrees_ahead (Perhaps hi) x y left c n (inr h) = subst IsAhead (sym h.none) tt

idle_agrees : (t : Known) (left : Option ℕ) (c n : Configuration) → t.pending ≡ Idle
    → AgreesBy t.pending t.current t.next left c n → IsIdleAs t.current t.next left c n
idle_agrees t left c n e h = subst (λ (q : Swap). AgreesBy q t.current t.next left c n) e h

agrees_idle : (t : Known) (left : Option ℕ) (c n : Configuration) → t.pending ≡ Idle
    → IsIdleAs t.current t.next left c n → AgreesBy t.pending t.current t.next left c n
agrees_idle t left c n e h = subst (λ (q : Swap). AgreesBy q t.current t.next left c n) (sym e) h

-- the kept facts hold for another next configuration while no swap is pending
kept_idle : (p : Program) (s : State) (n : Configuration) (counters : List ℕ) → s.left ≡ None
    → IsKept p.plan s.left s.current s.next s.counters → length counters ≡ 8
    → IsKept p.plan s.left s.current n counters
kept_idle p s n counters none kept eight =
    record {
      on_air = kept.on_air;
      committed = subst (λ (l : Option ℕ). CommittedBy p.plan l s.current n) (sym none) tt;
      eight = eight;
    }

-- ---- suspending

-- the known counters do not change as time passes
waited_counters : (n : ℕ) (q : Swap) (t : Known) → (after_wait n q t).counters ≡ t.counters
waited_counters n Idle t = refl
waited_counters n (Within lo hi) t = by (nat_lt n lo)
  where
    by : (test : Bool) → (let u : Known = cond test (record t { pending = Within (lo - n) (hi - n) })
        (known_after_swap t) in u.counters) ≡ t.counters
    by true = refl
    by false = refl
waited_counters n (Perhaps hi) t = by (nat_lt n hi)
  where
    by : (test : Bool) → (let u : Known = cond test (record t { pending = Perhaps (hi - n) }) (known_after_swap t) in
        u.counters) ≡ t.counters
    by true = refl
    by false = refl

within_counters : (hi : ℕ) (t : Known) (test : Bool)
    → (let u : Known = cond test (record t { pending = Perhaps (hi - 1) }) (known_after_swap t) in u.counters)
    ≡ t.counters
within_counters hi t true = refl
within_counters hi t false = refl

paused_counters : (q : Swap) (t : Known) → (after_pause q t).counters ≡ t.counters
paused_counters Idle t = refl
paused_counters (Within lo hi) t = within_counters hi t (nat_lt 1 hi)
paused_counters (Perhaps hi) t = within_counters hi t (nat_lt 1 hi)

set_as : (a d : Counters) (counters : List ℕ) → a ≡ d → AreSet d counters → AreSet a counters
set_as a d counters e h = subst (λ (x : Counters). AreSet x counters) (sym e) h

-- the machine is suspended, and the swap is not due
rests : {p : Program} {ts : List Known} {b : ℕ} {i : Instr} (s : State) (t : Known) → IsHere p ts b s i t
    → (hold : Hold) → IsSuspended hold
    → ResumesBy p ts (s.pc + 1) (hold_after_frame hold) (left_after_frame s.left) s.current s.next s.counters
    → Suspends p ts (suspend hold s)
rests s t h hold stops resumes =
    record {
      stops = stops;
      ahead = agrees_ahead t.pending t.current t.next s.left s.current s.next h.agrees;
      resumes = resumes;
      kept = h.kept;
    }

-- what is expected after a wait for a number of frames
waited : (p : Program) {ts : List Known} {b : ℕ} (s : State) (n : ℕ) (t : Known) → IsHere p ts b s (Wait n) t
    → Expects p ts (s.pc + 1) s.counters
    (λ k. ComesBy (n - 1) k.pending k.current k.next (left_after_frame s.left) s.current s.next)
waited p s n t h =
    let u : Known = leaves p.plan (Wait n) t in
    record {
      known = u;
      arrives = h.safe.onward refl;
      affords = omega arith;
      set = set_as u.counters t.counters s.counters (waited_counters n t.pending t) h.set;
      comes = wait_by n t.pending t s.left s.current s.next refl h.formed.0 h.safe.fine h.agrees;
    }

-- and after any other wait
paused : (p : Program) {ts : List Known} {b : ℕ} (s : State) (i : Instr) (t : Known) → IsHere p ts b s i t
    → continues i ≡ true → leaves p.plan i t ≡ leaves p.plan (Until 0) t
    → Expects p ts (s.pc + 1) s.counters
    (λ k. PausesBy k.pending k.current k.next (left_after_frame s.left) s.current s.next)
paused p {ts} s i t h goes same =
    let u : Known = leaves p.plan (Until 0) t in
    record {
      known = u;
      arrives = subst (λ (k : Known). Arrives p ts (s.pc + 1) (label_at p (s.pc + 1)) k) same (h.safe.onward goes);
      affords = omega arith;
      set = set_as u.counters t.counters s.counters (paused_counters t.pending t) h.set;
      comes = pause_by t.pending t s.left s.current s.next refl h.agrees;
    }

some_frames : (frames : Option ℕ) → IfSome frames IsFrames → IfSome frames (λ k. 1 ≤ k)
some_frames None formed = tt
some_frames (Some k) formed = formed.0

-- a wait for the swap
joins : (p : Program) (ts : List Known) (s : State) (u : Known) (l : ℕ) → s.left ≡ Some l
    → Arrives p ts (s.pc + 1) (label_at p (s.pc + 1)) u → u.allowance ≤ p.plan.budget → AreSet u.counters s.counters
    → u.pending ≡ Idle → s.next ≡ u.current → s.next ≡ u.next
    → Expects p ts (s.pc + 1) s.counters (λ k. JoinsBy k (left_after_frame s.left) s.next)
joins p ts s u l is arrives affords set idle current next = record {
  known = u;
  arrives = arrives;
  affords = affords;
  set = set;
  comes = record { frames = l - 1; is = after_some s.left l is; idle = idle; current = current; next = next };
}

-- a swap that is certainly pending, and its frames left
pub record IsSure (y : Configuration) (left : Option ℕ) (n : Configuration) : Type 0 where
  pub frames : ℕ
  pub is : left ≡ Some frames
  pub next : n ≡ y

surely : (q : Swap) (x y : Configuration) (left : Option ℕ) (c n : Configuration) → IsSurelyPending q
    → AgreesBy q x y left c n → IsSure y left n
surely (Within lo hi) x y left c n sure h = record { frames = h.frames; is = h.is; next = h.next }
surely _ x y left c n sure h = absurd sure

-- ---- settling

settle_pending : (p : Program) (ts : List Known) (b : ℕ) (s : State) (u : Known) (l : ℕ) → s.left ≡ Some l → 1 ≤ l
    → IsKept p.plan s.left s.current s.next s.counters
    → Arrives p ts (s.pc + 1) (label_at p (s.pc + 1)) u → u.allowance ≤ p.plan.budget → AreSet u.counters s.counters
    → u.pending ≡ Idle → s.next ≡ u.current → s.next ≡ u.next → Outcome p ts b (settle s.left s)
settle_pending p ts b s u l is ahead kept arrives affords set idle current next =
    let expects = joins p ts s u l is arrives affords set idle current next in
    let out = inl (record { stops = tt; ahead = subst IsAhead (sym is) ahead; resumes = expects; kept = kept }) in
    subst (λ (o : Option ℕ). Outcome p ts b (settle o s)) (sym is) out

settle_idle : (p : Program) (ts : List Known) (ty : IsTyping p ts) (b : ℕ) (s : State) (u : Known) → s.left ≡ None
    → is_running s.hold ≡ true
    → Arrives p ts (s.pc + 1) (label_at p (s.pc + 1)) u → u.allowance ≤ b
    → AgreesBy u.pending u.current u.next s.left s.current s.next → AreSet u.counters s.counters
    → IsKept p.plan s.left s.current s.next s.counters → Outcome p ts b (settle s.left s)
settle_idle p ts ty b s u none runs arrives affords agrees set kept =
    let out : Outcome p ts b (advance s) = inr (arrive p ts ty b (advance s) u runs arrives affords agrees set kept) in
    subst (λ (o : Option ℕ). Outcome p ts b (settle o s)) (sym none) out

settle_by : (p : Program) (ts : List Known) (b : ℕ) (s : State) (t : Known) (q : Swap) → t.pending ≡ q
    → IsHere p ts b s Settle t
    → Arrives p ts (s.pc + 1) (label_at p (s.pc + 1)) (spent (after_settle q t))
    → AgreesBy q t.current t.next s.left s.current s.next → Outcome p ts b (settle s.left s)
settle_by p ts b s t Idle is h arrives agrees =
    settle_idle p ts h.typing b s (spent t) agrees.none h.runs arrives (omega (arith, h.affords))
    (agrees_idle t s.left s.current s.next is agrees) h.set h.kept
settle_by p ts b s t (Within lo hi) is h arrives agrees =
    settle_pending p ts b s (spent (known_after_swap t)) agrees.frames agrees.is agrees.ahead h.kept arrives
    (omega (arith, h.affords, h.within)) h.set refl agrees.next agrees.next
settle_by p ts b s t (Perhaps hi) is h arrives (inl agrees) =
    settle_pending p ts b s (spent (known_after_swap t)) agrees.frames agrees.is agrees.ahead h.kept arrives
    (omega (arith, h.affords, h.within)) h.set refl agrees.next agrees.next
settle_by p ts b s t (Perhaps hi) is h arrives (inr agrees) =
    settle_idle p ts h.typing b s _ agrees.none h.runs arrives (omega (arith, h.affords)) agrees h.set h.kept

-- ---- edits and commits

pub record IsWithin (low high l : ℕ) : Type 0 where
  pub low_is : low ≤ l
  pub high_is : l ≤ high

in_time : (m : Mode) (count least : ℕ) → IsWithin least (least + (count_step m - 1))
    (left_in (count_step m) count least)
in_time _ count least = record { low_is = omega arith; high_is = omega arith }

at_count : (count least n : ℕ) → IsWithin least (least + 4999) (left_at count least n)
at_count count least n = record { low_is = omega arith; high_is = omega arith }

can_ready : (p : Program) (s : State) (t : Known) → CanCommit p.plan t
    → IsIdleAs t.current t.next s.left s.current s.next → IsReady s × IsCommitted p.plan s.current s.next
can_ready p s t can idle =
    let committed : IsCommitted p.plan t.current t.next → IsCommitted p.plan s.current s.next =
    λ known.
    subst (λ (c : Configuration). IsCommitted p.plan c s.next) (sym idle.current)
    (subst (λ (n : Configuration). IsCommitted p.plan t.current n) (sym idle.next) known) in (
      record {
        idle = idle.none;
        sound = subst (λ (n : Configuration). IsSound n) (sym idle.next) can.sound;
        changes = (λ e. can.changes (sym idle.next ∙ e ∙ idle.current));
      },
      committed (record {
        changes = can.changes;
        within_period = can.room.within_period;
        three_times = can.room.three_times;
        after = record { sound = can.sound; within_period = can.room.alone };
      }),
    )

committing : (p : Program) (ts : List Known) (ty : IsTyping p ts) (b : ℕ) (s : State) (t u : Known) (l lo hi : ℕ)
    → is_running s.hold ≡ true → IsIdleAs t.current t.next s.left s.current s.next → IsCommitted p.plan s.current s.next
    → IsKept p.plan s.left s.current s.next s.counters
    → u.current ≡ t.current → u.next ≡ t.next → u.pending ≡ Within lo hi → 1 ≤ lo → IsWithin lo hi l
    → Arrives p ts (s.pc + 1) (label_at p (s.pc + 1)) u → u.allowance ≤ b → AreSet u.counters s.counters
    → Outcome p ts b (commit l s)
committing p ts ty b s t u l lo hi runs idle committed kept c n is some within arrives affords set =
    let pending : IsPendingAs u.current u.next 1 lo hi (Some l) s.current s.next =
    record {
      frames = l;
      is = refl;
      ahead = omega (arith, some, within.low_is);
      low = within.low_is;
      high = within.high_is;
      current = idle.current ∙ sym c;
      next = idle.next ∙ sym n;
    } in
    let agrees = subst (λ (q : Swap). AgreesBy q u.current u.next (Some l) s.current s.next) (sym is) pending in
    inr (arrive p ts ty b (commit l s) u runs arrives affords agrees set
    (record { on_air = kept.on_air; committed = committed; eight = kept.eight }))

-- ---- jumps

-- there is a label at the target, and the machine arrives there
target_arrives : (p : Program) (ts : List Known) (target : ℕ) (u : Known) → Reaches p target u
    → Arrives p ts target (label_at p target) u
target_arrives p ts target u h = subst (λ (o : Option Label). Arrives p ts target o u) (sym h.there) h.comes

jumps : (p : Program) (ts : List Known) (b : ℕ) (s : State) (i : Instr) (target : ℕ) (t : Known) → IsHere p ts b s i t
    → target_of i ≡ Some target
    → Outcome p ts b (let r : State = record s { pc = target } in r)
jumps p ts b s i target t h there =
    let arrives = target_arrives p ts target (spent t) (h.safe.targets target there) in
    inr (arrive p ts h.typing b (let r : State = record s { pc = target } in r) (spent t) h.runs arrives
    (omega (arith, h.affords)) h.agrees h.set h.kept)

-- a test that continues, or jumps to its target
tests : (p : Program) (ts : List Known) (b : ℕ) (s : State) (i : Instr) (target : ℕ) (t : Known) (onward : Bool)
    → IsHere p ts b s i t
    → leaves p.plan i t ≡ spent t → continues i ≡ true → target_of i ≡ Some target
    → Outcome p ts b (let r : State = record s { pc = cond onward (s.pc + 1) target } in r)
tests p ts b s i target t true h same goes there =
    let arrives = subst (λ (u : Known). Arrives p ts (s.pc + 1) (label_at p (s.pc + 1)) u) same (h.safe.onward goes) in
    inr (arrive p ts h.typing b (let r : State = record s { pc = s.pc + 1 } in r) (spent t) h.runs arrives
    (omega (arith, h.affords)) h.agrees h.set h.kept)
tests p ts b s i target t false h same goes there = jumps p ts b s i target t h there

-- ---- counters

-- the value of a counter after it, or another one, was written
written_same : (xs : List ℕ) (r n : ℕ) → r < length xs → slice_index (slice_set xs r n) r ≡ n
written_same xs r n below = get_or-set_same xs r n 0 below

write_one : (known after : Counters) (xs : List ℕ) (r n : ℕ) → (is_set after r ≡ true → (r < length xs) × (1 ≤ n))
    → ((q : ℕ) → q < 8 → q ≢ r → is_set after q ≡ is_set known q)
    → AreSet known xs → AreSet after (slice_set xs r n)
write_one known after xs r n here others h q below on = by (eqb q r) refl
  where
    by : (same : Bool) → eqb q r ≡ same → 1 ≤ slice_index (slice_set xs r n) q
    by true e =
        let is : q ≡ r = eqb-true q r e in
        let some = here (subst (λ (k : ℕ). is_set after k ≡ true) is on) in
        subst (λ (k : ℕ). 1 ≤ slice_index (slice_set xs r n) k) (sym is)
        (omega (arith, written_same xs r n some.0, some.1))
    by false e =
        let apart : q ≢ r = eqb-false q r e in
        omega (arith, (get_or-set_other xs r q n 0 apart), h q below (sym (others q below apart) ∙ on))

set_one : (known : Counters) (xs : List ℕ) (r n : ℕ) → r < 8 → length xs ≡ 8 → 1 ≤ n → AreSet known xs
    → AreSet (with_counter r known) (slice_set xs r n)
set_one known xs r n low eight some h =
    write_one known (with_counter r known) xs r n (λ on. (omega (arith, low, eight), some))
    (λ q below apart. ((counters_change_alone known r low).2 q below apart).0) h

-- a counter is decremented and no longer known to be set
clear_one : (known : Counters) (xs : List ℕ) (r n : ℕ) → r < 8 → AreSet known xs
    → AreSet (without_counter r known) (slice_set xs r n)
clear_one known xs r n low h =
    write_one known (without_counter r known) xs r n (λ on. let clash : true ≡ false = sym on
    ∙ (counters_change_alone known r low).1 in absurd cc)
    (λ q below apart. ((counters_change_alone known r low).2 q below apart).1) h

-- a counter is decremented and stays set
lower_one : (known : Counters) (xs : List ℕ) (r n : ℕ) → r < 8 → length xs ≡ 8 → 1 ≤ n → AreSet known xs
    → AreSet known (slice_set xs r n)
lower_one known xs r n low eight some h =
    write_one known known xs r n (λ on. (omega (arith, low, eight), some)) (λ q below apart. refl) h

still_eight : (xs : List ℕ) (r n : ℕ) → length xs ≡ 8 → length (slice_set xs r n) ≡ 8
still_eight xs r n eight = length-set xs r n ∙ eight

loop_by : (p : Program) (ts : List Known) (b : ℕ) (s : State) (r target : ℕ) (t : Known) (more : Bool)
    → nat_lt 1 (counter_of s r) ≡ more → IsHere p ts b s (Loop r target) t
    → Outcome p ts b (let u : State = record s {
      counters = slice_set s.counters r (counter_of s r - 1);
      pc = cond more target (s.pc + 1);
    } in u)
loop_by p ts b s r target t true e h =
    let above : 1 < counter_of s r = ltb-true 1 (counter_of s r) e in
    let x : State = record s { counters = slice_set s.counters r (counter_of s r - 1); pc = target } in
    let arrives = target_arrives p ts target (spent t) (h.safe.targets target refl) in
    let after = lower_one t.counters s.counters r (counter_of s r - 1) h.formed.0 h.kept.eight (omega arith) h.set in
    let kept : IsKept p.plan s.left s.current s.next (slice_set s.counters r (counter_of s r - 1)) =
    record { on_air = h.kept.on_air; committed = h.kept.committed; eight = still_eight _ r _ h.kept.eight } in
    inr (arrive p ts h.typing b x (spent t) h.runs arrives (omega (arith, h.affords)) h.agrees after kept)
loop_by p ts b s r target t false e h =
    let x : State = record s { counters = slice_set s.counters r (counter_of s r - 1); pc = s.pc + 1 } in
    let u : Known = leaves p.plan (Loop r target) t in
    let after = clear_one t.counters s.counters r (counter_of s r - 1) h.formed.0 h.set in
    let kept : IsKept p.plan s.left s.current s.next (slice_set s.counters r (counter_of s r - 1)) =
    record {
      on_air = h.kept.on_air;
      committed = h.kept.committed;
      eight = still_eight s.counters r (counter_of s r - 1) h.kept.eight;
    } in
    inr (arrive p ts h.typing b x u h.runs (h.safe.onward refl) (omega (arith, h.affords)) h.agrees after kept)

-- ---- every kind

pub succeeds : (p : Program) (ts : List Known) (b : ℕ) (s : State) (i : Instr) (t : Known) → IsHere p ts b s i t
    → Succeeds p ts b s i
succeeds p ts b s (Wait n) t h = (tt, inl (rests s t h (Waits n) h.formed.0 (waited p s n t h)))
succeeds p ts b s (Until d) t h = (tt, inl (rests s t h (WaitsDay d) tt (paused p s (Until d) t h refl refl)))
succeeds p ts b s (WaitContact d closed) t h =
    (tt, inl (rests s t h (WaitsContact d closed) tt (paused p s (WaitContact d closed) t h refl refl)))
succeeds p ts b s (WaitAny closed opened until frames) t h = (
  tt,
  inl (rests s t h (WaitsAny closed opened until frames) (some_frames frames h.formed.frames_within)
      (paused p s (WaitAny closed opened until frames) t h refl refl)),
)
succeeds p ts b s (CommitIn k) t h =
    let can = h.safe.fine.0 in
    let idle = idle_agrees t s.left s.current s.next can.idle h.agrees in
    let ready = can_ready p s t can idle in
    let u : Known = leaves p.plan (CommitIn k) t in
    let step : ℕ = count_step (layout_mode p.plan.layout) in (
      (ready.0, h.safe.fine.1),
      committing p ts h.typing b s t u (left_in step s.count k) k (k + (step - 1)) h.runs idle ready.1 h.kept refl refl
          refl (h.formed.0) (in_time (layout_mode p.plan.layout) s.count k)
          (h.safe.onward refl) (omega (arith, h.affords)) h.set,
    )
succeeds p ts b s (CommitAt n) t h =
    let can = h.safe.fine.0 in
    let idle = idle_agrees t s.left s.current s.next can.idle h.agrees in
    let ready = can_ready p s t can idle in
    let u : Known = leaves p.plan (CommitAt n) t in
    let some : 1 ≤ p.plan.notice = omega (arith, h.program.planned.notice_from) in (
      (ready.0, h.safe.fine.1),
      committing p ts h.typing b s t u (left_at s.count p.plan.notice n) p.plan.notice (p.plan.notice + 4999) h.runs
          idle ready.1 h.kept refl refl refl some (at_count s.count p.plan.notice n)
          (h.safe.onward refl) (omega (arith, h.affords)) h.set,
    )
succeeds p ts b s Join t h =
    let sure = surely t.pending t.current t.next s.left s.current s.next h.safe.fine h.agrees in
    let expects = joins p ts s (leaves p.plan Join t) sure.frames sure.is (h.safe.onward refl) (omega arith) h.set refl
    sure.next sure.next in
    (ap is_some sure.is, inl (rests s t h WaitsSwap tt expects))
succeeds p ts b s Settle t h = (tt, settle_by p ts b s t t.pending refl h (h.safe.onward refl) h.agrees)
succeeds p ts b s End t h = (
  tt,
  inl (record {
    stops = tt;
    ahead = agrees_ahead t.pending t.current t.next s.left s.current s.next h.agrees;
    resumes = tt;
    kept = h.kept;
  }),
)
succeeds p ts b s (Edits e) t h =
    let idle = idle_agrees t s.left s.current s.next h.safe.fine.0 h.agrees in
    let u : Known = leaves p.plan (Edits e) t in
    let now : IsIdleAs u.current u.next s.left s.current (changed e s.next) =
    record { none = idle.none; current = idle.current; next = (ap (changed e) idle.next) } in
    let no_fault : edit_fault e s.next ≡ None = ap (edit_fault e) idle.next ∙ h.safe.fine.1 in (
      (idle.none, no_fault),
      inr (arrive p ts h.typing b (effect p.plan (Edits e) s) u h.runs (h.safe.onward refl) (omega (arith, h.affords))
          (agrees_idle u s.left s.current (changed e s.next) h.safe.fine.0 now) h.set
          (kept_idle p s (changed e s.next) s.counters idle.none h.kept h.kept.eight)),
    )
succeeds p ts b s (Test c target) t h =
    (tt, tests p ts b s (Test c target) target t (is_closed s.contacts c) h refl refl refl)
succeeds p ts b s (TestTime from to target) t h =
    (tt, tests p ts b s (TestTime from to target) target t (is_in_window from to s.day) h refl refl refl)
succeeds p ts b s (Jump target) t h = (tt, jumps p ts b s (Jump target) target t h refl)
succeeds p ts b s (Set r n) t h =
    let after = set_one t.counters s.counters r n h.formed.0 h.kept.eight h.formed.1 h.set in
    let kept : IsKept p.plan s.left s.current s.next (slice_set s.counters r n) =
    record { on_air = h.kept.on_air; committed = h.kept.committed; eight = still_eight s.counters r n h.kept.eight }
    in (
      tt,
      inr (arrive p ts h.typing b (effect p.plan (Set r n) s) (leaves p.plan (Set r n) t) h.runs (h.safe.onward refl)
          (omega (arith, h.affords)) h.agrees after kept),
    )
succeeds p ts b s (Loop r target) t h =
    (h.set r h.formed.0 h.safe.fine, loop_by p ts b s r target t (nat_lt 1 (counter_of s r)) refl h)
