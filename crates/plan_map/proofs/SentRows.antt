-- Every frame of a typed code sends the configurations of rows.
use Rattle.plan_map.proofs.Words.{[], ◌∷◌, ◌≡◌, Bool, CommitAt, CommitIn, Configuration, Contact, Edits, Event}
use Rattle.plan_map.proofs.Words.{EventIsAllowed, Executes, Frame, FrameIsAllowed, FramesSendRows, IfSome, Instr}
use Rattle.plan_map.proofs.Words.{IsAllowed, IsCommit, IsCommitted, IsPlayed, IsShown, IsStart, IsTyping, Known, Line}
use Rattle.plan_map.proofs.Words.{List, None, Option, Plan, Program, Row, RunIsAllowed, Settle, Some, Start, State}
use Rattle.plan_map.proofs.Words.{TypedCodeRuns, after_burst, changed, cond, contains_at, contains_first, effect, false}
use Rattle.plan_map.proofs.Words.{happens, instr_at, is_due, is_noticed, left_after_frame}
use Rattle.plan_map.proofs.Words.{mapped, ready, refl, rows_of, run, settle, shown, slice_get, step, step_is, subst}
use Rattle.plan_map.proofs.Words.{suc, sym, true, with_due_swap, with_swap, zero, ℕ}
use Rattle.plan_runs.proofs.Reached.{starts_are_reached}
use Rattle.plan_map.proofs.Executed.{IsAtKnown, step_known, ready_known, happens_known, begins, started_known}
use Rattle.plan_map.proofs.Executed.{played_known, row_at_state}

-- ---- what is on the air

-- a pending swap is to the configuration of a commit's row
abbrev pub IsPending : List Row → Option ℕ → Configuration → Type 0
IsPending rows None n = Unit {0}
IsPending rows (Some left) n = IsCommitted rows n

pub record AreRows (rows : List Row) (s : State) : Type 0 where
  pub current : IsShown rows s.current
  pub pending : IsPending rows s.left s.next

either_rows : (rows : List Row) (b : Bool) (s t : State) → AreRows rows s → AreRows rows t → AreRows rows (cond b s t)
either_rows rows true s t h g = h
either_rows rows false s t h g = g

-- ---- one instruction

settle_rows : (rows : List Row) (left : Option ℕ) (s : State) → AreRows rows s → AreRows rows (settle left s)
settle_rows rows None s h = record { current = h.current; pending = h.pending }
settle_rows rows (Some k) s h = record { current = h.current; pending = h.pending }

effect_rows : (rows : List Row) (plan : Plan) (i : Instr) (s : State) → IsAllowed plan i s
    → (IsCommit i → IsCommitted rows s.next) → AreRows rows s → AreRows rows (effect plan i s)
effect_rows rows plan (CommitIn k) s a c h = record { current = h.current; pending = c tt }
effect_rows rows plan (CommitAt n) s a c h = record { current = h.current; pending = c tt }
effect_rows rows plan Settle s a c h = settle_rows rows s.left s h
effect_rows rows plan (Edits e) s a c h =
    record { current = h.current; pending = subst (λ (o : Option ℕ). IsPending rows o (changed e s.next)) (sym a.0) tt }
effect_rows rows plan _ s a c h = record { current = h.current; pending = h.pending }

committed_there : (begin : ℕ) (p : Program) (typing : List Known) → IsTyping p typing → (s : State) (i : Instr)
    → IsAtKnown typing s → instr_at p s.pc ≡ Some i → IsCommit i
    → IsCommitted (rows_of begin p) s.next
committed_there begin p typing ty s i h at c =
    let line = mapped (λ (l : Line). l.instr) (slice_get p.lines s.pc) i at in
    let l : Line = line.0 in
    let row = row_at_state begin p typing ty s l h line.1 (subst (λ (j : Instr). IsCommit j) (sym line.2) c) in
    (row.row, contains_at (rows_of begin p) _ row.row row.there, row.kind, row.config)

executes_rows : (begin : ℕ) (p : Program) (typing : List Known) → IsTyping p typing → (s : State) (n : ℕ) (t : State)
    → Executes p s n t → IsAtKnown typing s → AreRows (rows_of begin p) s
    → AreRows (rows_of begin p) t
executes_rows begin p typing ty s zero t h k rows = subst (λ (u : State). AreRows (rows_of begin p) u) h.1 rows
executes_rows begin p typing ty s (suc n) t h k rows =
    let i : Instr = h.1.instr in
    let one = effect_rows _ p.plan i s h.1.allowed (committed_there begin p typing ty s i k h.1.within) rows in
    let first = subst (λ (u : State). AreRows (rows_of begin p) u) (sym (step_is p s i h.1.within)) one in
    executes_rows begin p typing ty (step p s) n t h.2 (step_known p typing ty s k) first

-- ---- frames and runs

due_shown : (rows : List Row) (left : Option ℕ) (n : Configuration) → is_due left ≡ true → IsPending rows left n
    → IsShown rows n
due_shown rows None n due h = absurd cc
due_shown rows (Some k) n due h = (h.0, h.1, h.3)

due_rows : (rows : List Row) (s : State) → AreRows rows s → AreRows rows (with_due_swap s)
due_rows rows s h = by (is_due s.left) refl
  where
    by : (b : Bool) → is_due s.left ≡ b → AreRows rows (cond b (with_swap s) s)
    by true e = record { current = due_shown rows s.left s.next e h.pending; pending = tt }
    by false e = h

ready_rows : (rows : List Row) (s : State) → AreRows rows s → AreRows rows (ready s)
ready_rows rows s h =
    let due : AreRows rows (with_due_swap s) = due_rows rows s h in
    either_rows _ _ _ _ (record { current = due.current; pending = due.pending }) due

shown_rows : (begin : ℕ) (p : Program) (typing : List Known) → IsTyping p typing → (s : State) → FrameIsAllowed p s
    → IsAtKnown typing s → AreRows (rows_of begin p) s
    → AreRows (rows_of begin p) (shown p s)
shown_rows begin p typing ty s f k h =
    let t : State = after_burst p s in
    let after : AreRows (rows_of begin p) t =
    executes_rows begin p _ ty _ _ t f.executes (ready_known _ s k) (ready_rows _ s h) in
    either_rows _ _ _ _ (record { current = after.current; pending = after.pending }) after

later_pending : (rows : List Row) (left : Option ℕ) (n : Configuration) → IsPending rows left n
    → IsPending rows (left_after_frame left) n
later_pending rows None n h = tt
later_pending rows (Some k) n h = h

happens_rows : (begin : ℕ) (p : Program) (typing : List Known) → IsTyping p typing → (s : State) (e : Event)
    → EventIsAllowed p s e → IsAtKnown typing s → AreRows (rows_of begin p) s
    → AreRows (rows_of begin p) (happens p s e)
happens_rows begin p typing ty s (Contact c closed) a k h = record { current = h.current; pending = h.pending }
happens_rows begin p typing ty s Frame a k h =
    let x = shown_rows begin p typing ty s a k h in
    let t : State = shown p s in
    record { current = x.current; pending = later_pending (rows_of begin p) t.left t.next x.pending }

run_rows : (begin : ℕ) (p : Program) (typing : List Known) → IsTyping p typing → (s : State) (events : List Event)
    → RunIsAllowed p s events → IsAtKnown typing s → AreRows (rows_of begin p) s
    → AreRows (rows_of begin p) (run p s events)
run_rows begin p typing ty s [] a k h = h
run_rows begin p typing ty s (e ∷ es) a k h =
    run_rows begin p typing ty (happens p s e) es a.1 (happens_known _ _ ty _ _ k) (happens_rows _ _ _ ty _ _ a.0 k h)

started_rows : (begin : ℕ) (p : Program) (typing : List Known) (start : Start) (s : State) → IsTyping p typing
    → IsStart p start s → AreRows (rows_of begin p) s
started_rows begin p typing start s ty st =
    record {
      current = (_, contains_first _ _, sym (begins p typing start s ty st).current);
      pending = subst (λ (o : Option ℕ). IsPending (rows_of begin p) o s.next) (sym st.left) tt;
    }

-- ---- the law

played_rows : (begin : ℕ) (p : Program) (s : State) → TypedCodeRuns → IsPlayed p s → AreRows (rows_of begin p) s
played_rows begin p s goes h =
    let r = h.reached in
    let ts : List Known = h.typed.0 in
    let ty : IsTyping p ts = h.typed.1 in
    let first : IsPlayed p r.first =
    record {
      program = h.program;
      typed = h.typed;
      reached = starts_are_reached p r.start r.first r.in_range r.started;
    } in
    let allowed = (goes p r.first r.events first).allowed in
    subst (λ (t : State). AreRows (rows_of begin p) t) r.leads
    (run_rows _ _ _ ty _ _ allowed (started_known _ _ _ _ ty r.started) (started_rows _ _ _ _ _ ty r.started))

sent_next : (rows : List Row) (notice : ℕ) (left : Option ℕ) (n : Configuration) → IsPending rows left n
    → IfSome (cond (is_noticed notice left) (Some n) None) (IsCommitted rows)
sent_next rows notice None n h = tt
sent_next rows notice (Some k) n h = by (is_noticed notice (Some k))
  where
    by : (b : Bool) → IfSome (cond b (Some n) None) (IsCommitted rows)
    by true = h
    by false = tt

pub frames_send_rows : TypedCodeRuns → FramesSendRows
frames_send_rows goes begin p s h =
    let ts : List Known = h.typed.0 in
    let frame = (goes p s (Frame ∷ []) h).allowed.0 in
    let x = shown_rows begin p ts h.typed.1 s frame (played_known p s h) (played_rows begin p s goes h) in
    let t : State = shown p s in
    record { current = x.current; next = sent_next (rows_of begin p) p.plan.notice t.left t.next x.pending }
