-- A typed code between frames: what is expected where it resumes, and that each frame is free of traps.
use Rattle.plan_runs.proofs.Words.{◌+◌, ◌-◌, ◌||◌, ◌≡◌, ◌≤◌, AllByRecursion, Bool, Configuration, Contacts, Ended}
use Rattle.plan_runs.proofs.Words.{Executes, FrameIsAllowed, Hold, IfSome, Instr, IsInstr, IsLine, IsProgram, IsTyping}
use Rattle.plan_runs.proofs.Words.{Known, Line, List, None, Option, Program, Running, Some, State, Waits, WaitsAny}
use Rattle.plan_runs.proofs.Words.{WaitsSwap, after_burst, after_frame, any_closed, any_open, ap, arith, cond, each_at}
use Rattle.plan_runs.proofs.Words.{effect, effect_of, eqb-false, eqb-true, false, hold_after_frame, hold_after_swap}
use Rattle.plan_runs.proofs.Words.{inl, inr, instr_at, is_any_here, is_day, is_due, is_first_noticed, is_here}
use Rattle.plan_runs.proofs.Words.{is_running, left_after_frame, option_map, ready, refl, slice_get, step, subst, suc}
use Rattle.plan_runs.proofs.Words.{sym, true, with_due_swap, with_hold_ended, with_next_counts, with_swap, zero, ℕ}
use Rattle.plan_runs.proofs.Knowledge.{ComesBy, IsAhead, IsOnAir, CommittedBy, IsKept}
use Rattle.plan_runs.proofs.Passing.{swap_comes, swap_pauses, swap_joins, now, pauses_come, comes_later, pauses_later}
use Rattle.plan_runs.proofs.Passing.{joins_later, ahead_from}
use Rattle.plan_runs.proofs.Steps.{Expects, ResumesBy, IsSuspended, not_running, Suspends, RunsAt, Outcome, arrive}
use Rattle.plan_runs.proofs.Instructions.{IsHere, succeeds}
use Rattle.plan_runs.proofs.Bursts.{bursts_are_one}

-- ---- a burst

-- instructions reach a suspension, within the budget
pub record Bursts (p : Program) (ts : List Known) (b : ℕ) (s : State) : Type 0 where
  pub steps : ℕ
  pub end : State
  pub executes : Executes p s steps end
  pub within : steps ≤ b
  pub after : Suspends p ts end

line_by : (o : Option Line) (i : Instr) → option_map (λ (l : Line). l.instr) o ≡ Some i
    → ((l : Line) → o ≡ Some l → IsLine l) → IsInstr i
line_by None i e h = absurd cc
line_by (Some l) i e h = let same : l.instr ≡ i = cc e in subst (λ (j : Instr). IsInstr j) same (h l refl).formed

pub line_formed : (lines : List Line) (pc : ℕ) (i : Instr) → AllByRecursion IsLine lines
    → option_map (λ (l : Line). l.instr) (slice_get lines pc) ≡ Some i → IsInstr i
line_formed lines pc i h e = line_by (slice_get lines pc) i e (λ l at. each_at IsLine lines pc l h at)

pub step_is : (p : Program) (s : State) (i : Instr) → instr_at p s.pc ≡ Some i → step p s ≡ effect p.plan i s
step_is p s i e = ap (λ o. effect_of p.plan o s) e

pub bursts : (b : ℕ) (p : Program) (ts : List Known) (s : State) → IsProgram p → IsTyping p ts → b ≤ p.plan.budget
    → Outcome p ts b s → Bursts p ts b s
bursts b p ts s pr ty within (inl h) =
    record { steps = 0; end = s; executes = (not_running s.hold h.stops, refl); within = omega arith; after = h }
bursts zero p ts s pr ty within (inr h) =
    absurd (omega (arith, (ty.safe s.pc h.instr h.known h.at h.there).allowance, h.affords))
bursts (suc b) p ts s pr ty within (inr h) =
    let safe = ty.safe s.pc h.instr h.known h.at h.there in
    let here : IsHere p ts b s h.instr h.known =
    record {
      program = pr;
      typing = ty;
      formed = line_formed p.lines s.pc h.instr pr.lines_formed h.at;
      safe = safe;
      runs = h.runs;
      affords = omega (arith, h.affords);
      within = omega (arith, within);
      agrees = h.agrees;
      set = h.set;
      kept = h.kept;
    } in
    let done = succeeds p ts b s h.instr h.known here in
    let next = subst (λ (t : State). Outcome p ts b t) (sym (step_is p s h.instr h.at)) done.1 in
    let rest = bursts b p ts (step p s) pr ty (omega (arith, within)) next in
    record {
      steps = suc rest.steps;
      end = rest.end;
      executes = (h.runs, record { instr = h.instr; within = h.at; allowed = done.0 }, rest.executes);
      within = omega (arith, rest.within);
      after = rest.after;
    }

-- ---- between frames

pub record Between (p : Program) (ts : List Known) (s : State) : Type 0 where
  pub resumes : ResumesBy p ts s.pc s.hold s.left s.current s.next s.counters
  pub kept : IsKept p.plan s.left s.current s.next s.counters

expects_as : (p : Program) (ts : List Known) (pc : ℕ) (counters : List ℕ) (R Q : Known → Type 0)
    → ((t : Known) → R t → Q t) → Expects p ts pc counters R → Expects p ts pc counters Q
expects_as p ts pc counters R Q f h =
    record { known = h.known; arrives = h.arrives; affords = h.affords; set = h.set; comes = f h.known h.comes }

-- a due swap is made
swap_resumes : (p : Program) (ts : List Known) (pc : ℕ) (hold : Hold) (left : Option ℕ) (c n : Configuration)
    (counters : List ℕ) → is_due left ≡ true
    → ResumesBy p ts pc hold left c n counters → ResumesBy p ts pc (hold_after_swap hold) None n n counters
swap_resumes p ts pc Running left c n counters due h = expects_as p ts pc _ _ _ (λ t. swap_comes 0 _ t left c n due) h
swap_resumes p ts pc (Waits k) left c n counters due h = expects_as p ts pc _ _ _ (λ t. swap_comes k _ t left c n due) h
swap_resumes p ts pc WaitsSwap left c n counters due h = expects_as p ts pc counters _ _ (λ t. swap_joins t left n) h
swap_resumes p ts pc Ended left c n counters due h = tt
swap_resumes p ts pc _ left c n counters due h = expects_as p ts pc _ _ _ (λ t. swap_pauses _ t left c n due) h

committed_next : (p : Program) (left : Option ℕ) (c n : Configuration) → is_due left ≡ true
    → CommittedBy p.plan left c n → IsOnAir p.plan n
committed_next p None c n due h = absurd cc
committed_next p (Some l) c n due h = h.after

-- before the instructions of a frame
pub record Opens (p : Program) (ts : List Known) (s : State) : Type 0 where
  pub between : Between p ts s
  pub ahead : IsAhead s.left

opens : (p : Program) (ts : List Known) (s : State) → Between p ts s → Opens p ts (with_due_swap s)
opens p ts s h = by (is_due s.left) refl
  where
    by : (b : Bool) → is_due s.left ≡ b → Opens p ts (cond b (with_swap s) s)
    by true e =
        record {
          between = record {
            resumes = swap_resumes p ts s.pc s.hold s.left s.current s.next s.counters e h.resumes;
            kept = record {
              on_air = committed_next p s.left s.current s.next e h.kept.committed;
              committed = tt;
              eight = h.kept.eight;
            };
          };
          ahead = tt;
        }
    by false e = record { between = h; ahead = ahead_from s.left e }

-- the wait is over
resumed : (p : Program) (ts : List Known) (ty : IsTyping p ts) (s : State) (hold : Hold) → is_here s hold ≡ true
    → IsAhead s.left → IsKept p.plan s.left s.current s.next s.counters
    → ResumesBy p ts s.pc hold s.left s.current s.next s.counters
    → RunsAt p ts p.plan.budget (let r : State = record s { hold = Running } in r)
resumed p ts ty s Running here ahead kept h =
    arrive p ts ty p.plan.budget (record s { hold = Running }) h.known refl h.arrives h.affords
    (now h.known.pending h.known s.left s.current s.next ahead h.comes) h.set kept
resumed p ts ty s (Waits k) here ahead kept h =
    let over : k ≡ 0 = eqb-true k 0 here in
    let comes : ComesBy 0 h.known.pending h.known.current h.known.next s.left s.current s.next =
    subst (λ (n : ℕ). ComesBy n h.known.pending h.known.current h.known.next s.left s.current s.next) over
    h.comes in
    arrive p ts ty p.plan.budget (record s { hold = Running }) h.known refl h.arrives h.affords
    (now h.known.pending h.known s.left s.current s.next ahead comes) h.set kept
resumed p ts ty s WaitsSwap here ahead kept h = absurd cc
resumed p ts ty s Ended here ahead kept h = absurd cc
resumed p ts ty s _ here ahead kept h =
    let comes = pauses_come h.known.pending h.known s.left s.current s.next h.comes in
    arrive p ts ty p.plan.budget (record s { hold = Running }) h.known refl h.arrives h.affords
    (now h.known.pending h.known s.left s.current s.next ahead comes) h.set kept

-- the wait continues for another frame
holds : (p : Program) (ts : List Known) (s : State) (hold : Hold) → is_here s hold ≡ false → IsAhead s.left
    → ResumesBy p ts s.pc hold s.left s.current s.next s.counters
    → ResumesBy p ts s.pc (hold_after_frame hold) (left_after_frame s.left) s.current s.next s.counters
holds p ts s Running away ahead h = absurd cc
holds p ts s (Waits k) away ahead h =
    let more : k ≡ k - 1 + 1 = omega (arith, eqb-false k 0 away) in
    let comes : ComesBy (k - 1 + 1) h.known.pending h.known.current h.known.next s.left s.current s.next =
    rw (← more) h.comes in
    record {
      known = h.known;
      arrives = h.arrives;
      affords = h.affords;
      set = h.set;
      comes = comes_later (k - 1) h.known.pending h.known s.left s.current s.next ahead comes;
    }
holds p ts s WaitsSwap away ahead h = expects_as p ts s.pc s.counters _ _ (λ t. joins_later t s.left s.next) h
holds p ts s Ended away ahead h = tt
holds p ts s _ away ahead h = expects_as p ts s.pc _ _ _ (λ t. pauses_later _ t _ _ _ ahead) h

-- while a wait with alternatives continues, frames are left, if it has a number of them
later_none : (a b : Bool) → (a || b) ≡ false → b ≡ false
later_none false b e = e
later_none true b e = absurd cc

pub not_due : (s : State) (closed opened : Contacts) (until left : Option ℕ)
    → is_any_here s closed opened until left ≡ false → is_due left ≡ false
not_due s closed opened until left e =
    later_none (is_day s.day until) (is_due left)
    (later_none (any_open opened s.contacts) _ (later_none (any_closed closed s.contacts) _ e))

pub some_left : (left : Option ℕ) → is_due left ≡ false → IfSome left (λ k. 1 ≤ k)
some_left None e = tt
some_left (Some k) e = let apart = eqb-false k 0 e in omega (arith, apart)

still : (s : State) (hold : Hold) → is_here s hold ≡ false → IsSuspended hold
still s Running e = absurd cc
still s (Waits k) e = let apart = eqb-false k 0 e in omega (arith, apart)
still s (WaitsAny closed opened until left) e = some_left left (not_due s closed opened until left e)
still s _ e = tt

pub still_stops : (s : State) (hold : Hold) → is_here s hold ≡ false → is_running hold ≡ false
still_stops s hold e = not_running hold (still s hold e)

begins : (p : Program) (ts : List Known) (ty : IsTyping p ts) (s : State) → Opens p ts s
    → Outcome p ts p.plan.budget (with_hold_ended s)
begins p ts ty s h = by (is_here s s.hold) refl
  where
    by : (b : Bool) → is_here s s.hold ≡ b → Outcome p ts p.plan.budget
        (cond b (let r : State = record s { hold = Running } in r) s)
    by true e = inr (resumed p ts ty s s.hold e h.ahead h.between.kept h.between.resumes)
    by false e = inl (record {
      stops = still s s.hold e;
      ahead = h.ahead;
      resumes = holds p ts s s.hold e h.ahead h.between.resumes;
      kept = h.between.kept;
    })

-- ---- one frame

pub frame_bursts : (p : Program) (ts : List Known) → IsProgram p → IsTyping p ts → (s : State) → Between p ts s
    → Bursts p ts p.plan.budget (ready s)
frame_bursts p ts pr ty s h = bursts _ p ts _ pr ty (omega arith) (begins p ts ty (with_due_swap s) (opens p ts s h))

-- a frame is allowed, and the state after its instructions is as expected
pub record FrameGoes (p : Program) (ts : List Known) (s : State) : Type 0 where
  pub allowed : FrameIsAllowed p s
  pub suspends : Suspends p ts (after_burst p s)

pub frame_goes : (p : Program) (ts : List Known) → IsProgram p → IsTyping p ts → (s : State) → Between p ts s
    → FrameGoes p ts s
frame_goes p ts pr ty s h =
    let b = frame_bursts p ts pr ty s h in
    let one = (bursts_are_one p (ready s) b.steps b.end b.executes).computed p.plan.budget b.within in
    record {
      allowed = record {
        steps = b.steps;
        within = b.within;
        executes = subst (λ (t : State). Executes p (ready s) b.steps t) (sym one.0) b.executes;
        counted = one.1;
      };
      suspends = subst (λ (t : State). Suspends p ts t) (sym one.0) b.after;
    }

-- the counts advance
later_kept : (p : Program) (left : Option ℕ) (c n : Configuration) → CommittedBy p.plan left c n
    → CommittedBy p.plan (left_after_frame left) c n
later_kept p None c n h = tt
later_kept p (Some l) c n h = h

suspended_later : (p : Program) (ts : List Known) (s : State) → Suspends p ts s → (page_index : ℕ)
    → Between p ts (let r : State = record s { page_index = page_index } in with_next_counts p.plan r)
suspended_later p ts s h page_index = record {
  resumes = h.resumes;
  kept = record {
    on_air = h.kept.on_air;
    committed = later_kept p s.left s.current s.next h.kept.committed;
    eight = h.kept.eight;
  };
}

turned : (p : Program) (ts : List Known) (s : State) → Suspends p ts s → (b : Bool)
    → Between p ts (with_next_counts p.plan (cond b (let r : State = record s { page_index = 0 } in r) s))
turned p ts s h true = suspended_later p ts s h 0
turned p ts s h false = suspended_later p ts s h s.page_index

pub frame_between : (p : Program) (ts : List Known) → IsProgram p → IsTyping p ts → (s : State) → Between p ts s
    → Between p ts (after_frame p s)
frame_between p ts pr ty s h =
    turned p ts (after_burst p s) (frame_goes p ts pr ty s h).suspends
    (is_first_noticed p.plan.notice (after_burst p s).left)
