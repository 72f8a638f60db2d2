-- The instructions of a frame from a top of a certified code do what the schedule prescribes.
use Rattle.schedule_verifier.proofs.Words.{◌+◌, ◌<◌, ◌∙◌, ◌≡◌, ◌≢◌, Airing, Changes, CommitIn, Configuration, Edits}
use Rattle.schedule_verifier.proofs.Words.{End, Ended, Executes, Hold, IfSome, Instr, IsAllowed, IsBefore}
use Rattle.schedule_verifier.proofs.Words.{IsProgram, IsTop, Join, Jump, Keeps, Leads, LeadsBy, Moment, Names}
use Rattle.schedule_verifier.proofs.Words.{None, Option, Program, Rests, Some, State, Stays, StepIsAllowed}
use Rattle.schedule_verifier.proofs.Words.{TakesUp, Test, TestTime, Tree, WaitAny, WaitsAny, WaitsSwap, airing_of, ap}
use Rattle.schedule_verifier.proofs.Words.{announced, arith, commit, count_step, due, effect, false, inl, inr, instr_at}
use Rattle.schedule_verifier.proofs.Words.{is_rest, is_running, layout_mode, left_in, refl, step, subst, suc, suspend}
use Rattle.schedule_verifier.proofs.Words.{sym}
use Rattle.schedule_verifier.proofs.Words.{true, zero, ℕ, Contacts}
use Rattle.plan_code.specs.declared.limits.TheConstants.{FRAMES_A_DAY}
use Rattle.plan_code.specs.Program.{IsDayFrame, IsInstr}
use Rattle.plan_runs.proofs.Between.{line_formed, step_is}
use Rattle.plan_runs.proofs.Steps.{same_some}
use Rattle.schedule_verifier.proofs.Windows.{now_before}

-- ---- what a suspended code goes on with

-- behind a wait the code jumps to a top that names this configuration
pub record Onward (p : Program) (pc : ℕ) (c : Configuration) : Type 0 where
  pub to : ℕ
  pub jumps : instr_at p pc ≡ Some (Jump to)
  pub top : IsTop p to
  pub names : Names p to c

-- while nothing is pending and this configuration is on air
pub record IsIdle (left : Option ℕ) (c n : Configuration) : Type 0 where
  pub none : left ≡ None
  pub same : n ≡ c

-- a wait that lasts only while what is on air is due
pub record IsWait (s : Tree) (p : Program) (closed opened : Contacts) (until frames : Option ℕ) (pc : ℕ)
    (left : Option ℕ) (c n : Configuration) (day : ℕ) : Type 0 where
  pub idle : IsIdle left c n
  pub endless : frames ≡ None
  pub within : IfSome until IsDayFrame
  pub keeps : Keeps s c closed opened until day
  pub onward : Onward p pc c

-- a code is suspended after the instructions of a frame
abbrev pub HoldsBy : Tree → Program → Hold → ℕ → Option ℕ → Configuration → Configuration → ℕ → Type 0
HoldsBy s p (WaitsAny closed opened until frames) pc left c n day =
    IsWait s p closed opened until frames pc left c n day × (until ≢ Some day)
HoldsBy s p WaitsSwap pc left c n day = (left ≢ None) × Onward p pc n
HoldsBy s p Ended pc left c n day =
    IsIdle left c n × ((contacts : Contacts) (later : ℕ) → later < FRAMES_A_DAY → due s contacts later ≡ c)
HoldsBy s p _ pc left c n day = ⊥

-- what the schedule takes up in a frame is what the code has done in it
pub record Settles (s : Tree) (p : Program) (x : Airing) (t : State) : Type 0 where
  pub taken : TakesUp s x (airing_of t)
  pub holds : HoldsBy s p t.hold t.pc t.left t.current t.next t.day

-- ---- before the instructions

abbrev pub moment_of : Tree → Program → State → Moment
moment_of s p u = record { schedule = s; code = p; current = u.current; contacts = u.contacts; day = u.day }

-- what is on air while nothing is pending
abbrev pub resting : State → Airing
resting u = record {
  current = u.current;
  next = u.current;
  left = None;
  contacts = u.contacts;
  count = u.count;
  day = u.day;
}

pub rests_as : (u : State) → u.left ≡ None → u.next ≡ u.current → airing_of u ≡ resting u
rests_as u idle same =
    ap (λ (l : Option ℕ). let x : Airing = record (airing_of u) { left = l } in x) idle
    ∙ ap (λ (n : Configuration). let x : Airing = record (airing_of u) { left = None; next = n } in x) same

-- a suspended machine executes nothing
pub stopped : (p : Program) (n : ℕ) (v t : State) → is_running v.hold ≡ false → Executes p v n t → v ≡ t
stopped p zero v t stops ex = ex.1
stopped p (suc n) v t stops ex = let runs = ex.0 in absurd cc

-- this frame comes before the one of the wait
pub before_it : (until : Option ℕ) (day : ℕ) → IfSome until IsDayFrame → day < FRAMES_A_DAY → until ≢ Some day
    → IsBefore day until day
before_it None day within low apart = tt
before_it (Some until) day within low apart = now_before until day low within (λ e. apart (ap Some e))

-- ---- one instruction

abbrev pub Goes : Tree → Program → ℕ → ℕ → State → Type 0
Goes s p m n t =
    (u : State) → is_running u.hold ≡ true → u.left ≡ None → u.day < FRAMES_A_DAY
    → Leads (moment_of s p u) m u.pc u.next → Executes p u n t → Settles s p (resting u) t

waits : (s : Tree) (p : Program) → IsProgram p → (n : ℕ) (u t : State) (closed opened : Contacts)
    (until frames : Option ℕ) → u.left ≡ None → u.day < FRAMES_A_DAY
    → instr_at p u.pc ≡ Some (WaitAny closed opened until frames)
    → Rests (moment_of s p u) u.pc u.next closed opened until frames
    → Executes p (suspend (WaitsAny closed opened until frames) u) n t → Settles s p (resting u) t
waits s p pr n u t closed opened until frames idle low at h ex =
    let v : State = suspend (WaitsAny closed opened until frames) u in
    let formed : IsInstr (WaitAny closed opened until frames) = line_formed p.lines u.pc _ pr.lines_formed at in
    let due_now : due s u.contacts u.day ≡ u.current =
    h.keeps u.contacts u.day low h.away (before_it until u.day formed.until_within low h.ahead) in
    let onward : Onward p (u.pc + 1) u.current = record {
      to = h.onward.to;
      jumps = h.onward.jumps;
      top = inr (u.pc, record { rests = ap is_rest at; jumps = h.onward.jumps });
      names = h.onward.names;
    } in
    let all : Settles s p (resting u) v = record {
      taken = inr (inl (refl, due_now, rests_as v idle h.same));
      holds = (
        record {
          idle = record { none = idle; same = h.same };
          endless = h.endless;
          within = formed.until_within;
          keeps = h.keeps;
          onward = onward;
        },
        h.ahead,
      );
    } in
    subst (λ (w : State). Settles s p (resting u) w) (stopped p n v t refl ex) all

ends : (s : Tree) (p : Program) (n : ℕ) (u t : State) → u.left ≡ None → u.day < FRAMES_A_DAY
    → Stays (moment_of s p u) u.next
    → Executes p (let v : State = record u { hold = Ended } in v) n t → Settles s p (resting u) t
ends s p n u t idle low h ex =
    let v : State = record u { hold = Ended } in
    let all : Settles s p (resting u) v = record {
      taken = inr (inl (refl, h.always u.contacts u.day low, rests_as v idle h.same));
      holds = (record { none = idle; same = h.same }, h.always);
    } in
    subst (λ (w : State). Settles s p (resting u) w) (stopped p n v t refl ex) all

-- the swap is committed, and waited for
abbrev pub committed : ℕ → State → State
committed left u = record u { left = Some left; hold = WaitsSwap; pc = u.pc + 2 }

joins : (p : Program) (n left : ℕ) (u t : State) → is_running u.hold ≡ true → instr_at p (u.pc + 1) ≡ Some Join
    → Executes p (commit left u) n t → committed left u ≡ t
joins p zero left u t runs at ex = let stops = ex.0 in absurd cc
joins p (suc n) left u t runs at ex =
    let v : State = commit left u in
    let two : u.pc + 1 + 1 ≡ u.pc + 2 = omega arith in
    let next : Executes p (suspend WaitsSwap v) n t =
    subst (λ (w : State). Executes p w n t) (step_is p v Join at) ex.2 in
    ap (λ (k : ℕ). let w : State = record u { left = Some left; hold = WaitsSwap; pc = k } in w) (sym two)
    ∙ stopped p n (suspend WaitsSwap v) t refl next

-- the announcement is that of the schedule
announces : (s : Tree) (p : Program) (u : State) (delay : ℕ) → p.plan ≡ s.header
    → Changes (moment_of s p u) u.pc u.next delay
    → airing_of (committed (left_in (count_step (layout_mode p.plan.layout)) u.count delay) u) ≡ announced s (resting u)
announces s p u delay plan h =
    ap (λ (d : ℕ). airing_of (committed (left_in (count_step (layout_mode p.plan.layout)) u.count d) u)) h.noticed
    ∙ ap (λ (q : _). airing_of (committed (left_in (count_step (layout_mode q.layout)) u.count s.header.notice) u)) plan
    ∙ ap (λ (n : Configuration). let x : Airing = record (airing_of (committed
    (left_in (count_step (layout_mode s.header.layout)) u.count s.header.notice) u)) { next = n } in x) (sym h.wanted)

changes : (s : Tree) (p : Program) → p.plan ≡ s.header → (n : ℕ) (u t : State) (delay : ℕ)
    → is_running u.hold ≡ true → instr_at p u.pc ≡ Some (CommitIn delay) → IsAllowed p.plan (CommitIn delay) u
    → Changes (moment_of s p u) u.pc u.next delay
    → Executes p (effect p.plan (CommitIn delay) u) n t → Settles s p (resting u) t
changes s p plan n u t delay runs at ready h ex =
    let left : ℕ = left_in (count_step (layout_mode p.plan.layout)) u.count delay in
    let v : State = committed left u in
    let two : u.pc + 2 ≡ u.pc + 1 + 1 = omega arith in
    let onward : Onward p (u.pc + 2) u.next = record {
      to = h.onward.to;
      jumps = h.onward.jumps;
      top = inr (
        u.pc + 1,
        record {
          rests = ap is_rest h.joins;
          jumps = subst (λ (k : ℕ). instr_at p k ≡ Some (Jump h.onward.to)) two h.onward.jumps;
        },
      );
      names = h.onward.names;
    } in
    let new : due s u.contacts u.day ≢ u.current = λ e. ready.0.changes (sym h.wanted ∙ e) in
    let all : Settles s p (resting u) v = record {
      taken = inr (inr (refl, new, announces s p u delay plan h));
      holds = (λ e. cc, onward);
    } in
    subst (λ (w : State). Settles s p (resting u) w) (joins p n left u t runs h.joins ex) all

instr_leads : (s : Tree) (p : Program) → IsProgram p → p.plan ≡ s.header → (m n : ℕ) (t : State) → Goes s p m n t
    → (u : State) → is_running u.hold ≡ true → u.left ≡ None → u.day < FRAMES_A_DAY → (o : Option Instr)
    → instr_at p u.pc ≡ o → LeadsBy (moment_of s p u) u.pc u.next (Leads (moment_of s p u) m) o → StepIsAllowed p u
    → Executes p (step p u) n t → Settles s p (resting u) t
instr_leads s p pr plan m n t go u runs idle low (Some (Test contact target)) at h fine ex =
    go (effect p.plan (Test contact target) u) runs idle low h
    (subst (λ (w : State). Executes p w n t) (step_is p u _ at) ex)
instr_leads s p pr plan m n t go u runs idle low (Some (TestTime from to target)) at h fine ex =
    go (effect p.plan (TestTime from to target) u) runs idle low h
    (subst (λ (w : State). Executes p w n t) (step_is p u _ at) ex)
instr_leads s p pr plan m n t go u runs idle low (Some (Jump target)) at h fine ex =
    go (effect p.plan (Jump target) u) runs idle low h
    (subst (λ (w : State). Executes p w n t) (step_is p u _ at) ex)
instr_leads s p pr plan m n t go u runs idle low (Some (Edits edit)) at h fine ex =
    go (effect p.plan (Edits edit) u) runs idle low h
    (subst (λ (w : State). Executes p w n t) (step_is p u _ at) ex)
instr_leads s p pr plan m n t go u runs idle low (Some (CommitIn delay)) at h fine ex =
    let same : fine.instr ≡ CommitIn delay = same_some _ _ (instr_at p u.pc) fine.within at in
    changes s p plan n u t delay runs at (subst (λ (i : Instr). IsAllowed p.plan i u) same fine.allowed) h
    (subst (λ (w : State). Executes p w n t) (step_is p u _ at) ex)
instr_leads s p pr plan m n t go u runs idle low (Some (WaitAny closed opened until frames)) at h fine ex =
    waits s p pr n u t closed opened until frames idle low at h
    (subst (λ (w : State). Executes p w n t) (step_is p u _ at) ex)
instr_leads s p pr plan m n t go u runs idle low (Some End) at h fine ex =
    ends s p n u t idle low h (subst (λ (w : State). Executes p w n t) (step_is p u _ at) ex)
instr_leads s p pr plan m n t go u runs idle low _ at h fine ex = absurd h

-- ---- all instructions of a frame

pub burst_leads : (s : Tree) (p : Program) → IsProgram p → p.plan ≡ s.header → (m n : ℕ) (t : State) → Goes s p m n t
burst_leads s p pr plan zero n t u runs idle low h ex = absurd h
burst_leads s p pr plan (suc m) zero t u runs idle low h ex = let stops = ex.0 in absurd cc
burst_leads s p pr plan (suc m) (suc n) t u runs idle low h ex =
    instr_leads s p pr plan m n t (burst_leads s p pr plan m n t) u runs idle low (instr_at p u.pc) refl h ex.1 ex.2
