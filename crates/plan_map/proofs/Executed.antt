-- The next configuration of the machine is the one that is known at its pc, in every state of every run.
use Rattle.plan_map.proofs.Words.{[], ◌+◌, ◌<◌, ◌==◌, ◌∙◌, ◌∷◌, ◌≡◌, Arrives, Begin, Beginning, Bool, CommitsAreRows}
use Rattle.plan_map.proofs.Words.{Configuration, Contact, Edits, End, Event, Frame, HasCommit, Instr, IsCommit}
use Rattle.plan_map.proofs.Words.{IsPlayed, IsSafe, IsStart, IsTyping, Jump, Known, Label, Line, List, Loop, None, One}
use Rattle.plan_map.proofs.Words.{Option, Program, RunsBeginWithTheFirst, Settle, Some, Start, State, Test}
use Rattle.plan_map.proofs.Words.{TestTime, Until, Wait, WaitAny, WaitContact, after_burst, ap, arith, burst, changed}
use Rattle.plan_map.proofs.Words.{commits_before, cond, effect, eqb-true, false, found, get_some, happens, instr_at}
use Rattle.plan_map.proofs.Words.{is_due, is_first_noticed, is_here, is_in_window, label_at, leaves}
use Rattle.plan_map.proofs.Words.{nothing, opening_of, option_map, ready, refl, rows_of, run, same_Some, settle, shown}
use Rattle.plan_map.proofs.Words.{slice_get, slice_get_within, spent, step, step_is, subst, suc, sym, target_of, true}
use Rattle.plan_map.proofs.Words.{with_due_swap, with_swap, zero, ℕ}
use Rattle.plan_code.specs.Flags.{is_closed}
use Rattle.plan_verifier.proofs.Moving.{next_fits}
use Rattle.plan_map.proofs.KnownRows.{waited_next, paused_next, settled_next, at_first, all_from, commits_if, row_of}

-- ---- what is known where a state arrives

-- at this pc, this next configuration is known
pub record IsKnownNext (typing : List Known) (pc : ℕ) (next : Configuration) : Type 0 where
  pub known : Known
  pub there : slice_get typing pc ≡ Some known
  pub same : next ≡ known.next

arrives_by : (p : Program) (typing : List Known) → IsTyping p typing → (pc : ℕ) (o : Option Label) (t : Known)
    → label_at p pc ≡ o → Arrives p typing pc o t → IsKnownNext typing pc t.next
arrives_by p typing ty pc None t e h = record { known = t; there = h; same = refl }
arrives_by p typing ty pc (Some label) t e h =
    let within = found (λ (l : Label). l.pc == pc) p.labels label e in
    let typed = ty.labels label within.0 in
    let one = same_Some h.declared.next typed.known.next (sym h.declares.next ∙ typed.declares.next) in
    record {
      known = typed.known;
      there = subst (λ k. slice_get typing k ≡ Some typed.known) (eqb-true label.pc pc within.1) typed.there;
      same = next_fits t.pending h.declared.pending t h.declared h.fits.swap ∙ one;
    }

known_as : (typing : List Known) (pc : ℕ) (c n : Configuration) → n ≡ c → IsKnownNext typing pc c
    → IsKnownNext typing pc n
known_as typing pc c n e h = record { known = h.known; there = h.there; same = e ∙ h.same }

arrives : (p : Program) (typing : List Known) → IsTyping p typing → (pc : ℕ) (t : Known) (n : Configuration)
    → Arrives p typing pc (label_at p pc) t → n ≡ t.next → IsKnownNext typing pc n
arrives p typing ty pc t n h e = known_as typing pc t.next n e (arrives_by p typing ty pc (label_at p pc) t refl h)

-- ---- one instruction

abbrev pub IsAtKnown : List Known → State → Type 0
IsAtKnown typing s = IsKnownNext typing s.pc s.next

either_known : (typing : List Known) (b : Bool) (s t : State) → IsAtKnown typing s → IsAtKnown typing t
    → IsAtKnown typing (cond b s t)
either_known typing true s t h g = h
either_known typing false s t h g = g

either_pc : (typing : List Known) (b : Bool) (i j : ℕ) (n : Configuration) → IsKnownNext typing i n
    → IsKnownNext typing j n → IsKnownNext typing (cond b i j) n
either_pc typing true i j n h g = h
either_pc typing false i j n h g = g

settles : (typing : List Known) (left : Option ℕ) (s : State) → IsKnownNext typing (s.pc + 1) s.next
    → IsAtKnown typing (settle left s)
settles typing None s h = h
settles typing (Some k) s h = h

reaches : (p : Program) (typing : List Known) → IsTyping p typing → (s : State) (i : Instr) (t : Known)
    → IsSafe p typing s.pc i t → s.next ≡ t.next → (target : ℕ)
    → target_of i ≡ Some target → IsKnownNext typing target s.next
reaches p typing ty s i t safe e target is =
    let r = safe.targets target is in
    arrives p typing ty target (spent t) s.next (rw r.there r.comes) e

effect_known : (p : Program) (typing : List Known) → IsTyping p typing → (s : State) (i : Instr) (t : Known)
    → IsSafe p typing s.pc i t → slice_get typing s.pc ≡ Some t → s.next ≡ t.next
    → IsAtKnown typing (effect p.plan i s)
effect_known p typing ty s (Wait n) t safe there e =
    arrives p _ ty _ _ _ (safe.onward refl) (e ∙ sym (waited_next n _ t))
effect_known p typing ty s (Until d) t safe there e =
    arrives _ _ ty _ _ _ (safe.onward refl) (e ∙ sym (paused_next t.pending t))
effect_known p typing ty s (WaitContact c b) t safe there e =
    arrives _ _ ty _ _ _ (safe.onward refl) (e ∙ sym (paused_next t.pending t))
effect_known p typing ty s (WaitAny closed opened until frames) t safe there e =
    arrives _ _ ty _ _ _ (safe.onward refl) (e ∙ sym (paused_next t.pending t))
effect_known p typing ty s Settle t safe there e =
    settles _ _ _ (arrives _ _ ty _ _ _ (safe.onward refl) (e ∙ sym (settled_next _ _)))
effect_known p typing ty s End t safe there e = record { known = t; there = there; same = e }
effect_known p typing ty s (Edits c) t safe there e = arrives _ _ ty _ _ _ (safe.onward refl) (ap (changed _) e)
effect_known p typing ty s (Test c target) t safe there e =
    either_pc typing (is_closed s.contacts c) (s.pc + 1) target s.next
    (arrives p typing ty (s.pc + 1) (leaves p.plan (Test c target) t) s.next (safe.onward refl) e)
    (reaches p typing ty s (Test c target) t safe e target refl)
effect_known p typing ty s (TestTime from to target) t safe there e =
    either_pc typing (is_in_window from to s.day) (s.pc + 1) target s.next
    (arrives p typing ty (s.pc + 1) (leaves p.plan (TestTime from to target) t) s.next (safe.onward refl) e)
    (reaches p typing ty s (TestTime from to target) t safe e target refl)
effect_known p typing ty s (Jump target) t safe there e = reaches p typing ty s (Jump target) t safe e target refl
effect_known p typing ty s (Loop r target) t safe there e =
    either_pc typing _ target (s.pc + 1) s.next (reaches p typing ty s (Loop r target) t safe e target refl)
    (arrives p typing ty (s.pc + 1) (leaves p.plan (Loop r target) t) s.next (safe.onward refl) e)
effect_known p typing ty s i t safe there e = arrives _ _ ty _ _ _ (safe.onward refl) e

pub step_known : (p : Program) (typing : List Known) → IsTyping p typing → (s : State) → IsAtKnown typing s
    → IsAtKnown typing (step p s)
step_known p typing ty s h =
    let line = get_some p.lines s.pc (subst (λ n. s.pc < n) ty.each (slice_get_within typing s.pc h.known h.there)) in
    let i : Instr = line.0.instr in
    let at : instr_at p s.pc ≡ Some i = ap (λ o. option_map (λ (l : Line). l.instr) o) line.1 in
    rw (step_is p s i at) (effect_known p typing ty s i h.known (ty.safe s.pc i h.known at h.there) h.there h.same)

-- ---- frames and runs

pub burst_known : (most : ℕ) (p : Program) (typing : List Known) → IsTyping p typing → (s : State) → IsAtKnown typing s
    → IsAtKnown typing (burst most p s)
burst_known zero p typing ty s h = h
burst_known (suc most) p typing ty s h =
    either_known _ _ _ _ (burst_known most p typing ty (step p s) (step_known _ _ ty _ h)) h

pub ready_known : (typing : List Known) (s : State) → IsAtKnown typing s → IsAtKnown typing (ready s)
ready_known typing s h =
    let due : IsAtKnown typing (with_due_swap s) = either_known typing (is_due s.left) (with_swap s) s h h in
    either_known typing (is_here (with_due_swap s) (with_due_swap s).hold) _ (with_due_swap s) due due

pub shown_known : (p : Program) (typing : List Known) → IsTyping p typing → (s : State) → IsAtKnown typing s
    → IsAtKnown typing (shown p s)
shown_known p typing ty s h =
    let t : State = after_burst p s in
    let after : IsAtKnown typing t = burst_known p.plan.budget p typing ty (ready s) (ready_known typing s h) in
    either_known typing (is_first_noticed p.plan.notice t.left) _ t after after

pub happens_known : (p : Program) (typing : List Known) → IsTyping p typing → (s : State) (e : Event)
    → IsAtKnown typing s → IsAtKnown typing (happens p s e)
happens_known p typing ty s (Contact c closed) h = record { known = h.known; there = h.there; same = h.same }
happens_known p typing ty s Frame h =
    let k = shown_known p typing ty s h in
    record { known = k.known; there = k.there; same = k.same }

run_known : (p : Program) (typing : List Known) → IsTyping p typing → (s : State) (events : List Event)
    → IsAtKnown typing s → IsAtKnown typing (run p s events)
run_known p typing ty s [] h = h
run_known p typing ty s (e ∷ es) h = run_known p typing ty (happens p s e) es (happens_known p typing ty s e h)

-- ---- the start

-- a run starts with what is known at the first instruction, which is the opening
pub record Begins (p : Program) (typing : List Known) (s : State) : Type 0 where
  pub known : Known
  pub there : slice_get typing 0 ≡ Some known
  pub next : s.next ≡ known.next
  pub current : s.current ≡ opening_of p

pub begins : (p : Program) (typing : List Known) (start : Start) (s : State) → IsTyping p typing → IsStart p start s
    → Begins p typing s
begins p typing start s ty st =
    let o = ty.opening in
    let within = found (λ (l : Label). l.pc == 0) p.labels o.label o.first in
    let typed = ty.labels o.label within.0 in
    let there = subst (λ k. slice_get typing k ≡ Some typed.known) (eqb-true o.label.pc 0 within.1) typed.there in
    let one : st.label ≡ o.label = same_Some st.label o.label (sym st.first ∙ o.first) in
    let gets = subst (λ (l : Label). slice_get p.configurations l.cur ≡ Some s.current) one st.current in
    let current : s.current ≡ o.known.current = same_Some s.current o.known.current (sym gets ∙ o.declares.current) in
    let next = same_Some o.known.next typed.known.next (sym o.declares.next ∙ typed.declares.next) in
    let same : s.current ≡ typed.known.next = current ∙ o.opening.initial.same ∙ next in
    record {
      known = typed.known;
      there = there;
      next = st.next ∙ same;
      current = same ∙ sym (at_first p typing nothing ty typed.known there);
    }

pub started_known : (p : Program) (typing : List Known) (start : Start) (s : State) → IsTyping p typing
    → IsStart p start s → IsAtKnown typing s
started_known p typing start s ty st =
    let b = begins p typing start s ty st in
    record {
      known = b.known;
      there = subst (λ k. slice_get typing k ≡ Some b.known) (sym st.pc) b.there;
      same = b.next;
    }

pub played_known : (p : Program) (s : State) → (h : IsPlayed p s) → IsAtKnown h.typed.0 s
played_known p s h =
    let r = h.reached in
    let ts : List Known = h.typed.0 in
    let ty : IsTyping p ts = h.typed.1 in
    rw (← r.leads) (run_known p ts ty r.first r.events (started_known p ts r.start r.first ty r.started))

-- ---- the laws

pub runs_begin : RunsBeginWithTheFirst
runs_begin begin p start s typed st =
    record {
      row = (record { kind = Begin; line = begin; block = []; lead = None; config = opening_of p });
      there = refl;
      kind = refl;
      line = refl;
      config = sym (begins p typed.0 start s typed.1 st).current;
    }

-- the commit at the pc of a state has its row
pub row_at_state : (begin : ℕ) (p : Program) (typing : List Known) → IsTyping p typing → (s : State) (l : Line)
    → IsAtKnown typing s → slice_get p.lines s.pc ≡ Some l → IsCommit l.instr
    → HasCommit (rows_of begin p) (1 + commits_before p s.pc) l s.next
row_at_state begin p typing ty s l h at commits =
    let there = subst (λ k. slice_get typing k ≡ Some h.known) (omega arith) h.there in
    let row = row_of p typing ty 0 (One Beginning) [] (opening_of p) p.lines (all_from p)
    (at_first p typing (opening_of p) ty) s.pc l h.known at there (commits_if l.instr commits) in
    let e : suc (commits_before p s.pc) ≡ 1 + commits_before p s.pc = omega arith in
    record {
      row = row.row;
      there = subst (λ k. slice_get (rows_of begin p) k ≡ Some row.row) e row.there;
      kind = row.kind;
      line = row.line;
      config = row.config ∙ sym h.same;
    }

pub commits_are_rows : CommitsAreRows
commits_are_rows begin p s pc l c h at =
    let ts : List Known = h.typed.0 in
    let ty : IsTyping p ts = h.typed.1 in
    let u : State = burst at.steps p (ready s) in
    let known : IsAtKnown ts u = burst_known at.steps p ts ty (ready s) (ready_known ts s (played_known p s h)) in
    let line : slice_get p.lines u.pc ≡ Some l = subst (λ k. slice_get p.lines k ≡ Some l) (sym at.reached) at.there in
    let row = row_at_state begin p ts ty u l known line at.commits in
    rw (← at.next) (rw (← at.reached) row)
