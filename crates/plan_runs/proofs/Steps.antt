-- One instruction of a typed code is allowed, and leaves what is known wherever the machine continues.
use Rattle.plan_runs.proofs.Words.{◌∙◌, ◌≡◌, ◌≤◌, ◌⊎◌, Arrives, Configuration, Ended, Hold, IfSome, Instr, IsTyping}
use Rattle.plan_runs.proofs.Words.{Known, Label, List, None, Option, Program, Running, Some, State, Waits, WaitsAny}
use Rattle.plan_runs.proofs.Words.{WaitsSwap, ap, arith, eqb, eqb-true, false, hold_after_frame, instr_at, is_running}
use Rattle.plan_runs.proofs.Words.{label_at, left_after_frame, option_map, refl, slice_get, subst, sym, true, ℕ}
use Rattle.plan_verifier.proofs.Tabled.{declared_once}
use Rattle.plan_runs.proofs.Lookups.{found, get_some, get_below}
use Rattle.plan_runs.proofs.Knowledge.{AgreesBy, ComesBy, PausesBy, JoinsBy, IsAhead, AreSet, IsKept}
use Rattle.plan_runs.proofs.Passing.{fits_by}

-- ---- what is expected where the machine resumes

pub record Expects (p : Program) (ts : List Known) (pc : ℕ) (counters : List ℕ) (R : Known → Type 0) : Type 0 where
  pub known : Known
  pub arrives : Arrives p ts pc (label_at p pc) known
  pub affords : known.allowance ≤ p.plan.budget
  pub set : AreSet known.counters counters
  pub comes : R known

abbrev pub ResumesBy : Program → List Known → ℕ → Hold → Option ℕ → Configuration → Configuration → List ℕ → Type 0
ResumesBy p ts pc Running left c n counters =
    Expects p ts pc counters (λ t. ComesBy 0 t.pending t.current t.next left c n)
ResumesBy p ts pc (Waits k) left c n counters =
    Expects p ts pc counters (λ t. ComesBy k t.pending t.current t.next left c n)
ResumesBy p ts pc WaitsSwap left c n counters = Expects p ts pc counters (λ t. JoinsBy t left n)
ResumesBy p ts pc Ended left c n counters = Unit {0}
ResumesBy p ts pc _ left c n counters =
    Expects p ts pc counters (λ t. PausesBy t.pending t.current t.next left c n)

-- the machine is suspended, and a wait for a number of frames has one to come
abbrev pub IsSuspended : Hold → Type 0
IsSuspended Running = ⊥
IsSuspended (Waits k) = 1 ≤ k
IsSuspended (WaitsAny closed opened until left) = IfSome left (λ k. 1 ≤ k)
IsSuspended _ = Unit {0}

pub not_running : (hold : Hold) → IsSuspended hold → is_running hold ≡ false
not_running Running h = absurd h
not_running _ h = refl

-- so it is after the instructions of a frame
pub record Suspends (p : Program) (ts : List Known) (s : State) : Type 0 where
  pub stops : IsSuspended s.hold
  pub ahead : IsAhead s.left
  pub resumes : ResumesBy p ts s.pc (hold_after_frame s.hold) (left_after_frame s.left) s.current s.next s.counters
  pub kept : IsKept p.plan s.left s.current s.next s.counters

-- an instruction is executed, and this is known there
pub record RunsAt (p : Program) (ts : List Known) (b : ℕ) (s : State) : Type 0 where
  pub runs : is_running s.hold ≡ true
  pub instr : Instr
  pub known : Known
  pub at : instr_at p s.pc ≡ Some instr
  pub there : slice_get ts s.pc ≡ Some known
  pub affords : known.allowance ≤ b
  pub agrees : AgreesBy known.pending known.current known.next s.left s.current s.next
  pub set : AreSet known.counters s.counters
  pub kept : IsKept p.plan s.left s.current s.next s.counters

abbrev pub Outcome : Program → List Known → ℕ → State → Type 0
Outcome p ts b s = Suspends p ts s ⊎ RunsAt p ts b s

-- ---- the machine arrives at an instruction

pub same_some : {A : Type 0} (a b : A) (o : Option A) → o ≡ Some a → o ≡ Some b → a ≡ b
same_some a b o e f = cc (sym e ∙ f)

-- what is known there, for a state that arrives
pub record IsThere (p : Program) (ts : List Known) (pc b : ℕ) (s : State) : Type 0 where
  pub known : Known
  pub there : slice_get ts pc ≡ Some known
  pub affords : known.allowance ≤ b
  pub agrees : AgreesBy known.pending known.current known.next s.left s.current s.next
  pub set : AreSet known.counters s.counters

is_there : (p : Program) (ts : List Known) (ty : IsTyping p ts) (pc b : ℕ) (s : State) (t : Known) (o : Option Label)
    → label_at p pc ≡ o → Arrives p ts pc o t → t.allowance ≤ b
    → AgreesBy t.pending t.current t.next s.left s.current s.next → AreSet t.counters s.counters → IsThere p ts pc b s
is_there p ts ty pc b s t None e arrives affords agrees set =
    record { known = t; there = arrives; affords = affords; agrees = agrees; set = set }
is_there p ts ty pc b s t (Some label) e arrives affords agrees set =
    let one = found (λ (l : Label). eqb l.pc pc) p.labels label e in
    let place = ty.labels label one.inside in
    let same = declared_once p label arrives.declared place.known arrives.declares place.declares in
    let fits = arrives.fits in
    record {
      known = place.known;
      there = subst (λ (k : ℕ). slice_get ts k ≡ Some place.known) (eqb-true label.pc pc one.passes) place.there;
      affords = omega (arith, arrives.affords, affords);
      agrees = subst (λ (d : Known). AgreesBy d.pending d.current d.next s.left s.current s.next) same
          (fits_by t.pending arrives.declared.pending t arrives.declared s.left s.current s.next fits.swap agrees);
      set = subst (λ (d : Known). AreSet d.counters s.counters) same (λ r low on. set r low (fits.counters r on));
    }

pub arrive : (p : Program) (ts : List Known) (ty : IsTyping p ts) (b : ℕ) (s : State) (t : Known)
    → is_running s.hold ≡ true → Arrives p ts s.pc (label_at p s.pc) t → t.allowance ≤ b
    → AgreesBy t.pending t.current t.next s.left s.current s.next → AreSet t.counters s.counters
    → IsKept p.plan s.left s.current s.next s.counters → RunsAt p ts b s
arrive p ts ty b s t runs arrives affords agrees set kept =
    let x = is_there p ts ty s.pc b s t (label_at p s.pc) refl arrives affords agrees set in
    let line = get_some p.lines s.pc (omega (arith, get_below ts s.pc x.known x.there, ty.each)) in
    record {
      runs = runs;
      instr = line.0.instr;
      known = x.known;
      at = ap (λ o. option_map (λ l. l.instr) o) line.1;
      there = x.there;
      affords = x.affords;
      agrees = x.agrees;
      set = x.set;
      kept = kept;
    }
