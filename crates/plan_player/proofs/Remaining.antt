-- The instructions of a frame that remain to be executed.
use Rattle.plan_player.proofs.Words.{◌+◌, ◌∙◌, ◌≡◌, ◌≤◌, CanRun, Executes, IsProgram, Program, State, StepIsAllowed}
use Rattle.plan_player.proofs.Words.{arith, burst, burst_steps, false, is_running, step, suc, sym, true, zero, ℕ}
use Rattle.plan_runs.proofs.Bursts.{bursts_are_one}

-- this many instructions took the first state to this one, and the rest of the frame's instructions remain
pub record Remains (p : Program) (first : State) (steps : ℕ) (s : State) : Type 0 where
  pub left : ℕ
  pub counted : steps + left ≡ burst_steps p.plan.budget p first
  pub within : steps + left ≤ 255
  pub executes : Executes p s left (burst p.plan.budget p first)

pub remains_all : (p : Program) (s : State) → IsProgram p → CanRun p s → Remains p s 0 s
remains_all p s program can =
    let one = (bursts_are_one p s can.steps can.end can.executes).computed p.plan.budget can.within in
    record {
      left = can.steps;
      counted = (omega arith) ∙ sym one.1;
      within = omega (arith, can.within, program.planned.budget_to);
      executes = rw (one.0) can.executes;
    }

-- what a running machine can execute next, and what then remains
pub record Goes (p : Program) (first : State) (steps : ℕ) (s : State) : Type 0 where
  pub allowed : StepIsAllowed p s
  pub counted : steps + 1 ≤ 255
  pub next : Remains p first (steps + 1) (step p s)

goes_by : (p : Program) (first s : State) (steps left : ℕ) → steps + left ≡ burst_steps p.plan.budget p first
    → steps + left ≤ 255
    → Executes p s left (burst p.plan.budget p first) → is_running s.hold ≡ true → Goes p first steps s
goes_by p first s steps zero counted within executes runs = let stops = executes.0 in absurd cc
goes_by p first s steps (suc left) counted within executes runs =
    let same : steps + 1 + left ≡ steps + suc left = omega arith in
    record {
      allowed = executes.1;
      counted = omega (arith, within);
      next = record { left = left; counted = same ∙ counted; within = omega (arith, within); executes = executes.2 };
    }

pub goes : (p : Program) (first : State) (steps : ℕ) (s : State) → Remains p first steps s → is_running s.hold ≡ true
    → Goes p first steps s
goes p first steps s h runs = goes_by p first s steps h.left h.counted h.within h.executes runs

-- a suspended machine is at the end of the frame's instructions
pub record Stops (p : Program) (first : State) (steps : ℕ) (s : State) : Type 0 where
  pub state : s ≡ burst p.plan.budget p first
  pub counted : steps ≡ burst_steps p.plan.budget p first

stops_by : (p : Program) (first s : State) (steps left : ℕ) → steps + left ≡ burst_steps p.plan.budget p first
    → Executes p s left (burst p.plan.budget p first) → is_running s.hold ≡ false → Stops p first steps s
stops_by p first s steps zero counted executes held =
    record { state = executes.1; counted = (omega arith) ∙ counted }
stops_by p first s steps (suc left) counted executes held = let runs = executes.0 in absurd cc

pub stops : (p : Program) (first : State) (steps : ℕ) (s : State) → Remains p first steps s → is_running s.hold ≡ false
    → Stops p first steps s
stops p first steps s h held = stops_by p first s steps h.left h.counted h.executes held
