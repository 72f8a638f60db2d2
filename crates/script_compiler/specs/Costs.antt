-- The line at which a script is refused whose code can run more instructions in one frame than the budget.
use Rattle.std.specs.Prelude.{◌≡◌, ℕ, zero, suc, ◌<◌, ◌≤◌, ◌⊎◌, List, slice_get, Some}
use Rattle.plan_code.specs.declared.instr.Instr.{Instr}
use Rattle.plan_code.specs.declared.instr.Line.{Line}
use Rattle.plan_verifier.specs.Rules.{target_of}
use Rattle.script_front.specs.Tree.{Tree}
use Rattle.script_compiler.specs.Need.{StepsTo, HasPath}
use Rattle.script_compiler.specs.Compiled.{placed_instrs, lines_of_placed, instrs_of}

-- the machine can go from one pc to another in this many steps of one frame
abbrev pub CanReach : List Instr → ℕ → ℕ → ℕ → Type 0
CanReach code zero pc to = pc ≡ to
CanReach code (suc n) pc to = (i : Instr) × (next : ℕ) × (slice_get code pc ≡ Some i) × StepsTo i pc next
    × CanReach code n next to

-- the machine can come back here in the same frame
abbrev pub CanRevisit : List Instr → ℕ → Type 0
CanRevisit code pc = (n : ℕ) × CanReach code (suc n) pc pc

-- closes a loop that can iterate without a suspension: the instruction can jump to its own pc or an earlier one
pub record ClosesCycle (code : List Instr) (pc : ℕ) : Type 0 where
  pub instr : Instr
  pub target : ℕ
  pub there : slice_get code pc ≡ Some instr
  pub jumps : target_of instr ≡ Some target
  pub back : target ≤ pc
  pub comes : CanRevisit code pc

-- more instructions than the budget can run from here in one frame
abbrev pub IsOver : ℕ → List Instr → ℕ → Type 0
IsOver budget code pc = (n : ℕ) × (budget < n) × HasPath code pc n

-- this pc is the first at which it holds
pub record IsFirst (holds : ℕ → Type 0) (pc : ℕ) : Type 0 where
  pub point_here : holds pc
  pub earlier : (k : ℕ) → k < pc → holds k → ⊥

-- the first pc that closes such a loop; if there is none, the first pc over the budget
abbrev pub IsCostlyAt : ℕ → List Instr → ℕ → Type 0
IsCostlyAt budget code pc =
    IsFirst (ClosesCycle code) pc ⊎ (((k : ℕ) → ClosesCycle code k → ⊥) × IsFirst (IsOver budget code) pc)

-- the line of that instruction
pub record HasCostAt (budget : ℕ) (lines : List Line) (at : ℕ) : Type 0 where
  pub pc : ℕ
  pub line : Line
  pub there : slice_get lines pc ≡ Some line
  pub number : at ≡ line.number
  pub costly : IsCostlyAt budget (instrs_of lines) pc

-- the line of that instruction in a script's code
abbrev pub IsCostRefused : Tree → ℕ → Type 0
IsCostRefused s at = HasCostAt s.header.budget (lines_of_placed (placed_instrs s)) at
