-- How many instructions of a code can run in one frame, and on which lines of its script the longest path begins and
-- ends.
use Rattle.std.specs.Prelude.{◌≡◌, ◌↔◌, ℕ, zero, suc, ◌≤◌, List, slice_get, Some, IsSome}
use Rattle.mux_config.specs.Configuration.{nothing}
use Rattle.mux_config.specs.Sound.{IsSound}
use Rattle.plan_code.specs.declared.instr.Instr.{Instr}
use Rattle.plan_code.specs.declared.instr.Line.{Line}
use Rattle.plan_verifier.specs.Rules.{pages_alone}
use Rattle.script_front.specs.Tree.{Tree}
use Rattle.script_compiler.specs.Need.{StepsTo, HasPath, IsWithinBudget}
use Rattle.script_compiler.specs.Costs.{ClosesCycle, IsFirst}
use Rattle.script_compiler.specs.Judged.{IsJudged}
use Rattle.script_compiler.specs.Compiled.{AreFine, opening_of, body_of, beginning, instrs_of}
use Rattle.script_compiler.specs.Limits.{IsWithin}
use Rattle.script_compiler.specs.declared.fault.CodeLimit.{CodeLimit}
use Rattle.script_compiler.specs.declared.longest_path.LongestPath.{LongestPath}
use Rattle.script_compiler.specs.declared.frame_costs.FrameCost.{FrameCost}
use Rattle.script_compiler.specs.declared.frame_costs.FrameCost.TheVariants.{Most, Repeats, Beyond}

-- a path of this many instructions, from one pc to another, of which only the last may suspend
abbrev pub RunsTo : List Instr → ℕ → ℕ → ℕ → Type 0
RunsTo code pc zero last = ⊥
RunsTo code pc (suc zero) last = IsSome (slice_get code pc) × (last ≡ pc)
RunsTo code pc (suc (suc n)) last =
    (i : Instr) × (to : ℕ) × (slice_get code pc ≡ Some i) × StepsTo i pc to × RunsTo code to (suc n) last

-- the instruction at a pc is of this line
abbrev pub IsLineAt : List Line → ℕ → ℕ → Type 0
IsLineAt lines pc number = (l : Line) × (slice_get lines pc ≡ Some l) × (number ≡ l.number)

-- a path from an instruction of one line to an instruction of another, and no path has more instructions
pub record IsLongestPath (lines : List Line) (p : LongestPath) : Type 0 where
  pub from : ℕ
  pub to : ℕ
  pub begins : IsLineAt lines from p.first
  pub ends : IsLineAt lines to p.last
  pub runs : RunsTo (instrs_of lines) from p.instructions to
  pub longest : IsWithinBudget p.instructions (instrs_of lines)

-- the first instruction that closes a loop which can repeat without a suspension is of this line
abbrev pub IsRepeated : List Line → ℕ → Type 0
IsRepeated lines line = (pc : ℕ) × IsLineAt lines pc line × IsFirst (ClosesCycle (instrs_of lines)) pc

-- more than 255 instructions can run in one frame from an instruction of this line, and yet no loop can repeat without
-- a suspension
pub record IsBeyond (lines : List Line) (line : ℕ) : Type 0 where
  pub pc : ℕ
  pub place : IsLineAt lines pc line
  pub runs : HasPath (instrs_of lines) pc 256
  pub loopless : (k : ℕ) → ClosesCycle (instrs_of lines) k → ⊥

abbrev pub IsFrameCost : List Line → FrameCost → Type 0
IsFrameCost lines (Most p) = IsLongestPath lines p
IsFrameCost lines (Repeats line) = IsRepeated lines line
IsFrameCost lines (Beyond line) = IsBeyond lines line

-- the law of budgets: the budgets within which all paths are are those from the length of the longest one on
abbrev pub LongestPathIsLeastBudget : Type 0
LongestPathIsLeastBudget =
    (lines : List Line) (p : LongestPath) → IsLongestPath lines p → (budget : ℕ)
    → IsWithinBudget budget (instrs_of lines) ↔ p.instructions ≤ budget

-- a script that is accepted, if its costs are within its budget
pub record IsAcceptedButForCosts (s : Tree) : Type 0 where
  pub made : AreFine s.items nothing
  pub sound : IsSound (opening_of s)
  pub within_period : pages_alone s.header (opening_of s) ≤ s.header.period
  pub judged : IsJudged s.header (body_of s) (beginning (opening_of s))
  pub limits : (limit : CodeLimit) → IsWithin limit s
