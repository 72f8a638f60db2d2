-- Why a plan can't take over: the verifier refuses the code that does, or that code exceeds a limit.
use Rattle.std.specs.Prelude.{◌≡◌, ℕ, ◌+◌, ◌<◌, ◌⊎◌, List, [], ◌∷◌, ◌++◌, length, map, Contains, Some, unwrap_or}
use Rattle.mux_types.specs.Configuration.{Configuration}
use Rattle.plan_code.specs.declared.instr.Instr.{Instr}
use Rattle.plan_code.specs.declared.instr.Line.{Line}
use Rattle.plan_code.specs.declared.label.Label.{Label}
use Rattle.plan_code.specs.declared.limits.TheConstants.{MOST_CONFIGURATIONS, MOST_LABELS, MOST_INSTRUCTIONS}
use Rattle.plan_code.specs.Program.{Program, line_at}
use Rattle.plan_verifier.specs.declared.cause.Cause.{Cause}
use Rattle.plan_verifier.specs.declared.cause.Cause.TheVariants.{Cost}
use Rattle.plan_verifier.specs.Refusals.{IsRefused}
use Rattle.plan_verifier.specs.Rules.{target_of}
use Rattle.plan_takeover.specs.Takeover.{IsTakeover, beginning, leading, moved_label}
use Rattle.script_compiler.specs.Compiled.{instrs_of}
use Rattle.script_compiler.specs.Costs.{IsOver}
use Rattle.script_compiler.specs.Need.{IsNeed}
use Rattle.script_compiler.specs.declared.fault.CodeLimit.{CodeLimit}
use Rattle.script_compiler.specs.declared.fault.CodeLimit.TheVariants.{Instructions, Labels, Configurations, Counters}
use Rattle.script_compiler.specs.declared.fault.CompileFault.{CompileFault}
use Rattle.script_compiler.specs.declared.fault.CompileFault.TheVariants.{Refused, Limit, Memory}

-- ---- the code that takes over, whether it is accepted or not

-- the cost is the number of instructions that these need from the first one on in one frame; or more than the budget
-- can run there, whatever the cost
abbrev pub IsPriced : (budget : ℕ) → List Line → (cost : ℕ) → Type 0
IsPriced budget lines cost = IsNeed (instrs_of lines) 0 cost ⊎ IsOver budget (instrs_of lines) 0

-- its table is that of the plan, with what is on air behind it, and its first label costs what is needed from there
pub record IsTakeoverCode (line : ℕ) (old : Program) (from to : Configuration) (new : Program) : Type 0 where
  pub takes : IsTakeover line old from to new
  pub table : new.configurations ≡ old.configurations ++ from ∷ []
  pub priced : IsPriced old.plan.budget new.lines takes.cost

-- ---- refusals

-- the verifier refuses that code at an instruction of this line, for this cause; at a label past the last instruction
-- the line is that of the instructions that lead to the plan
pub record IsRefusedCode (line : ℕ) (old : Program) (from to : Configuration) (at : ℕ) (cause : Cause) : Type 0 where
  pub new : Program
  pub code : IsTakeoverCode line old from to new
  pub pc : ℕ
  pub refused : IsRefused new pc cause
  pub lined : at ≡ unwrap_or (line_at new pc) line

-- a budget of 1 leaves no room for an edit beside the wait
pub record IsShortOfBudget (line : ℕ) (old : Program) (at : ℕ) (cause : Cause) : Type 0 where
  pub budget : old.plan.budget < 2
  pub lined : at ≡ line
  pub costs : cause ≡ Cost

-- ---- limits

-- so many instructions further on the instruction jumps past the last pc that a code can name
abbrev pub JumpsTooFar : (by : ℕ) → Instr → Type 0
JumpsTooFar by instr = (target : ℕ) × (target_of instr ≡ Some target) × (65535 < target + by)

abbrev pub HasFarJump : (by : ℕ) → List Line → Type 0
HasFarJump by lines = (line : Line) × Contains lines line × JumpsTooFar by line.instr

abbrev pub HasFarLabel : (by : ℕ) → List Label → Type 0
HasFarLabel by labels = (label : Label) × Contains labels label × (65535 < label.pc + by)

-- so many instructions that lead to the plan, and then those of the plan, are too many, or one jumps too far
abbrev pub AreTooMany : (by : ℕ) → List Line → Type 0
AreTooMany by lines = (MOST_INSTRUCTIONS < by + length lines) ⊎ HasFarJump by lines

-- its labels and the first one are too many, or one is too far on
abbrev pub AreTooManyLabels : (by : ℕ) → List Label → Type 0
AreTooManyLabels by labels = (MOST_LABELS < 1 + length labels) ⊎ HasFarLabel by labels

-- the limit that the code would exceed, with this many instructions that lead to the plan
abbrev pub IsExceeded : (by : ℕ) → (old : Program) → CodeLimit → Type 0
IsExceeded by old Instructions = AreTooMany by old.lines
IsExceeded by old Labels = AreTooManyLabels by old.labels
IsExceeded by old Configurations = MOST_CONFIGURATIONS < length old.configurations + 1
IsExceeded by old Counters = ⊥

-- out of memory, or a limit of which this holds
abbrev pub IsLimit : (CodeLimit → Type 0) → CompileFault → Type 0
IsLimit holds (Refused at cause) = ⊥
IsLimit holds (Limit at limit) = holds limit
IsLimit holds Memory = Unit {0}

-- ---- both

-- why the plan does not take over; out of memory says nothing
abbrev pub IsTakeoverRefused : (line : ℕ) → Program → (from to : Configuration) → CompileFault → Type 0
IsTakeoverRefused line old from to (Refused at cause) =
    IsShortOfBudget line old at cause ⊎ IsRefusedCode line old from to at cause
IsTakeoverRefused line old from to (Limit at limit) = IsExceeded (length (leading old.plan line from to)) old limit
IsTakeoverRefused line old from to Memory = Unit {0}

-- ---- how the code is made. No public contract depends on what follows

-- the code of these instructions, of which so many lead to the plan
pub record IsBegunBy (by : ℕ) (lines : List Line) (old : Program) (from : Configuration) (new : Program) : Type 0 where
  pub plan : new.plan ≡ old.plan
  pub instructions : new.lines ≡ lines
  pub table : new.configurations ≡ old.configurations ++ from ∷ []
  pub cost : ℕ
  pub labels : new.labels ≡ beginning (length old.configurations) cost ∷ map (moved_label by) old.labels
  pub priced : IsPriced old.plan.budget lines cost

-- so many instructions further on it is still a label
abbrev pub IsNear : ℕ → Label → Type 0
IsNear by label = label.pc + by < 65536
