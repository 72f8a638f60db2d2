-- Typed codes: what is known at each instruction of a code, such that the code cannot trap. What an instruction needs,
-- and what holds after it, is defined in `Rules.antt`; its names are here too.
pub use Rattle.plan_verifier.specs.Rules.{Known, pages_alone, notice_pages, HasRoom, CanCommit, IsCertain}
pub use Rattle.plan_verifier.specs.Rules.{IsSurelyPending, IsFine, known_after_swap}
pub use Rattle.plan_verifier.specs.Rules.{after_wait, perhaps_swapped, after_pause, after_settle, spent, rested, leaves}
pub use Rattle.plan_verifier.specs.Rules.{HasConfigurationsOf, FitsSwap, target_of, continues}
use Rattle.std.specs.Prelude.{◌≡◌, ℕ, ◌+◌, ◌<◌, ◌≤◌, true, List, length, slice_get, Contains, Option, Some, None}
use Rattle.mux_config.specs.Sound.{IsSound}
use Rattle.plan_code.specs.declared.plan.Plan.{Plan}
use Rattle.plan_code.specs.declared.label.Label.{Label}
use Rattle.plan_code.specs.declared.label.Swap.TheVariants.{Idle}
use Rattle.plan_code.specs.declared.instr.Instr.{Instr}
use Rattle.plan_code.specs.Flags.{Includes}
use Rattle.plan_code.specs.Program.{Program, instr_at, label_at}

-- ---- labels

-- what a label declares
pub record Declares (code : Program) (label : Label) (t : Known) : Type 0 where
  pub current : slice_get code.configurations label.cur ≡ Some t.current
  pub next : slice_get code.configurations label.next ≡ Some t.next
  pub pending : label.pending ≡ t.pending
  pub counters : label.counters ≡ t.counters
  pub cost : label.cost ≡ t.allowance

-- a state fits what a label declares: it implies that
pub record Fits (t declared : Known) : Type 0 where
  pub swap : FitsSwap t.pending declared.pending t declared
  pub counters : Includes t.counters declared.counters

-- a state can enter a label: it fits it, and has enough allowance for the label's cost
pub record CanEnter (code : Program) (label : Label) (t : Known) : Type 0 where
  pub declared : Known
  pub declares : Declares code label declared
  pub fits : Fits t declared
  pub affords : label.cost ≤ t.allowance

-- ---- typed codes

-- the code starts with equal configurations, no pending swap and no counter set
pub record IsInitial (t : Known) : Type 0 where
  pub same : t.current ≡ t.next
  pub idle : t.pending ≡ Idle
  pub unset : t.counters.0 ≡ 0

-- the configuration is sound, and its pages fit in the period
pub record IsOpening (plan : Plan) (t : Known) : Type 0 where
  pub initial : IsInitial t
  pub sound : IsSound t.current
  pub within_period : pages_alone plan t.current ≤ plan.period

-- a state arrives at a pc: it is what is known there, or it can enter the label there
abbrev pub Arrives : Program → List Known → ℕ → Option Label → Known → Type 0
Arrives code typing pc None t = slice_get typing pc ≡ Some t
Arrives code typing pc (Some label) t = CanEnter code label t

-- there is a label at the first instruction
pub record HasOpening (code : Program) : Type 0 where
  pub label : Label
  pub known : Known
  pub first : label_at code 0 ≡ Some label
  pub declares : Declares code label known
  pub opening : IsOpening code.plan known

-- a label is inside the code, what it declares is known there, and its cost is within the budget
pub record IsLabelTyped (code : Program) (typing : List Known) (label : Label) : Type 0 where
  pub known : Known
  pub there : slice_get typing label.pc ≡ Some known
  pub declares : Declares code label known
  pub within : label.cost ≤ code.plan.budget

-- there is a label at the target, and the state can enter it
pub record Reaches (code : Program) (target : ℕ) (t : Known) : Type 0 where
  pub label : Label
  pub there : label_at code target ≡ Some label
  pub comes : CanEnter code label t

-- the instruction before this pc continues to it
pub record IsAfter (code : Program) (pc : ℕ) : Type 0 where
  pub before : ℕ
  pub instr : Instr
  pub next : pc ≡ before + 1
  pub there : instr_at code before ≡ Some instr
  pub onward : continues instr ≡ true

-- what holds at an instruction, given what is known there: there is an allowance, it can't trap, and what holds
-- after it arrives wherever the machine continues; the last instruction doesn't continue past the end
pub record IsSafe (code : Program) (typing : List Known) (pc : ℕ) (i : Instr) (t : Known) : Type 0 where
  pub allowance : 1 ≤ t.allowance
  pub fine : IsFine code.plan i t
  pub inside : continues i ≡ true → pc + 1 < length code.lines
  pub onward : continues i ≡ true → Arrives code typing (pc + 1) (label_at code (pc + 1)) (leaves code.plan i t)
  pub targets : (target : ℕ) → target_of i ≡ Some target → Reaches code target (spent t)

-- what is known at each pc of the code, such that the code cannot trap
pub record IsTyping (code : Program) (typing : List Known) : Type 0 where
  pub each : length typing ≡ length code.lines
  pub opening : HasOpening code
  pub labels : (label : Label) → Contains code.labels label → IsLabelTyped code typing label
  pub safe : (pc : ℕ) (i : Instr) (t : Known) → instr_at code pc ≡ Some i → slice_get typing pc ≡ Some t
      → IsSafe code typing pc i t
  pub reached : (pc : ℕ) → pc < length code.lines → label_at code pc ≡ None → IsAfter code pc

abbrev pub IsTyped : Program → Type 0
IsTyped code = (typing : List Known) × IsTyping code typing
