-- Why a code is refused, and where: the first cause in the order tested, at the first instruction that has one.
pub use Rattle.plan_verifier.specs.Causes.{Where, WhereSome, ◌orelse◌, CommitRefused, FlowRefused}
use Rattle.std.specs.Prelude.{◌≡◌, ℕ, zero, suc, ◌+◌, ◌<◌, ◌≤◌, ◌⊎◌, true, false, if◌then◌else◌, List, length}
use Rattle.std.specs.Prelude.{slice_get, Contains, Option, Some, None}
use Rattle.mux_config.specs.Sound.{first_fault}
use Rattle.plan_code.specs.declared.plan.Plan.{Plan}
use Rattle.plan_code.specs.declared.label.Label.{Label}
use Rattle.plan_code.specs.declared.instr.Instr.{Instr}
use Rattle.plan_code.specs.declared.instr.Instr.TheVariants.{Test, TestTime, Jump, Loop}
use Rattle.plan_code.specs.Flags.{is_set}
use Rattle.plan_code.specs.Program.{Program, IsProgram, instr_at, label_at}
use Rattle.plan_verifier.specs.declared.cause.Cause.{Cause}
use Rattle.plan_verifier.specs.declared.cause.Cause.TheVariants.{Target, Table, Config as OfConfig, CounterUnset}
use Rattle.plan_verifier.specs.declared.cause.Cause.TheVariants.{Mismatch, Cost, Round, FallsOff}
use Rattle.plan_verifier.specs.Typing.{Known, pages_alone, leaves, target_of, continues, spent, Declares, Fits}
use Rattle.plan_verifier.specs.Typing.{IsInitial, HasOpening, IsLabelTyped, IsAfter, IsFine, Reaches, Arrives, IsTyped}

-- ---- at an instruction, given what is known there

-- entering a label: the state doesn't fit it, or its allowance is too small
abbrev pub FitsLabel : Program → Label → Known → Type 0
FitsLabel code label t = (declared : Known) × Declares code label declared × Fits t declared

abbrev pub EntryRefused : Program → Label → Known → Cause → Type 0
EntryRefused code label t =
    Where (FitsLabel code label t → ⊥) Mismatch
    orelse Where (t.allowance < label.cost) Cost

-- a jump, given the label at its target, if any
abbrev pub JumpRefused : Program → Option Label → Known → Cause → Type 0
JumpRefused code None t given = given ≡ Target
JumpRefused code (Some label) t given = EntryRefused code label t given

-- an instruction: for the label that it jumps to, or for what is known of the configurations and the swap
abbrev pub InstrRefused : Program → Instr → Known → Cause → Type 0
InstrRefused code (Test contact target) t = JumpRefused code (label_at code target) (spent t)
InstrRefused code (TestTime from to target) t = JumpRefused code (label_at code target) (spent t)
InstrRefused code (Jump target) t = JumpRefused code (label_at code target) (spent t)
InstrRefused code (Loop counter target) t =
    Where (is_set t.counters counter ≡ false) CounterUnset
    orelse JumpRefused code (label_at code target) (spent t)
InstrRefused code i t = FlowRefused code.plan i t

-- the same, starting with the allowance
abbrev pub KnownRefused : Program → ℕ → Instr → Known → Cause → Type 0
KnownRefused code pc i t =
    Where (t.allowance ≡ 0) Cost
    orelse InstrRefused code i t
    orelse Where ((continues i ≡ true) × (pc + 1 ≡ length code.lines)) FallsOff

-- ---- where the machine reaches an instruction

-- given the state that the label declares
abbrev pub TakenRefused : Program → ℕ → Instr → Label → Known → Cause → Type 0
TakenRefused code pc i label declared =
    Where (code.plan.budget < label.cost) Cost orelse KnownRefused code pc i declared

abbrev pub LabelRefused : Program → ℕ → Instr → Label → Cause → Type 0
LabelRefused code pc i label given =
    (declared : Known) × Declares code label declared × TakenRefused code pc i label declared given

-- at an instruction other than the first, given its label, if any, and what holds after the preceding instruction, if
-- that continues to this one
abbrev pub PcRefused : Program → ℕ → Instr → Option Label → Option Known → Cause → Type 0
PcRefused code pc i None None given = given ≡ Table
PcRefused code pc i None (Some t) given = KnownRefused code pc i t given
PcRefused code pc i (Some label) None given = LabelRefused code pc i label given
PcRefused code pc i (Some label) (Some t) given = (EntryRefused code label t orelse LabelRefused code pc i label) given

-- given the state that the first label declares
abbrev pub OpenedRefused : Program → Instr → Label → Known → Cause → Type 0
OpenedRefused code i label t =
    Where (IsInitial t → ⊥) Mismatch
    orelse Where (code.plan.budget < label.cost) Cost
    orelse WhereSome (first_fault t.current) OfConfig
    orelse Where (code.plan.period < pages_alone code.plan t.current) Round
    orelse KnownRefused code 0 i t

-- at the first instruction, given its label, if any
abbrev pub OpeningRefused : Program → Instr → Option Label → Cause → Type 0
OpeningRefused code i None given = given ≡ Table
OpeningRefused code i (Some label) given = (t : Known) × Declares code label t × OpenedRefused code i label t given

-- ---- the first instruction at which a cause holds

-- what holds at an instruction below a pc: IsSafe, except for a continuation to that pc itself
pub record IsSafeBelow (code : Program) (end : ℕ) (typing : List Known) (pc : ℕ) (i : Instr) (t : Known) : Type 0 where
  pub allowance : 1 ≤ t.allowance
  pub fine : IsFine code.plan i t
  pub inside : continues i ≡ true → pc + 1 < length code.lines
  pub onward : continues i ≡ true → pc + 1 < end → Arrives code typing (pc + 1) (label_at code (pc + 1))
      (leaves code.plan i t)
  pub targets : (target : ℕ) → target_of i ≡ Some target → Reaches code target (spent t)

-- the instructions below a pc have a typing
pub record IsTypingBelow (code : Program) (end : ℕ) (typing : List Known) : Type 0 where
  pub each : length typing ≡ end
  pub opening : 0 < end → HasOpening code
  pub labels : (label : Label) → Contains code.labels label → label.pc < end → IsLabelTyped code typing label
  pub safe : (pc : ℕ) (i : Instr) (t : Known) → instr_at code pc ≡ Some i → slice_get typing pc ≡ Some t
      → IsSafeBelow code end typing pc i t
  pub reached : (pc : ℕ) → pc < end → label_at code pc ≡ None → IsAfter code pc

-- what holds after an instruction, if it continues
abbrev pub left_by : Plan → Option Instr → Option Known → Option Known
left_by plan None known = None
left_by plan (Some i) None = None
left_by plan (Some i) (Some t) = if continues i then Some (leaves plan i t) else None

abbrev pub left_before : Program → List Known → ℕ → Option Known
left_before code typing zero = None
left_before code typing (suc pc) = left_by code.plan (instr_at code pc) (slice_get typing pc)

abbrev pub InstructionRefused : Program → List Known → ℕ → Instr → Cause → Type 0
InstructionRefused code typing zero i = OpeningRefused code i (label_at code 0)
InstructionRefused code typing (suc pc) i =
    PcRefused code (suc pc) i (label_at code (suc pc)) (left_before code typing (suc pc))

-- the first label at or past the end of the code has this pc
pub record IsFirstPast (code : Program) (pc : ℕ) : Type 0 where
  pub label : Label
  pub there : label_at code pc ≡ Some label
  pub first : (other : Label) → Contains code.labels other → length code.lines ≤ other.pc → pc ≤ other.pc

-- the instructions below have a typing, and this cause is the first at this one; or all instructions have one,
-- and this is the pc of the first label past them
abbrev pub IsRefusedAt : Program → List Known → ℕ → Option Instr → Cause → Type 0
IsRefusedAt code typing pc (Some i) given = IsTypingBelow code pc typing × InstructionRefused code typing pc i given
IsRefusedAt code typing pc None given =
    IsTypingBelow code (length code.lines) typing × IsFirstPast code pc × (given ≡ Table)

abbrev pub IsRefused : Program → ℕ → Cause → Type 0
IsRefused code pc given = (typing : List Known) × IsRefusedAt code typing pc (instr_at code pc) given

-- ---- a code is typed, or refused at exactly one instruction with one cause, and never both

pub record HasOneVerdict (code : Program) : Type 0 where
  pub either : IsTyped code ⊎ ((pc : ℕ) × (cause : Cause) × IsRefused code pc cause)
  pub never_both : (pc : ℕ) (cause : Cause) → IsTyped code → IsRefused code pc cause → ⊥
  pub one : (pc other_pc : ℕ) (cause other : Cause) → IsRefused code pc cause → IsRefused code other_pc other
      → (pc ≡ other_pc) × (cause ≡ other)

abbrev pub CodesHaveOneVerdict : Type 0
CodesHaveOneVerdict = (code : Program) → IsProgram code → HasOneVerdict code
