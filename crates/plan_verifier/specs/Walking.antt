-- The verifier's walk over a code, as functions. No public contract refers to it.
pub use Rattle.plan_verifier.specs.Tests.{cause_if, cause_of, ◌first_or◌, unless, is_same, is_idle, fits_swap}
pub use Rattle.plan_verifier.specs.Tests.{flow_cause, start_cause}
use Rattle.std.specs.Prelude.{◌≡◌, ℕ, zero, suc, ◌+◌, ◌==◌, ◌&&◌, Bool, not, if◌then◌else◌, nat_lt, nat_le, List, []}
use Rattle.std.specs.Prelude.{◌∷◌, length, find, Option, Some, None, Result, Ok, Err}
use Rattle.std.specs.Int.RustNames.{bit_and}
use Rattle.plan_code.specs.declared.plan.Plan.{Plan}
use Rattle.plan_code.specs.declared.flags.Counters.{Counters}
use Rattle.plan_code.specs.declared.label.Label.{Label}
use Rattle.plan_code.specs.declared.instr.Instr.{Instr}
use Rattle.plan_code.specs.declared.instr.Line.{Line}
use Rattle.plan_code.specs.declared.instr.Instr.TheVariants.{End, Test, TestTime, Jump, Loop}
use Rattle.plan_code.specs.Flags.{is_set}
use Rattle.plan_code.specs.Program.{Program, label_at}
use Rattle.plan_verifier.specs.declared.cause.Cause.{Cause}
use Rattle.plan_verifier.specs.declared.cause.Cause.TheVariants.{Target, Table, CounterUnset, Mismatch, Cost, FallsOff}
use Rattle.plan_verifier.specs.Indexed.{configuration_at}
use Rattle.plan_verifier.specs.declared.refusal.Refusal.{Refusal}
use Rattle.plan_verifier.specs.Typing.{Known, leaves, continues, spent}

abbrev pub includes : Counters → Counters → Bool
includes a b = bit_and a.0 b.0 == b.0

abbrev pub is_fit : Known → Known → Bool
is_fit t declared = includes t.counters declared.counters && fits_swap t.pending declared.pending t declared

abbrev pub is_initial : Known → Bool
is_initial t = is_idle t.pending && (t.counters.0 == 0) && is_same t.current t.next

-- ---- the cause at an instruction

-- what a label declares, with its configurations from the table
abbrev pub declared_by : Program → Label → Known
declared_by code label =
    record {
      current = configuration_at code.configurations label.cur;
      next = configuration_at code.configurations label.next;
      pending = label.pending;
      counters = label.counters;
      allowance = label.cost;
    }

abbrev pub entry_cause : Program → Label → Known → Option Cause
entry_cause code label t =
    cause_if (not (is_fit t (declared_by code label))) Mismatch
    first_or cause_if (nat_lt t.allowance label.cost) Cost

abbrev pub jump_cause : Program → Option Label → Known → Option Cause
jump_cause code None t = Some Target
jump_cause code (Some label) t = entry_cause code label t

-- for a jump to a label
abbrev pub target_cause : Program → Instr → Known → Option Cause
target_cause code (Test contact target) t = jump_cause code (label_at code target) (spent t)
target_cause code (TestTime from to target) t = jump_cause code (label_at code target) (spent t)
target_cause code (Jump target) t = jump_cause code (label_at code target) (spent t)
target_cause code (Loop counter target) t =
    cause_if (not (is_set t.counters counter)) CounterUnset first_or jump_cause code (label_at code target) (spent t)
target_cause code i t = None

abbrev pub instr_cause : Program → Instr → Known → Option Cause
instr_cause code i t = target_cause code i t first_or flow_cause code.plan i t

abbrev pub known_cause : Program → ℕ → Instr → Known → Option Cause
known_cause code pc i t =
    cause_if (t.allowance == 0) Cost
    first_or instr_cause code i t
    first_or cause_if (continues i && (pc + 1 == length code.lines)) FallsOff

-- ---- entering an instruction: what is known there, or the cause for refusing it

abbrev pub taken : Option Cause → Known → Result Known Cause
taken None t = Ok t
taken (Some cause) t = Err cause

abbrev pub label_cause : Program → Label → Option Cause
label_cause code label = cause_if (nat_lt code.plan.budget label.cost) Cost

abbrev pub opening_cause : Program → Label → Known → Option Cause
opening_cause code label t =
    cause_if (not (is_initial t)) Mismatch
    first_or label_cause code label
    first_or start_cause code.plan t.current

abbrev pub opening_known : Program → Option Label → Result Known Cause
opening_known code None = Err Table
opening_known code (Some label) = taken (opening_cause code label (declared_by code label)) (declared_by code label)

abbrev pub known_at_pc : Program → Option Label → Option Known → Result Known Cause
known_at_pc code None None = Err Table
known_at_pc code None (Some t) = Ok t
known_at_pc code (Some label) None = taken (label_cause code label) (declared_by code label)
known_at_pc code (Some label) (Some t) =
    taken (entry_cause code label t first_or label_cause code label) (declared_by code label)

abbrev pub entered : Program → ℕ → Option Known → Result Known Cause
entered code zero came = opening_known code (label_at code 0)
entered code (suc pc) came = known_at_pc code (label_at code (suc pc)) came

-- ---- the walk

abbrev pub refused_at : ℕ → Cause → Option Refusal
refused_at pc cause = Some (record { pc = pc; cause = cause })

-- what is known, if the preceding instruction continues to this one
abbrev pub known_if_reached : Bool → Known → Option Known
known_if_reached comes t = if comes then Some t else None

abbrev pub passed_on : Plan → Instr → Known → Option Known
passed_on plan i t = known_if_reached (continues i) (leaves plan i t)

-- the cause at an instruction: on entry, or else of the instruction itself
abbrev pub whole_cause : Result Known Cause → (Known → Option Cause) → Option Cause
whole_cause (Err cause) here = Some cause
whole_cause (Ok t) here = here t

-- the instruction at a pc; `End` past the last one
abbrev pub instr_or_end : Option Instr → Instr
instr_or_end None = End
instr_or_end (Some i) = i

-- an instruction is entered and passed, with this state after it
pub record PassesInstr (code : Program) (pc : ℕ) (i : Instr) (came : Option Known) (left : Known) : Type 0 where
  pub known : Known
  pub enters : entered code pc came ≡ Ok known
  pub none : known_cause code pc i known ≡ None
  pub leaves_it : left ≡ leaves code.plan i known

-- the cause here, or else the result of the rest
abbrev pub or_after : ℕ → Option Cause → Option Refusal → Option Refusal
or_after pc None rest = rest
or_after pc (Some cause) rest = refused_at pc cause

abbrev pub on_entry : ℕ → Result Known Cause → (Known → Option Refusal) → Option Refusal
on_entry pc (Err cause) rest = refused_at pc cause
on_entry pc (Ok t) rest = rest t

abbrev pub past_label : Option Label → Option Refusal
past_label None = None
past_label (Some label) = refused_at label.pc Table

-- the first label at or past the end
abbrev pub past_end : Program → Option Refusal
past_end code = past_label (find (λ l. nat_le (length code.lines) l.pc) code.labels)

-- the refusal, if any, of the instructions from `pc` on
abbrev pub walk : Program → List Line → ℕ → Option Known → Option Refusal
walk code [] pc came = past_end code
walk code (line ∷ lines) pc came =
    on_entry pc (entered code pc came) (λ t.
    or_after pc (known_cause code pc line.instr t) (walk code lines (pc + 1) (passed_on code.plan line.instr t)))

abbrev pub refusal_of : Program → Option Refusal
refusal_of code = walk code code.lines 0 None
