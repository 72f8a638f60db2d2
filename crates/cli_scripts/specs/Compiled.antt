-- The result of `compile`, and its refusals.
use Rattle.std.specs.Prelude.{◌≡◌, ◌≢◌, ◌⊎◌, ℕ, List, length, Option, Some, None, IsUtf8}
use Rattle.plan_code.specs.Program.{Program}
use Rattle.plan_code.specs.Spelling.{code_bytes}
use Rattle.plan_verifier.specs.Typing.{IsTyped}
use Rattle.script_front.specs.Denoting.{IsScriptOf}
use Rattle.schedule_front.specs.Denoting.{IsScheduleOf}
use Rattle.schedule_front.specs.Sources.{IsNoSource}
use Rattle.schedule_front.specs.Tree.{IsSchedule}
use Rattle.schedule_front.specs.Tree.{Tree as Schedule}
use Rattle.schedule_runs.specs.Due.{opening_of}
use Rattle.schedule_verifier.specs.Playing.{PlaysAsScheduled}
use Rattle.schedule_compiler.specs.declared.fault.ScheduleFault.TheVariants.{Memory as NoMemoryForSchedule}
use Rattle.script_front.specs.Tree.{Tree, IsScript}
use Rattle.script_compiler.specs.Compiled.{IsAccepted, IsCodeOf, CostsItsNeeds}
use Rattle.script_compiler.specs.Refused.{IsRefused}
use Rattle.script_compiler.specs.Meaning.{PlaysAsItReads}
use Rattle.script_compiler.specs.Refusals.{IfRefused}
use Rattle.script_compiler.specs.declared.fault.CompileFault.TheVariants.{Memory as NoMemoryForPlan}
use Rattle.script_tokens.specs.declared.fault.ScriptFault.TheVariants.{Memory as NoMemoryForScript}
use Rattle.cli_scripts.specs.declared.compile.Compiled.{Compiled}
use Rattle.cli_scripts.specs.declared.compile.Found.{Found}
use Rattle.cli_scripts.specs.declared.compile.ScriptRefusal.{ScriptRefusal}
use Rattle.cli_scripts.specs.declared.compile.ScriptRefusal.TheVariants.{Script, Plan, Memory}
use Rattle.cli_scripts.specs.declared.compile.ScriptRefusal.TheVariants.{Schedule as ScheduleFault}

-- the text denotes this script, which is accepted, and this is its code: it is typed, the cost of each label is the
-- need of the code from there, and it plays as the script reads
pub record IsMadeOf (text : List ℕ) (tree : Tree) (code : Program) : Type 0 where
  pub script : IsScript tree
  pub denotes : IsScriptOf text tree
  pub accepted : IsAccepted tree
  pub is : IsCodeOf tree code
  pub costs : CostsItsNeeds code
  pub typed : IsTyped code
  pub plays : PlaysAsItReads tree code

-- the text denotes this schedule, and this is a typed code that plays as the schedule prescribes, begun with its items
pub record IsScheduledBy (text : List ℕ) (tree : Schedule) (code : Program) : Type 0 where
  pub schedule : IsSchedule tree
  pub denotes : IsScheduleOf text tree
  pub typed : IsTyped code
  pub plays : PlaysAsScheduled tree (opening_of tree) code

-- the file is that of this code, with its numbers of instructions, labels and configurations
pub record IsFileOf (code : Program) (c : Compiled) : Type 0 where
  pub file : c.file.items ≡ code_bytes code
  pub instructions : c.instructions ≡ length code.lines
  pub labels : c.labels ≡ length code.labels
  pub configurations : c.configurations ≡ length code.configurations

-- the file is that of the code of the script that the text denotes
abbrev pub IsCompiledSteps : List ℕ → Compiled → Type 0
IsCompiledSteps text c = (tree : Tree) × (code : Program) × IsMadeOf text tree code × IsFileOf code c

-- the file is that of a code of the schedule that the text denotes
abbrev pub IsCompiledSchedule : List ℕ → Compiled → Type 0
IsCompiledSchedule text c = (tree : Schedule) × (code : Program) × IsScheduledBy text tree code × IsFileOf code c

abbrev pub IsCompiled : List ℕ → Compiled → Type 0
IsCompiled text c = IsCompiledSteps text c ⊎ IsCompiledSchedule text c

-- the text is no script, neither of steps nor a schedule; or it is a script of steps that is not accepted, and is
-- refused at the line and for the cause that the fault names, if it names one; or it is a schedule; barring allocation
-- failure
abbrev pub IsUncompiled : List ℕ → ScriptRefusal → Type 0
IsUncompiled text (Script fault) = IsNoSource text
IsUncompiled text (ScheduleFault fault) = (tree : Schedule) × IsSchedule tree × IsScheduleOf text tree
IsUncompiled text (Plan fault) =
    (tree : Tree) × IsScript tree × IsScriptOf text tree × (IsAccepted tree → ⊥) × IfRefused fault (IsRefused tree)
IsUncompiled text Memory = Unit {0}

-- out of memory is no reason to refuse a script
abbrev pub IsReason : ScriptRefusal → Type 0
IsReason (Script fault) = fault ≢ NoMemoryForScript
IsReason (Plan fault) = fault ≢ NoMemoryForPlan
IsReason (ScheduleFault fault) = fault ≢ NoMemoryForSchedule
IsReason Memory = ⊥

-- what is no reason is out of memory
abbrev pub IsReasonOrMemory : ScriptRefusal → Type 0
IsReasonOrMemory refusal = refusal ≢ Memory → IsReason refusal

-- the file is the text, in UTF-8, of an accepted script, of which this is the compilation
pub record IsCompiledFrom (bytes : List ℕ) (c : Compiled) : Type 0 where
  pub utf8 : IsUtf8 bytes
  pub compiled : IsCompiled bytes c

-- the file is no script, or one that is not accepted, for this reason
pub record IsRefusedFrom (bytes : List ℕ) (refusal : ScriptRefusal) : Type 0 where
  pub uncompiled : IsUncompiled bytes refusal
  pub reason : IsReason refusal

-- the compilation of a file; `None` if it is refused
abbrev pub FindsCompiled : List ℕ → Option Found → Type 0
FindsCompiled bytes (Some found) = IsCompiledFrom bytes found.compiled
FindsCompiled bytes None = (refusal : ScriptRefusal) × IsRefusedFrom bytes refusal
