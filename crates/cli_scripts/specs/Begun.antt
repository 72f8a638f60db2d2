-- What `compile --from` gives: the code of the script or the schedule of a text, begun with what is on air.
use Rattle.std.specs.Prelude.{◌≡◌, ◌≢◌, ◌⊎◌, ℕ, List, Option, Some, None, Ok, IsUtf8}
use Rattle.console.specs.declared.exit.Status.{Status}
use Rattle.console.specs.declared.exit.Status.TheVariants.{Done, Refused, Misused, Faulty}
use Rattle.mux_types.specs.Configuration.{Configuration, nothing}
use Rattle.plan_code.specs.Program.{Program}
use Rattle.plan_takeover.specs.Takeover.{IsTakeover}
use Rattle.plan_verifier.specs.Typing.{IsTyped}
use Rattle.schedule_front.specs.Denoting.{IsScheduleOf}
use Rattle.schedule_front.specs.Tree.{IsSchedule}
use Rattle.schedule_front.specs.Tree.{Tree as Schedule}
use Rattle.schedule_verifier.specs.Playing.{PlaysAsScheduled}
use Rattle.script_config.specs.Items.{made_by}
use Rattle.script_config.specs.declared.opening.Opening.{Opening}
use Rattle.script_front.specs.Tree.{Tree}
use Rattle.cli_scripts.specs.Compiled.{IsFileOf, IsMadeOf}
use Rattle.cli_scripts.specs.Success.{HasScriptOpening}
use Rattle.cli_scripts.specs.declared.compile.Compiled.{Compiled}

-- the code of a script is its own one where its items are what is on air; else it takes over from there, and leads to
-- the items first
abbrev pub Leads : Tree → (own : Program) → (on_air items : Configuration) → (code : Program) → Type 0
Leads tree own on_air items code =
    (items ≡ on_air × code ≡ own) ⊎ (items ≢ on_air × IsTakeover tree.begin_line own on_air items code)

-- the text denotes this script of steps, which is accepted, and this is its code, begun with what is on air
pub record IsStepsBegun (text : List ℕ) (on_air : Configuration) (code : Program) : Type 0 where
  pub tree : Tree
  pub own : Program
  pub made : IsMadeOf text tree own
  pub items : Configuration
  pub opens : made_by tree.items nothing ≡ Ok items
  pub leads : Leads tree own on_air items code
  pub typed : IsTyped code

-- the text denotes this schedule, and the code plays as it prescribes, begun with what is on air
pub record IsScheduleBegun (text : List ℕ) (on_air : Configuration) (code : Program) : Type 0 where
  pub tree : Schedule
  pub schedule : IsSchedule tree
  pub denotes : IsScheduleOf text tree
  pub plays : PlaysAsScheduled tree on_air code
  pub typed : IsTyped code

-- the file is that of such a code
pub record IsBegun (text : List ℕ) (on_air : Configuration) (c : Compiled) : Type 0 where
  pub code : Program
  pub begun : IsStepsBegun text on_air code ⊎ IsScheduleBegun text on_air code
  pub file : IsFileOf code c

-- the file is the text, in UTF-8, of a script or a schedule that was begun so
pub record IsBegunFrom (script : List ℕ) (on_air : Configuration) (c : Compiled) : Type 0 where
  pub utf8 : IsUtf8 script
  pub begun : IsBegun script on_air c

abbrev pub FindsBegun : (script : List ℕ) → Configuration → Option Compiled → Type 0
FindsBegun script on_air (Some c) = IsBegunFrom script on_air c
FindsBegun script on_air None = Unit {0}

-- what is on air is what the items of NOW make
pub record BeginsFrom (script now : List ℕ) (c : Compiled) : Type 0 where
  pub on_air : Opening
  pub opens : HasScriptOpening now on_air
  pub begun : IsBegunFrom script on_air.config c

abbrev pub FindsFrom : (script now : List ℕ) → Option Compiled → Type 0
FindsFrom script now (Some c) = BeginsFrom script now c
FindsFrom script now None = Unit {0}

-- done: the file is the text of a script or a schedule, NOW has an opening, and OUT holds the code begun with it
abbrev pub Begins : (script now : List ℕ) → (Holds : List ℕ → Type 0) → Status → Type 0
Begins script now Holds Done = (c : Compiled) × BeginsFrom script now c × Holds c.file.items
Begins script now Holds Refused = Unit {0}
Begins script now Holds Misused = ⊥
Begins script now Holds Faulty = ⊥
