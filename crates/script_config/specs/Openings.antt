-- The opening of the script or the schedule in a text, or why it has none.
use Rattle.std.specs.Prelude.{◌≡◌, ◌≢◌, ◌⊎◌, ℕ, List, Ok, Err}
use Rattle.mux_types.specs.Configuration.{Configuration, nothing}
use Rattle.mux_config.specs.Sound.{IsSound, sound_or_fault}
use Rattle.script_front.specs.Denoting.{IsScriptOf}
use Rattle.script_front.specs.Tree.{Tree, IsScript}
use Rattle.script_front.specs.declared.tree.Item.{Item as AddItem}
use Rattle.schedule_front.specs.Denoting.{IsScheduleOf}
use Rattle.schedule_front.specs.Sources.{IsNoSource}
use Rattle.schedule_front.specs.Tree.{Tree as Schedule, IsSchedule}
use Rattle.script_tokens.specs.declared.fault.ScriptFault.TheVariants.{Memory as NoMemory}
use Rattle.plan_code.specs.Program.{IsPlan}
use Rattle.plan_code.specs.declared.plan.Plan.{Plan}
use Rattle.script_config.specs.Items.{made_by}
use Rattle.script_config.specs.declared.opening.Opening.{Opening}
use Rattle.script_config.specs.declared.opening.OpeningFault.{OpeningFault}
use Rattle.script_config.specs.declared.opening.OpeningFault.TheVariants.{Script as NoScript, Item, Unsound, Memory}

-- its header is in range, and its configuration is sound
pub record IsSoundOpening (o : Opening) : Type 0 where
  pub headed : IsPlan o.header
  pub sound : IsSound o.config

-- ---- what a text begins with

-- the text is a script with this header and these items, and `begin` is on this line
pub record BeginsScript (text : List ℕ) (header : Plan) (items : List AddItem) (line : ℕ) : Type 0 where
  pub tree : Tree
  pub script : IsScript tree
  pub denotes : IsScriptOf text tree
  pub headed : header ≡ tree.header
  pub adding : items ≡ tree.items
  pub lined : line ≡ tree.begin_line

-- the text is a schedule with this header and these items, and `schedule` is on this line
pub record BeginsSchedule (text : List ℕ) (header : Plan) (items : List AddItem) (line : ℕ) : Type 0 where
  pub tree : Schedule
  pub schedule : IsSchedule tree
  pub denotes : IsScheduleOf text tree
  pub headed : header ≡ tree.header
  pub adding : items ≡ tree.items
  pub lined : line ≡ tree.line

-- it is one of the two
abbrev pub BeginsWith : List ℕ → Plan → List AddItem → ℕ → Type 0
BeginsWith text header items line = BeginsScript text header items line ⊎ BeginsSchedule text header items line

-- ---- what its items make

-- the items make this configuration, which is sound
pub record HasConfig (items : List AddItem) (config : Configuration) : Type 0 where
  pub made : made_by items nothing ≡ Ok config
  pub sound : IsSound config

-- the items have this fault: an item has one, or else the configuration is not sound, which is a fault of the line
-- behind them
abbrev pub FailsToOpen : List AddItem → ℕ → OpeningFault → Type 0
FailsToOpen items line (NoScript fault) = ⊥
FailsToOpen items line (Item fault) = made_by items nothing ≡ Err fault
FailsToOpen items line (Unsound at fault) =
    (at ≡ line) × ((c : Configuration) × (made_by items nothing ≡ Ok c) × (sound_or_fault c ≡ Err fault))
FailsToOpen items line Memory = ⊥

-- ---- both

-- it is the opening of the script or the schedule in this text
pub record Opens (text : List ℕ) (o : Opening) : Type 0 where
  pub items : List AddItem
  pub begins : BeginsWith text o.header items o.begin_line
  pub config : HasConfig items o.config

-- the text is a script or a schedule whose items have this fault
abbrev pub OpensNone : List ℕ → OpeningFault → Type 0
OpensNone text fault =
    (header : Plan) × (items : List AddItem) × (line : ℕ) × BeginsWith text header items line
    × FailsToOpen items line fault

-- the text has this fault, and none tested before it: it is neither a script nor a schedule, an item has a fault, the
-- configuration is not sound
abbrev pub HasNoOpening : List ℕ → OpeningFault → Type 0
HasNoOpening text (NoScript fault) = IsNoSource text
HasNoOpening text (Item fault) = OpensNone text (Item fault)
HasNoOpening text (Unsound line fault) = OpensNone text (Unsound line fault)
HasNoOpening text Memory = Unit {0}

-- out of memory is no reason that a text has no opening
abbrev pub IsOpeningReason : OpeningFault → Type 0
IsOpeningReason (NoScript fault) = fault ≢ NoMemory
IsOpeningReason (Item fault) = Unit {0}
IsOpeningReason (Unsound line fault) = Unit {0}
IsOpeningReason Memory = ⊥
