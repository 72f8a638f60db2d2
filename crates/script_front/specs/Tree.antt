-- The tree of a script, its ranges and its limits.
use Rattle.std.specs.Prelude.{◌≡◌, ◌≢◌, ℕ, ◌+◌, ◌-◌, ◌<◌, ◌≤◌, List, [], ◌∷◌, length}
use Rattle.std.specs.List.{All, AllPairs}
use Rattle.mux_config.specs.declared.edit.Edit.{Edit}
use Rattle.mux_config.specs.declared.edit.Edit.TheVariants.{AddSub, AddService, AddComponent, AddPacket}
use Rattle.plan_code.specs.Program.{IsPlan, IsEdit}
use Rattle.script_front.specs.declared.tree.Act.{Act}
use Rattle.script_front.specs.declared.tree.Act.TheVariants.{Edit as Edits, Wait, WaitContact, Until, WaitAny, CommitIn}
use Rattle.script_front.specs.declared.tree.Act.TheVariants.{CommitAt, Join, Settle}
use Rattle.script_front.specs.declared.tree.Condition.{Condition}
use Rattle.script_front.specs.declared.tree.Condition.TheVariants.{Contact, Time}
use Rattle.plan_code.specs.declared.plan.Plan.{Plan}
use Rattle.script_front.specs.declared.tree.Item.{Item}
use Rattle.script_front.specs.declared.tree.Statement.{Statement}
use Rattle.script_front.specs.Block.{Block, nothing, basic, stop, when, either, repeat, forever, apply, block_of}
use Rattle.script_front.specs.Waits.{IsMoment, AreAlternatives}
use Rattle.script_tokens.specs.Keywords.{IsName}

pub record Tree : Type 0 where
  pub header : Plan
  pub items : List Item
  -- the names of the defined blocks and the blocks, in the order of their definitions
  pub names : List (List ℕ)
  pub blocks : List (List Statement)
  -- the line of `begin`
  pub begin_line : ℕ
  pub statements : List Statement
  -- the line of the last token
  pub last_line : ℕ

-- ---- ranges

abbrev pub IsAct : Act → Type 0
IsAct (Edits edit) = IsEdit edit
IsAct (Wait frames) = (1 ≤ frames) × (frames < 65536)
IsAct (WaitContact contact closed) = contact < 16
IsAct (Until moment) = IsMoment moment
IsAct (WaitAny alternatives) = AreAlternatives alternatives
IsAct (CommitIn delay) = (1 ≤ delay) × (delay ≤ 60000)
IsAct (CommitAt count) = count < 65536
IsAct Join = Unit {0}
IsAct Settle = Unit {0}

abbrev pub IsCondition : Condition → Type 0
IsCondition (Contact contact) = contact < 16
IsCondition (Time from to) = (from < 86400) × (to < 86400)

-- an edit that adds
abbrev pub Adds : Edit → Type 0
Adds (AddSub s) = Unit {0}
Adds (AddService sid) = Unit {0}
Adds (AddComponent sid component) = Unit {0}
Adds (AddPacket p) = Unit {0}
Adds _ = ⊥

abbrev pub IsItem : Item → Type 0
IsItem item = IsEdit item.edit × Adds item.edit

-- ---- names

abbrev pub AreNamedApart : List (List ℕ) → Type 0
AreNamedApart names = AllPairs (λ one other. one ≢ other) names

-- ---- blocks

-- every number is in range, `apply` names one of the first `known` blocks, and braces are at most this deep
abbrev pub IsInBounds : (known depth : ℕ) → Block → Type 0
IsInBounds known depth nothing = Unit {0}
IsInBounds known depth (basic line act rest) = IsAct act × IsInBounds known depth rest
IsInBounds known depth (stop line rest) = IsInBounds known depth rest
IsInBounds known depth (when line condition first rest) =
    (1 ≤ depth) × IsCondition condition × IsInBounds known (depth - 1) first × IsInBounds known depth rest
IsInBounds known depth (either line condition first second rest) =
    (1 ≤ depth) × IsCondition condition × IsInBounds known (depth - 1) first × IsInBounds known (depth - 1) second
    × IsInBounds known depth rest
IsInBounds known depth (repeat line times body rest) =
    (1 ≤ depth) × (1 ≤ times) × (times < 65536) × IsInBounds known (depth - 1) body × IsInBounds known depth rest
IsInBounds known depth (forever line body rest) = (1 ≤ depth) × IsInBounds known (depth - 1) body
    × IsInBounds known depth rest
IsInBounds known depth (apply line number named rest) = (number < known) × IsInBounds known depth rest

-- each defined block applies only those before it; its own braces are the first level
abbrev pub AllFit : ℕ → List (List Statement) → Type 0
AllFit known [] = Unit {0}
AllFit known (b ∷ bs) = IsInBounds known 15 (block_of [] b) × AllFit (known + 1) bs

-- the number of statements of a block, nested ones included
abbrev pub counted : Block → ℕ
counted nothing = 0
counted (basic line act rest) = 1 + counted rest
counted (stop line rest) = 1 + counted rest
counted (when line condition first rest) = 1 + (counted first + counted rest)
counted (either line condition first second rest) = 1 + (counted first + (counted second + counted rest))
counted (repeat line times body rest) = 1 + (counted body + counted rest)
counted (forever line body rest) = 1 + (counted body + counted rest)
counted (apply line number named rest) = 1 + counted rest

abbrev pub counted_in : List (List Statement) → ℕ
counted_in [] = 0
counted_in (b ∷ bs) = counted (block_of [] b) + counted_in bs

-- a script: every number in range, names well formed and different, and within all limits
pub record IsScript (t : Tree) : Type 0 where
  pub headed : IsPlan t.header
  pub adding : All IsItem t.items
  pub named : All IsName t.names
  pub different : AreNamedApart t.names
  pub defined : length t.names ≡ length t.blocks
  pub few_blocks : length t.blocks ≤ 64
  pub blocks_fit : AllFit 0 t.blocks
  pub fits : IsInBounds (length t.blocks) 16 (block_of [] t.statements)
  pub few : length t.items + (counted_in t.blocks + counted (block_of [] t.statements)) ≤ 8192
