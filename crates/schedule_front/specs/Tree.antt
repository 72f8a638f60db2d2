-- The tree of a schedule, its ranges and its limits.
use Rattle.std.specs.Prelude.{◌≡◌, ℕ, ◌+◌, ◌<◌, ◌≤◌, List, [], ◌∷◌, length, map, Vec}
use Rattle.std.specs.Global.{Global}
use Rattle.std.specs.List.{All, AllByRecursion}
use Rattle.plan_code.specs.Program.{IsPlan, IsEdit}
use Rattle.plan_code.specs.declared.plan.Plan.{Plan}
use Rattle.script_tokens.specs.Keywords.{IsName}
use Rattle.script_front.specs.declared.tree.Item.{Item}
use Rattle.script_front.specs.Tree.{AreNamedApart, IsItem}
use Rattle.schedule_front.specs.declared.tree.Test.{Test}
use Rattle.schedule_front.specs.declared.tree.Test.TheVariants.{Contact, Time}
use Rattle.schedule_front.specs.declared.tree.OverlayEdit.{OverlayEdit}
use Rattle.schedule_front.specs.declared.tree.Overlay.{Overlay as OverlayCode}

-- an overlay: its line, the alternatives of its condition, each of tests that hold together, and its edits
pub record Overlay : Type 0 where
  pub line : ℕ
  pub condition : List (List Test)
  pub edits : List OverlayEdit

abbrev pub alternatives_of : List (Vec Test Global) → List (List Test)
alternatives_of condition = map (λ tests. tests.items) condition

abbrev pub overlay_of : OverlayCode → Overlay
overlay_of o = record {
  line = o.line;
  condition = alternatives_of o.condition.items;
  edits = o.edits.items;
}

pub record Tree : Type 0 where
  pub header : Plan
  pub items : List Item
  -- the line of `schedule`
  pub line : ℕ
  -- the names of the overlays and the overlays, in the order of the text
  pub names : List (List ℕ)
  pub overlays : List Overlay
  -- the line of the last token
  pub last_line : ℕ

-- ---- ranges

abbrev pub IsTest : Test → Type 0
IsTest (Contact contact closed) = contact < 16
IsTest (Time from to) = (from < 86400) × (to < 86400)

-- tests that hold together: at least one
abbrev pub AreTests : List Test → Type 0
AreTests tests = (1 ≤ length tests) × AllByRecursion IsTest tests

-- the number of tests of a condition
abbrev pub test_count : List (List Test) → ℕ
test_count [] = 0
test_count (tests ∷ condition) = length tests + test_count condition

-- at least one alternative, and at most 32 tests in all
pub record IsCondition (condition : List (List Test)) : Type 0 where
  pub some : 1 ≤ length condition
  pub each : AllByRecursion AreTests condition
  pub few : test_count condition ≤ 32

abbrev pub AreEdits : List OverlayEdit → Type 0
AreEdits edits = AllByRecursion (λ e. IsEdit e.edit) edits

pub record IsOverlay (overlay : Overlay) : Type 0 where
  pub condition : IsCondition overlay.condition
  pub edits : AreEdits overlay.edits

-- the number of overlays and edits
abbrev pub counted : List Overlay → ℕ
counted [] = 0
counted (o ∷ os) = 1 + (length o.edits + counted os)

-- a schedule: every number in range, names well formed and different, and within all limits
pub record IsSchedule (t : Tree) : Type 0 where
  pub headed : IsPlan t.header
  pub adding : All IsItem t.items
  pub named : All IsName t.names
  pub different : AreNamedApart t.names
  pub each_named : length t.names ≡ length t.overlays
  pub few_overlays : length t.overlays ≤ 64
  pub each : AllByRecursion IsOverlay t.overlays
  pub few : length t.items + counted t.overlays ≤ 8192
