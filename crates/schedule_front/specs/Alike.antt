-- Schedules that are alike, which may differ in lines. Schedules that are not alike have different tokens; schedules
-- that are not the same have different texts.
use Rattle.std.specs.Prelude.{◌≡◌, ℕ, List, map}
use Rattle.mux_config.specs.declared.edit.Edit.{Edit}
use Rattle.script_front.specs.Alike.{added_by}
use Rattle.schedule_front.specs.declared.tree.Test.{Test}
use Rattle.schedule_front.specs.Tree.{Tree, Overlay, IsSchedule}
use Rattle.schedule_front.specs.Spelled.{tree_lexemes}
use Rattle.schedule_front.specs.Denoting.{Denotes, IsScheduleOf}

-- an overlay without its lines
pub record Said : Type 0 where
  pub condition : List (List Test)
  pub edits : List Edit

abbrev pub said_by : Overlay → Said
said_by o = record { condition = o.condition; edits = map (λ e. e.edit) o.edits }

-- the two differ at most in lines
pub record AreAlike (s t : Tree) : Type 0 where
  pub header : s.header ≡ t.header
  pub items : added_by s.items ≡ added_by t.items
  pub names : s.names ≡ t.names
  pub overlays : map said_by s.overlays ≡ map said_by t.overlays

-- two schedules with the same tokens are alike
abbrev pub SchedulesHaveTheirOwnTokens : Type 0
SchedulesHaveTheirOwnTokens = (s t : Tree) → IsSchedule s → IsSchedule t → tree_lexemes s ≡ tree_lexemes t
    → AreAlike s t

-- a text is that of at most one schedule
abbrev pub TextsAreOfOneSchedule : Type 0
TextsAreOfOneSchedule = (text : List ℕ) (s t : Tree) → IsSchedule s → IsSchedule t → IsScheduleOf text s
    → IsScheduleOf text t → s ≡ t

-- what is read from a text with the tokens of a schedule is alike: a printed schedule is read as it was
abbrev pub PrintedSchedulesAreRead : Type 0
PrintedSchedulesAreRead = (text : List ℕ) (s t : Tree) → IsSchedule s → IsSchedule t → Denotes text s
    → IsScheduleOf text t → AreAlike s t
