-- Contracts of the parser's private functions, and what its readings have to do with trees.
use Rattle.std.specs.Prelude.{◌≡◌, ℕ, suc, ◌-◌, ◌<◌, ◌≤◌, List, [], ◌∷◌, ◌++◌, Some}
use Rattle.script_tokens.specs.Reading.{Input}
use Rattle.schedule_front.specs.declared.tree.Test.{Test}
use Rattle.schedule_front.specs.declared.tree.OverlayEdit.{OverlayEdit}
use Rattle.schedule_front.specs.Tree.{Tree, Overlay, IsSchedule}
use Rattle.schedule_front.specs.Spelled.{tree_lexemes, HasLines}
use Rattle.schedule_front.specs.Readers.{test_at, tests_at, tests_read, condition_at, edits_at, after_edits}
use Rattle.schedule_front.specs.Readers.{overlay_from}
use Rattle.schedule_front.specs.Readers.{overlay_at, overlays_at, schedule_at}

-- the remaining tokens are those of this tree, on its lines
pub record SpellsTree (t : Tree) (input : Input) : Type 0 where
  pub spells : input.lexemes ≡ tree_lexemes t
  pub lined : HasLines input.lines t

-- what is read from some tokens is the schedule that they spell
pub record SchedulesAreRead : Type 0 where
  pub given : (i : Input) (t : Tree) → schedule_at i ≡ Some t → IsSchedule t × SpellsTree t i
  pub found : (i : Input) (t : Tree) → IsSchedule t → SpellsTree t i → schedule_at i ≡ Some t

-- ---- what calls return; `old` and `new` are how many more may follow

pub record ReadsTests (tests : List Test) (old new : ℕ) (before after : Input) : Type 0 where
  pub read : tests_at old before.lexemes ≡ Some (tests_read tests new after.lexemes)
  pub same : after.lines ≡ before.lines

-- one more test
pub record HasMoreTests (old new : List Test) (room left : ℕ) (before after : Input) : Type 0 where
  pub test : Test
  pub more : new ≡ old ++ test ∷ []
  pub some : 1 ≤ room
  pub fewer : left ≡ room - 1
  pub read : test_at before.lexemes ≡ Some (test, after.lexemes)
  pub same : after.lines ≡ before.lines

-- one more alternative
pub record HasMoreAlternatives (old new : List (List Test)) (room left : ℕ) (before after : Input) : Type 0 where
  pub tests : List Test
  pub more : new ≡ old ++ tests ∷ []
  pub fewer : left < room
  pub read : tests_at room before.lexemes ≡ Some (tests_read tests left after.lexemes)
  pub same : after.lines ≡ before.lines

pub record ReadsCondition (condition : List (List Test)) (before after : Input) : Type 0 where
  pub read : condition_at before.lexemes ≡ Some (condition, after.lexemes)
  pub same : after.lines ≡ before.lines

pub record ReadsEdits (edits : List OverlayEdit) (old new : ℕ) (before after : Input) : Type 0 where
  pub read : edits_at old before.lines before.lexemes ≡ Some
      (record { edits = edits; left = new; rest = after.lexemes })
  pub same : after.lines ≡ before.lines

-- one more edit
pub record HasMore (old new : List OverlayEdit) (before after : Input) : Type 0 where
  pub edit : OverlayEdit
  pub more : new ≡ old ++ edit ∷ []
  pub read : (left : ℕ) → edits_at (suc left) before.lines before.lexemes
      ≡ after_edits (edit ∷ []) (edits_at left before.lines after.lexemes)
  pub same : after.lines ≡ before.lines

-- an overlay with one more name, after `overlay`
pub record ReadsOverlay (old new : List (List ℕ)) (line left left_new : ℕ) (before after : Input) (o : Overlay) : Type
    0 where
  pub name : List ℕ
  pub more : new ≡ old ++ name ∷ []
  pub read : overlay_from old before.lines line left before.lexemes ≡ Some
      (record { name = name; overlay = o; left = left_new; rest = after.lexemes })
  pub same : after.lines ≡ before.lines

-- one more overlay
pub record HasOneMore (names names_new : List (List ℕ)) (left left_new : ℕ) (old new : List Overlay)
    (before after : Input) : Type 0 where
  pub name : List ℕ
  pub overlay : Overlay
  pub more_names : names_new ≡ names ++ name ∷ []
  pub more : new ≡ old ++ overlay ∷ []
  pub read : overlay_at names before.lines left before.lexemes ≡ Some
      (record { name = name; overlay = overlay; left = left_new; rest = after.lexemes })
  pub same : after.lines ≡ before.lines

-- overlays up to the end of the text
pub record ReadsOverlays (names : List (List ℕ)) (overlays : List Overlay) (left : ℕ) (before : Input) : Type 0 where
  pub read : overlays_at 64 [] before.lines left before.lexemes
      ≡ Some (record { names = names; overlays = overlays })
