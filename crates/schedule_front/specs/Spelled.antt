-- The tokens that spell a schedule's tree, as bytes, in order, and the lines on which they are.
use Rattle.std.specs.Prelude.{◌≡◌, ℕ, List, [], ◌∷◌, ◌++◌}
use Rattle.std.specs.Fmt.{decimal}
use Rattle.script_tokens.specs.declared.keyword.Keyword.TheVariants as the
use Rattle.script_tokens.specs.Keywords.{letters}
use Rattle.script_tokens.specs.Spelling.{level_text, time_text}
use Rattle.script_tokens.specs.Reading.{Spelled, line_of, line_of_left}
use Rattle.script_front.specs.Spelled.{edit_lexemes, header_lexemes, items_lexemes, braced, ItemsOn}
use Rattle.schedule_front.specs.declared.tree.Test.{Test}
use Rattle.schedule_front.specs.declared.tree.Test.TheVariants.{Contact, Time}
use Rattle.schedule_front.specs.declared.tree.OverlayEdit.{OverlayEdit}
use Rattle.schedule_front.specs.Tree.{Tree, Overlay}

-- ---- conditions

abbrev pub test_lexemes : Test → Spelled
test_lexemes (Contact contact closed) = letters the.Contact ∷ decimal contact ∷ level_text closed ∷ []
test_lexemes (Time from to) = letters the.Time ∷ time_text from ∷ letters the.To ∷ time_text to ∷ []

-- tests, each after `and`
abbrev pub and_lexemes : List Test → Spelled
and_lexemes [] = []
and_lexemes (test ∷ tests) = letters the.And ∷ (test_lexemes test ++ and_lexemes tests)

-- tests with `and` between each two
abbrev pub tests_lexemes : List Test → Spelled
tests_lexemes [] = []
tests_lexemes (test ∷ tests) = test_lexemes test ++ and_lexemes tests

-- alternatives, each after `or`
abbrev pub or_lexemes : List (List Test) → Spelled
or_lexemes [] = []
or_lexemes (tests ∷ others) = letters the.Or ∷ (tests_lexemes tests ++ or_lexemes others)

-- alternatives with `or` between each two
abbrev pub condition_lexemes : List (List Test) → Spelled
condition_lexemes [] = []
condition_lexemes (tests ∷ others) = tests_lexemes tests ++ or_lexemes others

-- ---- overlays

abbrev pub edits_lexemes : List OverlayEdit → Spelled
edits_lexemes [] = []
edits_lexemes (e ∷ es) = edit_lexemes e.edit ++ edits_lexemes es

-- overlays with these names
abbrev pub overlays_lexemes : List (List ℕ) → List Overlay → Spelled
overlays_lexemes [] overlays = []
overlays_lexemes (name ∷ names) [] = []
overlays_lexemes (name ∷ names) (o ∷ os) =
    letters the.Overlay ∷ name ∷ letters the.While
    ∷ (condition_lexemes o.condition ++ braced (edits_lexemes o.edits) (overlays_lexemes names os))

-- ---- a schedule

-- from `schedule` on
abbrev pub schedule_lexemes : Tree → Spelled
schedule_lexemes t = letters the.Schedule ∷ overlays_lexemes t.names t.overlays

-- the tokens of a schedule
abbrev pub tree_lexemes : Tree → Spelled
tree_lexemes t = header_lexemes t.header ++ (items_lexemes t.items ++ schedule_lexemes t)

-- ---- the lines of a schedule, given the lines of all of its tokens

-- each edit is on the line of its first token, where `after` follows the edits
abbrev pub EditsOn : List ℕ → List OverlayEdit → Spelled → Type 0
EditsOn lines [] after = Unit {0}
EditsOn lines (e ∷ es) after = (e.line ≡ line_of lines (edits_lexemes (e ∷ es) ++ after)) × EditsOn lines es after

-- each overlay, up to the end of the text, is on the line of its first token, and so are its edits
abbrev pub OverlaysOn : List ℕ → List (List ℕ) → List Overlay → Type 0
OverlaysOn lines [] overlays = Unit {0}
OverlaysOn lines (name ∷ names) [] = Unit {0}
OverlaysOn lines (name ∷ names) (o ∷ os) =
    (o.line ≡ line_of lines (overlays_lexemes (name ∷ names) (o ∷ os)))
    × EditsOn lines o.edits (letters the.CloseBrace ∷ overlays_lexemes names os) × OverlaysOn lines names os

pub record HasLines (lines : List ℕ) (t : Tree) : Type 0 where
  pub items : ItemsOn lines t.items (schedule_lexemes t)
  pub schedule : t.line ≡ line_of lines (schedule_lexemes t)
  pub overlays : OverlaysOn lines t.names t.overlays
  pub last : t.last_line ≡ line_of_left lines 1
