-- Reading the parts of a schedule from the front of the remaining tokens: what is read, and the tokens after it; None
-- where they do not begin with such a part. The relation that these functions meet is `SpellsTree` of
-- specs/Parsing.antt.
use Rattle.std.specs.Prelude.{ℕ, zero, suc, List, [], ◌∷◌, ◌++◌, drop, Some, None, Option, if◌then◌else◌}
use Rattle.script_tokens.specs.declared.keyword.Keyword.TheVariants as the
use Rattle.script_tokens.specs.declared.first_keyword.EditKeyword.{EditKeyword}
use Rattle.script_tokens.specs.declared.first_keyword.ActKeyword.TheVariants as act
use Rattle.script_tokens.specs.declared.first_keyword.StatementKeyword.{StatementKeyword}
use Rattle.script_tokens.specs.declared.first_keyword.StatementKeyword.TheVariants as statement
use Rattle.script_tokens.specs.Reading.{Spelled, Input, Reads, ◌>>=◌, keyed, both, built, either, after, is_next}
use Rattle.script_tokens.specs.Reading.{line_of, line_of_left, first_statement}
use Rattle.script_tokens.specs.Taking.{number_at, time_at, level_at}
use Rattle.mux_config.specs.declared.edit.Edit.{Edit}
use Rattle.script_front.specs.Readers.{edit_from, header_at, items_at}
use Rattle.script_front.specs.BlockReader.{new_name_at}
use Rattle.schedule_front.specs.declared.tree.Test.{Test}
use Rattle.schedule_front.specs.declared.tree.Test.TheVariants.{Contact, Time}
use Rattle.schedule_front.specs.declared.tree.OverlayEdit.{OverlayEdit}
use Rattle.schedule_front.specs.Tree.{Tree, Overlay}

-- ---- conditions

-- `contact C closed` or `open`, or `time A to B`
unfoldable pub test_at : Spelled → Reads Test
test_at ws =
    either the.Contact (built (λ p. Contact p.0 p.1) (both (number_at 0 15) level_at))
    (keyed the.Time (built (λ p. Time p.0 p.1) (both time_at (keyed the.To time_at)))) ws

-- tests that hold together, how many more the condition may have, and the tokens after them
pub record Tests : Type 0 where
  pub tests : List Test
  pub room : ℕ
  pub rest : Spelled

abbrev pub tests_read : List Test → (room : ℕ) → Spelled → Tests
tests_read tests room rest = record { tests = tests; room = room; rest = rest }

-- these tests, and at most `room` more, each after `and`
unfoldable pub and_from : (room : ℕ) → List Test → Spelled → Option Tests
and_from zero tests ws = if is_next the.And ws then None else Some (tests_read tests 0 ws)
and_from (suc room) tests ws =
    if is_next the.And ws then (test_at (drop 1 ws) >>= λ t. and_from room (tests ++ t.0 ∷ []) t.1)
    else Some (tests_read tests (suc room) ws)

-- at most `room` tests, with `and` between each two
unfoldable pub tests_at : (room : ℕ) → Spelled → Option Tests
tests_at zero ws = None
tests_at (suc room) ws = test_at ws >>= λ t. and_from room (t.0 ∷ []) t.1

-- these alternatives, and more with at most `room` tests in all, each after `or`; any `fuel` from `room` on is enough
unfoldable pub or_from : (fuel room : ℕ) → List (List Test) → Spelled → Reads (List (List Test))
or_from zero room condition ws = if is_next the.Or ws then None else Some (condition, ws)
or_from (suc fuel) room condition ws =
    if is_next the.Or ws
    then (tests_at room (drop 1 ws) >>= λ a. or_from fuel a.room (condition ++ a.tests ∷ []) a.rest)
    else Some (condition, ws)

-- at most 32 tests
unfoldable pub condition_at : Spelled → Reads (List (List Test))
condition_at ws = tests_at 32 ws >>= λ a. or_from a.room a.room (a.tests ∷ []) a.rest

-- ---- edits, with the lines of all tokens of the text

-- this keyword as one that begins an edit, if it is one
abbrev pub edit_of : StatementKeyword → Option EditKeyword
edit_of (statement.Act (act.Edit k)) = Some k
edit_of _ = None

-- the next token, if it begins an edit
unfoldable pub first_edit : Spelled → Option EditKeyword
first_edit ws = first_statement ws >>= edit_of

-- edits, how many more overlays and edits may follow, and the tokens after them
pub record Edits : Type 0 where
  pub edits : List OverlayEdit
  pub left : ℕ
  pub rest : Spelled

abbrev pub edit_on : List ℕ → Spelled → Edit → OverlayEdit
edit_on lines ws e = record { line = line_of lines ws; edit = e }

-- these edits, and more that are read after them
abbrev pub after_edits : List OverlayEdit → Option Edits → Option Edits
after_edits es None = None
after_edits es (Some more) = Some (record { edits = es ++ more.edits; left = more.left; rest = more.rest })

-- none where no edit begins
abbrev pub edits_if : (left : ℕ) → Spelled → (EditKeyword → Option Edits) → Option EditKeyword → Option Edits
edits_if left ws read None = Some (record { edits = []; left = left; rest = ws })
edits_if left ws read (Some k) = read k

-- an edit, after its first keyword, and those after it
abbrev pub edits_from : (later : Spelled → Option Edits) → List ℕ → Spelled → EditKeyword → Option Edits
edits_from later lines ws k = edit_from k (drop 1 ws) >>= λ e. after_edits (edit_on lines ws e.0 ∷ []) (later e.1)

-- at most `left` edits
unfoldable pub edits_at : (left : ℕ) → List ℕ → Spelled → Option Edits
edits_at zero lines ws = edits_if 0 ws (λ k. None) (first_edit ws)
edits_at (suc left) lines ws = edits_if (suc left) ws (edits_from (edits_at left lines) lines ws) (first_edit ws)

-- ---- overlays

-- an overlay with its name, how many more overlays and edits may follow, and the tokens after it
pub record OverlayRead : Type 0 where
  pub name : List ℕ
  pub overlay : Overlay
  pub left : ℕ
  pub rest : Spelled

-- after `overlay` in this line; none of the names before is its name
unfoldable pub overlay_from : List (List ℕ) → List ℕ → (line left : ℕ) → Spelled → Option OverlayRead
overlay_from known lines line left ws = do
  name ← new_name_at known ws
  condition ← keyed the.While condition_at name.1
  inside ← after the.OpenBrace condition.1
  edits ← edits_at left lines inside
  close ← after the.CloseBrace edits.rest
  let overlay : Overlay = record { line = line; condition = condition.0; edits = edits.edits } in
      Some (record { name = name.0; overlay = overlay; left = edits.left; rest = close })

unfoldable pub overlay_at : List (List ℕ) → List ℕ → (left : ℕ) → Spelled → Option OverlayRead
overlay_at known lines zero ws = None
overlay_at known lines (suc left) ws =
    after the.Overlay ws >>= λ rest. overlay_from known lines (line_of lines ws) left rest

pub record Overlays : Type 0 where
  pub names : List (List ℕ)
  pub overlays : List Overlay

-- these overlays, and more that are read after them
abbrev pub after_overlays : List (List ℕ) → List Overlay → Option Overlays → Option Overlays
after_overlays names overlays None = None
after_overlays names overlays (Some more) =
    Some (record { names = names ++ more.names; overlays = overlays ++ more.overlays })

-- none where the text has ended
abbrev pub unless_ended : Spelled → Option Overlays → Option Overlays
unless_ended [] read = Some (record { names = []; overlays = [] })
unless_ended (w ∷ ws) read = read

-- at most `room` overlays, up to the end of the text
unfoldable pub overlays_at : (room : ℕ) → List (List ℕ) → List ℕ → (left : ℕ) → Spelled → Option Overlays
overlays_at zero known lines left ws = unless_ended ws None
overlays_at (suc room) known lines left ws =
    unless_ended ws (overlay_at known lines left ws >>= λ o. after_overlays (o.name ∷ []) (o.overlay ∷ [])
    (overlays_at room (known ++ o.name ∷ []) lines o.left o.rest))

-- ---- a schedule

unfoldable pub schedule_at : Input → Option Tree
schedule_at i = do
  header ← header_at i.lexemes
  items ← items_at 8192 i.lines header.1
  rest ← after the.Schedule items.rest
  overlays ← overlays_at 64 [] i.lines items.left rest
  let t : Tree = record {
    header = header.0;
    items = items.items;
    line = line_of i.lines items.rest;
    names = overlays.names;
    overlays = overlays.overlays;
    last_line = line_of_left i.lines 1;
  } in
      Some t
