-- The layout of a printed schedule: lines of tokens, indented, with one space between two tokens.
use Rattle.std.specs.Prelude.{ℕ, List, [], ◌∷◌, ◌++◌}
use Rattle.script_tokens.specs.declared.keyword.Keyword.TheVariants as the
use Rattle.script_tokens.specs.Keywords.{letters}
use Rattle.script_tokens.specs.Reading.{Spelled}
use Rattle.script_front.specs.Printing.{Line, line, closing, header_lines, items_lines}
use Rattle.script_front.specs.Spelled.{edit_lexemes}
use Rattle.schedule_front.specs.declared.tree.OverlayEdit.{OverlayEdit}
use Rattle.schedule_front.specs.Tree.{Tree, Overlay}
use Rattle.schedule_front.specs.Spelled.{condition_lexemes}

-- the first line of an overlay
abbrev pub first_lexemes : List ℕ → Overlay → Spelled
first_lexemes name o =
    letters the.Overlay ∷ name ∷ letters the.While ∷ (condition_lexemes o.condition ++ letters the.OpenBrace ∷ [])

abbrev pub edits_lines : List OverlayEdit → List Line
edits_lines [] = []
edits_lines (e ∷ es) = line 1 (edit_lexemes e.edit) ∷ edits_lines es

abbrev pub overlay_lines : List ℕ → Overlay → List Line
overlay_lines name o = line 0 (first_lexemes name o) ∷ (edits_lines o.edits ++ closing 0 ∷ [])

-- overlays with these names
abbrev pub overlays_lines : List (List ℕ) → List Overlay → List Line
overlays_lines [] overlays = []
overlays_lines (name ∷ names) [] = []
overlays_lines (name ∷ names) (o ∷ os) = overlay_lines name o ++ overlays_lines names os

abbrev pub tree_lines : Tree → List Line
tree_lines t =
    header_lines t.header ++ (items_lines t.items
    ++ line 0 (letters the.Schedule ∷ []) ∷ overlays_lines t.names t.overlays)
