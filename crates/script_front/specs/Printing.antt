-- The layout of a printed script: lines of tokens, indented, with one space between two tokens.
use Rattle.std.specs.Prelude.{◌≡◌, ℕ, zero, suc, ◌+◌, List, [], ◌∷◌, ◌++◌}
use Rattle.std.specs.Fmt.{decimal}
use Rattle.fib_codec.specs.Layouts.{layout_mode}
use Rattle.plan_code.specs.declared.plan.Plan.{Plan}
use Rattle.script_front.specs.declared.tree.Condition.{Condition}
use Rattle.script_front.specs.declared.tree.Item.{Item}
use Rattle.script_front.specs.declared.tree.Statement.{Statement}
use Rattle.script_tokens.specs.declared.keyword.Keyword.TheVariants as the
use Rattle.script_tokens.specs.Keywords.{letters}
use Rattle.script_tokens.specs.Spelling.{hex_text}
use Rattle.script_front.specs.Block.{Block, Before, nothing, basic, stop, when, either, repeat, forever, apply}
use Rattle.script_front.specs.Block.{block_of}
use Rattle.script_front.specs.Tree.{Tree}
use Rattle.script_front.specs.Spelled.{edit_lexemes, act_lexemes, condition_lexemes, name_at, mode_lexemes}
use Rattle.script_front.specs.Spelled.{reserve_lexemes, limits_lexemes}
use Rattle.script_tokens.specs.Reading.{Spelled}

-- the tokens of a line, and the number of braces around it
pub record Line : Type 0 where
  pub depth : ℕ
  pub lexemes : Spelled

abbrev pub line : ℕ → Spelled → Line
line depth lexemes = record { depth = depth; lexemes = lexemes }

-- two spaces for each level
abbrev pub indent : ℕ → List ℕ
indent zero = []
indent (suc d) = 32 ∷ 32 ∷ indent d

abbrev pub each_after : Spelled → List ℕ
each_after [] = []
each_after (w ∷ ws) = 32 ∷ (w ++ each_after ws)

-- tokens with a space between each two
abbrev pub spaced : Spelled → List ℕ
spaced [] = []
spaced (w ∷ ws) = w ++ each_after ws

abbrev pub line_text : Line → List ℕ
line_text l = indent l.depth ++ (spaced l.lexemes ++ 10 ∷ [])

unfoldable pub text_of_lines : List Line → List ℕ
text_of_lines [] = []
text_of_lines (l ∷ ls) = line_text l ++ text_of_lines ls

abbrev pub closing : ℕ → Line
closing d = line d (letters the.CloseBrace ∷ [])

-- the first line of `if`
abbrev pub if_lexemes : Condition → Spelled
if_lexemes condition = letters the.If ∷ (condition_lexemes condition ++ letters the.OpenBrace ∷ [])

abbrev pub block_lines : List (List ℕ) → ℕ → Block → List Line
block_lines names d nothing = []
block_lines names d (basic n act rest) = line d (act_lexemes act) ∷ block_lines names d rest
block_lines names d (stop n rest) = line d (letters the.End ∷ []) ∷ block_lines names d rest
block_lines names d (when n condition first rest) =
    line d (if_lexemes condition) ∷ (block_lines names (d + 1) first ++ closing d ∷ block_lines names d rest)
block_lines names d (either n condition first second rest) =
    line d (if_lexemes condition)
    ∷ (block_lines names (d + 1) first
    ++ line d (letters the.CloseBrace ∷ letters the.Else ∷ letters the.OpenBrace ∷ [])
    ∷ (block_lines names (d + 1) second ++ closing d ∷ block_lines names d rest))
block_lines names d (repeat n times body rest) =
    line d (letters the.Repeat ∷ decimal times ∷ letters the.OpenBrace ∷ [])
    ∷ (block_lines names (d + 1) body ++ closing d ∷ block_lines names d rest)
block_lines names d (forever n body rest) =
    line d (letters the.Forever ∷ letters the.OpenBrace ∷ [])
    ∷ (block_lines names (d + 1) body ++ closing d ∷ block_lines names d rest)
block_lines names d (apply n number named rest) = line d (letters the.Apply ∷ name_at names number ∷ [])
    ∷ block_lines names d rest

abbrev pub limits_line : Plan → Line
limits_line h = line 0 (limits_lexemes h (reserve_lexemes h.layout))

abbrev pub header_lines : Plan → List Line
header_lines h = line 0 (letters the.Ensemble ∷ hex_text h.eid ∷ mode_lexemes (layout_mode h.layout)) ∷ limits_line h
    ∷ []

abbrev pub items_lines : List Item → List Line
items_lines [] = []
items_lines (i ∷ is) = line 0 (edit_lexemes i.edit) ∷ items_lines is

-- the definitions of these blocks, numbered from `number`
abbrev pub defined_lines : List (List ℕ) → ℕ → List (List Statement) → List Line
defined_lines names number [] = []
defined_lines names number (b ∷ bs) =
    line 0 (letters the.Define ∷ name_at names number ∷ letters the.OpenBrace ∷ [])
    ∷ (block_lines names 1 (block_of [] b) ++ closing 0 ∷ defined_lines names (number + 1) bs)

-- one definition
abbrev pub definition_lines : List (List ℕ) → ℕ → List Statement → List Line
definition_lines names number b =
    line 0 (letters the.Define ∷ name_at names number ∷ letters the.OpenBrace ∷ [])
    ∷ (block_lines names 1 (block_of [] b) ++ closing 0 ∷ [])

abbrev pub tree_lines : Tree → List Line
tree_lines t =
    header_lines t.header ++ (items_lines t.items ++ (defined_lines t.names 0 t.blocks
    ++ line 0 (letters the.Begin ∷ []) ∷ block_lines t.names 0 (block_of [] t.statements)))

-- the text added is that of statements in front of a block
pub record IsPut (names : List (List ℕ)) (d : ℕ) (added : Before) (old new : List ℕ) : Type 0 where
  pub before : (b : Block) → new ++ text_of_lines (block_lines names d b) ≡ old
      ++ text_of_lines (block_lines names d (added b))
