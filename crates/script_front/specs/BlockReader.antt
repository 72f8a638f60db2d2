-- Reading statements, blocks, definitions and a whole script from the front of the remaining tokens. `lines` are the
-- lines of all tokens of the text, `left` is how many more items and statements may follow, and `depth` how many more
-- braces may be nested. The relation that these functions meet is `SpellsTree` of specs/Parsing.antt.
use Rattle.std.specs.Prelude.{ℕ, zero, suc, ◌-◌, ◌==◌, Bool, true, if◌then◌else◌, List, [], ◌∷◌, ◌++◌, drop, map}
use Rattle.std.specs.Prelude.{position, Option, Some, None}
use Rattle.std.specs.Str.{bytes_eq}
use Rattle.plan_code.specs.declared.plan.Plan.{Plan}
use Rattle.script_tokens.specs.declared.keyword.Keyword.TheVariants as the
use Rattle.script_tokens.specs.declared.first_keyword.StatementKeyword.{StatementKeyword}
use Rattle.script_tokens.specs.declared.first_keyword.StatementKeyword.TheVariants as statement
use Rattle.script_tokens.specs.Reading.{Spelled, Input, Reads, ◌>>=◌, is_next, first_statement, after, line_of}
use Rattle.script_tokens.specs.Reading.{line_of_left}
use Rattle.script_tokens.specs.Taking.{number_at, name_next}
use Rattle.script_front.specs.declared.tree.Condition.{Condition}
use Rattle.script_front.specs.declared.tree.Item.{Item}
use Rattle.script_front.specs.Block.{Block, nothing, basic, stop, when, either, repeat, forever, apply, block_of}
use Rattle.script_front.specs.Readers.{act_from, condition_at, header_at, items_at}
use Rattle.script_front.specs.Tree.{Tree}

-- ---- statements

-- what is read: a block, how many more items and statements may follow, and the tokens after it
pub record Passage : Type 0 where
  pub block : Block
  pub left : ℕ
  pub rest : Spelled

-- statements in front of what is read after them
abbrev pub put : (Block → Block) → Option Passage → Option Passage
put added None = None
put added (Some p) = Some (record { block = added p.block; left = p.left; rest = p.rest })

-- reads statements at this depth, of at most this number
abbrev pub Statements : Type 0
Statements = (depth left : ℕ) → Spelled → Option Passage

-- statements end here: no token is left, or a closing brace is next
unfoldable pub stops : Spelled → Bool
stops [] = true
stops (w ∷ ws) = is_next the.CloseBrace (w ∷ ws)

-- an opening brace, if one more may be nested
unfoldable pub open_at : (depth : ℕ) → Spelled → Option Spelled
open_at depth ws = if depth == 0 then None else after the.OpenBrace ws

-- a block in braces
unfoldable pub body_at : Statements → Statements
body_at go depth left ws = do
  inside ← open_at depth ws
  body ← go (depth - 1) left inside
  close ← after the.CloseBrace body.rest
  Some (record { block = body.block; left = body.left; rest = close })

-- the number of a block by its name
unfoldable pub applied_at : List (List ℕ) → Spelled → Reads ℕ
applied_at names ws = name_next ws >>= λ name. (position (bytes_eq name.0) names >>= λ number. Some (number, name.1))

-- after the first block of `if`
unfoldable pub branch_at : Statements → (line depth : ℕ) → Condition → Passage → Option Passage
branch_at go line depth condition first =
    if is_next the.Else first.rest then (body_at go depth first.left (drop 1 first.rest)
    >>= λ second. put (either line condition first.block second.block) (go depth second.left second.rest))
    else put (when line condition first.block) (go depth first.left first.rest)

-- a statement, after its first keyword, and those after it
unfoldable pub statement_from : Statements → List (List ℕ) → (line depth left : ℕ) → StatementKeyword → Spelled
    → Option Passage
statement_from go names line depth left statement.End ws = put (stop line) (go depth left ws)
statement_from go names line depth left statement.If ws =
    condition_at ws >>= λ condition. (body_at go depth left condition.1 >>= branch_at go line depth condition.0)
statement_from go names line depth left statement.Repeat ws =
    number_at 1 65535 ws >>= λ times. (body_at go depth left times.1
    >>= λ body. put (repeat line times.0 body.block) (go depth body.left body.rest))
statement_from go names line depth left statement.Forever ws =
    body_at go depth left ws >>= λ body. put (forever line body.block) (go depth body.left body.rest)
statement_from go names line depth left statement.Apply ws =
    applied_at names ws >>= λ number. put (apply line number.0 nothing) (go depth left number.1)
statement_from go names line depth left (statement.Act k) ws =
    act_from k ws >>= λ act. put (basic line act.0) (go depth left act.1)

unfoldable pub begun_at : Statements → List (List ℕ) → List ℕ → (depth left : ℕ) → Spelled → StatementKeyword
    → Option Passage
begun_at go names lines depth zero ws k = None
begun_at go names lines depth (suc left) ws k = statement_from go names (line_of lines ws) depth left k (drop 1 ws)

-- statements, up to a closing brace or the end; any `fuel` above `left` is enough
unfoldable pub block_at : (fuel : ℕ) → List (List ℕ) → List ℕ → Statements
block_at zero names lines depth left ws = None
block_at (suc fuel) names lines depth left ws =
    if stops ws then Some (record { block = nothing; left = left; rest = ws })
    else (first_statement ws >>= begun_at (block_at fuel names lines) names lines depth left ws)

-- ---- definitions

pub record Defined : Type 0 where
  pub names : List (List ℕ)
  pub blocks : List Block
  pub left : ℕ
  pub rest : Spelled

-- these blocks, and more that are read after them
abbrev pub after_blocks : List Block → Option Defined → Option Defined
after_blocks bs None = None
after_blocks bs (Some d) = Some (record { names = d.names; blocks = bs ++ d.blocks; left = d.left; rest = d.rest })

-- a name that is not defined yet
abbrev pub new_if : Option ℕ → List ℕ × Spelled → Reads (List ℕ)
new_if None name = Some name
new_if (Some number) name = None

unfoldable pub new_name_at : List (List ℕ) → Spelled → Reads (List ℕ)
new_name_at names ws = name_next ws >>= λ name. new_if (position (bytes_eq name.0) names) name

-- a name and its block, after `define`
unfoldable pub definition_at : List (List ℕ) → List ℕ → (left : ℕ) → Spelled → Option (List ℕ × Passage)
definition_at names lines left ws =
    new_name_at names ws >>= λ name. (body_at (block_at (suc left) names lines) 16 left name.1
    >>= λ body. Some (name.0, body))

-- at most `room` definitions, where these names are defined
unfoldable pub definitions_at : (room : ℕ) → List (List ℕ) → List ℕ → (left : ℕ) → Spelled → Option Defined
definitions_at zero names lines left ws =
    if is_next the.Define ws then None else Some (record { names = names; blocks = []; left = left; rest = ws })
definitions_at (suc room) names lines left ws =
    if is_next the.Define ws then (definition_at names lines left (drop 1 ws) >>= λ d.
    after_blocks (d.1.block ∷ []) (definitions_at room (names ++ d.0 ∷ []) lines d.1.left d.1.rest))
    else Some (record { names = names; blocks = []; left = left; rest = ws })

-- ---- a script

-- what a tree says: blocks in place of statements
pub record Content : Type 0 where
  pub header : Plan
  pub items : List Item
  pub names : List (List ℕ)
  pub blocks : List Block
  pub begin_line : ℕ
  pub statements : Block
  pub last_line : ℕ

abbrev pub content_of : Tree → Content
content_of t = record {
  header = t.header;
  items = t.items;
  names = t.names;
  blocks = map (block_of []) t.blocks;
  begin_line = t.begin_line;
  statements = block_of [] t.statements;
  last_line = t.last_line;
}

-- no token is left
abbrev pub at_end : Content → Spelled → Option Content
at_end c [] = Some c
at_end c (w ∷ ws) = None

unfoldable pub script_at : Input → Option Content
script_at i = do
  header ← header_at i.lexemes
  items ← items_at 8192 i.lines header.1
  defined ← definitions_at 64 [] i.lines items.left items.rest
  begin ← after the.Begin defined.rest
  run ← block_at (suc defined.left) defined.names i.lines 16 defined.left begin
  let c : Content = record {
    header = header.0;
    items = items.items;
    names = defined.names;
    blocks = defined.blocks;
    begin_line = line_of i.lines defined.rest;
    statements = run.block;
    last_line = line_of_left i.lines 1;
  } in
      at_end c run.rest
