-- The meaning of a script's statements: a block is its first statement, then the rest of the block. `apply` has the
-- number of a block, and that block where its meaning is known.
use Rattle.std.specs.Prelude.{ℕ, List, [], ◌∷◌, ◌++◌, map, slice_index_or}
use Rattle.script_front.specs.declared.tree.Act.{Act}
use Rattle.script_front.specs.declared.tree.Condition.{Condition}
use Rattle.script_front.specs.declared.tree.Statement.{Statement}
use Rattle.script_front.specs.declared.tree.Statement.TheOpen.{Statement-F}
use Rattle.script_front.specs.declared.tree.Statement.TheFolds.{fold-Statement}

pub data Block : Type 0 where
  nothing : Block
  basic : (line : ℕ) → (act : Act) → (rest : Block) → Block
  stop : (line : ℕ) → (rest : Block) → Block
  when : (line : ℕ) → (condition : Condition) → (first rest : Block) → Block
  either : (line : ℕ) → (condition : Condition) → (first second rest : Block) → Block
  repeat : (line times : ℕ) → (body rest : Block) → Block
  forever : (line : ℕ) → (body rest : Block) → Block
  apply : (line number : ℕ) → (named rest : Block) → Block

-- puts a statement in front of a block
abbrev pub Before : Type 0
Before = Block → Block

-- puts several in front, in order
abbrev pub together : List Before → Block → Block
together [] rest = rest
together (s ∷ ss) rest = s (together ss rest)

abbrev pub whole : List Before → Block
whole ss = together ss nothing

-- the block with this number
abbrev pub named_at : List Block → ℕ → Block
named_at table number = slice_index_or table number nothing

abbrev pub statement_step : List Block → Statement-F Before → Before
statement_step table (Statement-F.Act line act) rest = basic line act rest
statement_step table (Statement-F.End line) rest = stop line rest
statement_step table (Statement-F.If line condition first) rest = when line condition (whole first.items) rest
statement_step table (Statement-F.IfElse line condition first second) rest =
    either line condition (whole first.items) (whole second.items) rest
statement_step table (Statement-F.Repeat line times body) rest = repeat line times (whole body.items) rest
statement_step table (Statement-F.Forever line body) rest = forever line (whole body.items) rest
statement_step table (Statement-F.Apply line block) rest = apply line block (named_at table block) rest

-- the meaning of a statement, where the blocks defined before it have these meanings
abbrev pub before : List Block → Statement → Before
before table = fold-Statement Before (statement_step table)

-- statements in front of a block, and a block of statements alone
abbrev pub and_then : List Block → List Statement → Before
and_then table statements rest = together (map (before table) statements) rest

abbrev pub block_of : List Block → List Statement → Block
block_of table statements = and_then table statements nothing

-- the meanings of defined blocks, each of which can apply those before it
abbrev pub table_of : List Block → List (List Statement) → List Block
table_of table [] = table
table_of table (b ∷ bs) = table_of (table ++ block_of table b ∷ []) bs
