-- Acts among statements, or in their braces, with the statements that are behind them.
use Rattle.std.specs.Prelude.{◌⊎◌, List, [], Contains}
use Rattle.script_front.specs.declared.tree.Act.{Act}
use Rattle.script_front.specs.declared.tree.Statement.{Statement}
use Rattle.script_front.specs.Block.{Block, nothing, basic, stop, when, either, repeat, forever, apply, block_of}
use Rattle.script_front.specs.Tree.{Tree}

-- among these statements, or in their braces, is an act of which this is so, with what is behind it
abbrev pub HasAct : (Act → Block → Type 0) → Block → Type 0
HasAct P nothing = ⊥
HasAct P (basic line act rest) = P act rest ⊎ HasAct P rest
HasAct P (stop line rest) = HasAct P rest
HasAct P (when line condition first rest) = HasAct P first ⊎ HasAct P rest
HasAct P (either line condition first second rest) = HasAct P first ⊎ (HasAct P second ⊎ HasAct P rest)
HasAct P (repeat line times body rest) = HasAct P body ⊎ HasAct P rest
HasAct P (forever line body rest) = HasAct P body ⊎ HasAct P rest
HasAct P (apply line number named rest) = HasAct P rest

-- in a block that the script defines
pub record HasActInBlock (P : Act → Block → Type 0) (blocks : List (List Statement)) : Type 0 where
  pub block : List Statement
  pub defined : Contains blocks block
  pub has : HasAct P (block_of [] block)

-- in the script's statements or in such a block
abbrev pub HasActIn : (Act → Block → Type 0) → Tree → Type 0
HasActIn P script = HasAct P (block_of [] script.statements) ⊎ HasActInBlock P script.blocks
