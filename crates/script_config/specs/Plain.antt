-- Scripts without blocks: a header, items that make a configuration, and acts, each on its own line as `print` formats
-- them.
use Rattle.std.specs.Prelude.{◌≡◌, ℕ, ◌+◌, List, [], ◌∷◌, length}
use Rattle.mux_config.specs.declared.edit.Edit.{Edit}
use Rattle.script_front.specs.declared.tree.Act.{Act}
use Rattle.plan_code.specs.declared.plan.Plan.{Plan}
use Rattle.script_front.specs.declared.tree.Item.{Item}
use Rattle.script_front.specs.Block.{Block, nothing, basic, block_of}
use Rattle.script_front.specs.Tree.{Tree}

-- the edits as items, one per line from this line on
abbrev pub items_from : ℕ → List Edit → List Item
items_from line [] = []
items_from line (e ∷ es) = record { line = line; edit = e } ∷ items_from (line + 1) es

-- the acts, one per line from this line on, followed by a block
abbrev pub acts_from : ℕ → List Act → Block → Block
acts_from line [] rest = rest
acts_from line (a ∷ acts) rest = basic line a (acts_from (line + 1) acts rest)

-- the script with this header, these edits as items and these acts; the header has two lines, and `begin` one
pub record IsPlain (header : Plan) (edits : List Edit) (acts : List Act) (s : Tree) : Type 0 where
  pub heads : s.header ≡ header
  pub items : s.items ≡ items_from 3 edits
  pub names : s.names ≡ []
  pub blocks : s.blocks ≡ []
  pub begins : s.begin_line ≡ 3 + length edits
  pub statements : block_of [] s.statements ≡ acts_from (4 + length edits) acts nothing
  pub ends : s.last_line ≡ 3 + length edits + length acts
