-- The text of a configuration: a script whose items make it.
use Rattle.std.specs.Prelude.{◌≡◌, ℕ, ◌+◌, ◌*◌, List, [], if◌then◌else◌, nat_lt}
use Rattle.mux_config.specs.Configuration.{Configuration, nothing}
use Rattle.script_config.specs.Sequences.{Transform}
use Rattle.plan_code.specs.declared.limits.TheConstants.{LONGEST_PERIOD}
use Rattle.plan_code.specs.declared.plan.Plan.{Plan}
use Rattle.script_front.specs.Alike.{added_by}
use Rattle.script_front.specs.Block.{block_of, nothing as no_statement}
use Rattle.script_front.specs.Denoting.{Denotes}
use Rattle.script_front.specs.Printing.{text_of_lines, tree_lines}
use Rattle.script_front.specs.Tree.{Tree, IsScript}

-- the text denotes a script with this header, formatted as scripts are printed; its items make the configuration from
-- the empty one without a fault; it has no blocks and no statements
pub record IsTextOf (header : Plan) (c : Configuration) (text : List ℕ) : Type 0 where
  pub tree : Tree
  pub script : IsScript tree
  pub heads : tree.header ≡ header
  pub makes : Transform (added_by tree.items) nothing c
  pub names : tree.names ≡ []
  pub blocks : tree.blocks ≡ []
  pub idle : block_of [] tree.statements ≡ no_statement
  pub denotes : Denotes text tree
  pub layout : text ≡ text_of_lines (tree_lines tree)

-- room for twice the pages, and one frame more; at least 4 frames and at most the longest period
abbrev pub usual_period : (pages : ℕ) → ℕ
usual_period pages = if nat_lt (2 * pages + 1) 4 then 4 else if nat_lt LONGEST_PERIOD (2 * pages + 1) then
    LONGEST_PERIOD else 2 * pages + 1
