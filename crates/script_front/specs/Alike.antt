-- Scripts that are alike, which may differ in lines, and scripts that are the same. Scripts that are not alike have
-- different tokens; scripts that are not the same have different texts.
use Rattle.std.specs.Prelude.{◌≡◌, ℕ, List, [], map}
use Rattle.mux_config.specs.declared.edit.Edit.{Edit}
use Rattle.script_front.specs.declared.tree.Item.{Item}
use Rattle.script_front.specs.declared.tree.Statement.{Statement}
use Rattle.script_front.specs.Block.{Block, nothing, basic, stop, when, either, repeat, forever, apply, block_of}
use Rattle.script_front.specs.Tree.{Tree, IsScript}
use Rattle.script_front.specs.Spelled.{tree_lexemes}
use Rattle.script_front.specs.Denoting.{IsScriptOf}

-- a block without its lines; an applied block is identified by its number
abbrev pub unlined : Block → Block
unlined nothing = nothing
unlined (basic line act rest) = basic 0 act (unlined rest)
unlined (stop line rest) = stop 0 (unlined rest)
unlined (when line condition first rest) = when 0 condition (unlined first) (unlined rest)
unlined (either line condition first second rest) = either 0 condition (unlined first) (unlined second) (unlined rest)
unlined (repeat line times body rest) = repeat 0 times (unlined body) (unlined rest)
unlined (forever line body rest) = forever 0 (unlined body) (unlined rest)
unlined (apply line number named rest) = apply 0 number nothing (unlined rest)

-- the statements without their lines
abbrev pub said_by : List Statement → Block
said_by statements = unlined (block_of [] statements)

-- the edits that items make
abbrev pub added_by : List Item → List Edit
added_by items = map (λ i. i.edit) items

-- the two differ at most in lines
pub record AreAlike (s t : Tree) : Type 0 where
  pub header : s.header ≡ t.header
  pub items : added_by s.items ≡ added_by t.items
  pub names : s.names ≡ t.names
  pub blocks : map said_by s.blocks ≡ map said_by t.blocks
  pub statements : said_by s.statements ≡ said_by t.statements

-- two scripts with the same tokens are alike
abbrev pub ScriptsHaveTheirOwnTokens : Type 0
ScriptsHaveTheirOwnTokens = (s t : Tree) → IsScript s → IsScript t → tree_lexemes s ≡ tree_lexemes t → AreAlike s t

-- ---- with lines

-- the two have the same content on the same lines
pub record AreTheSame (s t : Tree) : Type 0 where
  pub header : s.header ≡ t.header
  pub items : s.items ≡ t.items
  pub names : s.names ≡ t.names
  pub blocks : map (block_of []) s.blocks ≡ map (block_of []) t.blocks
  pub begin_line : s.begin_line ≡ t.begin_line
  pub statements : block_of [] s.statements ≡ block_of [] t.statements
  pub last_line : s.last_line ≡ t.last_line

-- a text is that of at most one script
abbrev pub TextsAreOfOneScript : Type 0
TextsAreOfOneScript = (text : List ℕ) (s t : Tree) → IsScript s → IsScript t → IsScriptOf text s → IsScriptOf text t
    → AreTheSame s t
