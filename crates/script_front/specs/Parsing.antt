-- Contracts of the parser's private functions. No public contract depends on them.
use Rattle.std.specs.Prelude.{◌≡◌, ℕ, suc, ◌<◌, ◌≤◌, List, [], ◌∷◌, ◌++◌, length, drop, map, Some, None, Vec}
use Rattle.std.specs.Global.{Global}
use Rattle.script_front.specs.declared.tree.Item.{Item}
use Rattle.script_front.specs.declared.tree.Statement.{Statement}
use Rattle.script_front.specs.Block.{Block, Before, nothing, apply, block_of}
use Rattle.script_tokens.specs.declared.first_keyword.StatementKeyword.{StatementKeyword}
use Rattle.script_tokens.specs.Reading.{Spelled, Input}
use Rattle.script_front.specs.Readers.{after_items, items_at}
use Rattle.script_front.specs.BlockReader.{put, Passage, body_at, statement_from, block_at, applied_at, definition_at}
use Rattle.script_front.specs.BlockReader.{definitions_at, content_of, script_at}
use Rattle.script_front.specs.Spelled.{tree_lexemes, HasLines}
use Rattle.script_front.specs.Tree.{Tree, IsScript}

-- the remaining tokens are those of this tree, on its lines
pub record SpellsTree (t : Tree) (input : Input) : Type 0 where
  pub spells : input.lexemes ≡ tree_lexemes t
  pub lined : HasLines input.lines t

-- what is read from some tokens is the content of the script that they spell
pub record ScriptsAreRead : Type 0 where
  pub given : (i : Input) (t : Tree) → script_at i ≡ Some (content_of t) → IsScript t × SpellsTree t i
  pub found : (i : Input) (t : Tree) → IsScript t → SpellsTree t i → script_at i ≡ Some (content_of t)

abbrev pub bodies : List (Vec Statement Global) → List (List Statement)
bodies blocks = map (λ b. b.items) blocks

-- ---- what calls return; `old` and `new` are how many more items and statements may follow

-- items
pub record ReadsItems (items : List Item) (old new : ℕ) (before after : Input) : Type 0 where
  pub read : items_at old before.lines before.lexemes ≡ Some
      (record { items = items; left = new; rest = after.lexemes })
  pub same : after.lines ≡ before.lines

-- one more item
pub record HasMore (old new : List Item) (before after : Input) : Type 0 where
  pub item : Item
  pub more : new ≡ old ++ item ∷ []
  pub read : (left : ℕ) → items_at (suc left) before.lines before.lexemes
      ≡ after_items (item ∷ []) (items_at left before.lines after.lexemes)
  pub same : after.lines ≡ before.lines

abbrev pub passage : Block → ℕ → Spelled → Passage
passage b left rest = record { block = b; left = left; rest = rest }

-- statements up to their end
pub record ReadsBlock (names : List (List ℕ)) (depth old new : ℕ) (before after : Input) (b : Block) : Type 0 where
  pub read : (fuel : ℕ) → old < fuel → block_at fuel names before.lines depth old before.lexemes
      ≡ Some (passage b new after.lexemes)
  pub fewer : new ≤ old
  pub same : after.lines ≡ before.lines

abbrev pub ReadsNone : (names : List (List ℕ)) (depth left : ℕ) → Input → Type 0
ReadsNone names depth left i = (fuel : ℕ) → left < fuel → block_at fuel names i.lines depth left i.lexemes ≡ None

-- a block in braces
pub record ReadsBody (names : List (List ℕ)) (depth old new : ℕ) (before after : Input) (b : Block) : Type 0 where
  pub read : (fuel : ℕ) → old < fuel → body_at (block_at fuel names before.lines) depth old before.lexemes
      ≡ Some (passage b new after.lexemes)
  pub fewer : new ≤ old
  pub same : after.lines ≡ before.lines

abbrev pub ReadsNoBody : (names : List (List ℕ)) (depth left : ℕ) → Input → Type 0
ReadsNoBody names depth left i = (fuel : ℕ) → left < fuel
    → body_at (block_at fuel names i.lines) depth left i.lexemes ≡ None

-- a statement, in front of what is read after it
pub record ReadsStatement (names : List (List ℕ)) (depth old new : ℕ) (before after : Input) (added : Before) : Type
    0 where
  pub read : (fuel : ℕ) → old ≤ fuel → block_at (suc fuel) names before.lines depth old before.lexemes
      ≡ put added (block_at fuel names before.lines depth new after.lexemes)
  pub fewer : new < old
  pub same : after.lines ≡ before.lines

-- the same after its first keyword
pub record ReadsAfter (k : StatementKeyword) (names : List (List ℕ)) (line depth old new : ℕ) (before after : Input)
    (added : Before) : Type 0 where
  pub read : (fuel : ℕ) → old < fuel
      → statement_from (block_at fuel names before.lines) names line depth old k before.lexemes
      ≡ put added (block_at fuel names before.lines depth new after.lexemes)
  pub fewer : new ≤ old
  pub same : after.lines ≡ before.lines

abbrev pub ReadsNoneAfter : StatementKeyword → (names : List (List ℕ)) (line depth left : ℕ) → Input → Type 0
ReadsNoneAfter k names line depth left i = (fuel : ℕ) → left < fuel
    → statement_from (block_at fuel names i.lines) names line depth left k i.lexemes ≡ None

-- the name of a defined block
pub record IsApplied (names : List (List ℕ)) (line : ℕ) (before after : Input) (added : Before) : Type 0 where
  pub number : ℕ
  pub is : (b : Block) → added b ≡ apply line number nothing b
  pub read : applied_at names before.lexemes ≡ Some (number, after.lexemes)
  pub same : after.lines ≡ before.lines

-- a definition of one more name, after `define`
pub record ReadsDefinition (old new : List (List ℕ)) (left left_new : ℕ) (before after : Input) (b : Block) : Type
    0 where
  pub name : List ℕ
  pub more : new ≡ old ++ name ∷ []
  pub read : definition_at old before.lines left (drop 1 before.lexemes) ≡ Some (name, passage b left_new after.lexemes)
  pub same : after.lines ≡ before.lines

-- definitions, where no name is defined before
pub record ReadsDefinitions (names : List (List ℕ)) (old new : ℕ) (before after : Input)
    (blocks : List (Vec Statement Global)) : Type 0 where
  pub read : definitions_at 64 [] before.lines old before.lexemes
      ≡ Some (record { names = names; blocks = map (block_of []) (bodies blocks); left = new; rest = after.lexemes })
  pub same : after.lines ≡ before.lines
  pub few : length blocks ≤ 64
  pub each : length names ≡ length blocks
