-- The schedule of a text: the tree that has the text's tokens, in order, with blanks and comments anywhere between
-- them.
use Rattle.std.specs.Prelude.{◌≡◌, ℕ, ◌≤◌, List, length}
use Rattle.script_tokens.specs.Bytes.{first_position}
use Rattle.script_tokens.specs.Texts.{Piece, text_of, AreText, tokens_of, TokensFit, script_limits, MOST_BYTES}
use Rattle.script_tokens.specs.Reading.{lines_of}
use Rattle.script_front.specs.Denoting.{lexemes_in, HasLexemes}
use Rattle.schedule_front.specs.Tree.{Tree, IsSchedule}
use Rattle.schedule_front.specs.Spelled.{tree_lexemes, HasLines}

-- the text has the tokens of the tree, on any lines
abbrev pub Denotes : List ℕ → Tree → Type 0
Denotes text t = HasLexemes text (tree_lexemes t)

-- the text has the tokens of the tree, on its lines, and is within the limits of scripts
pub record IsScheduleOf (text : List ℕ) (t : Tree) : Type 0 where
  pub pieces : List Piece
  pub formed : AreText pieces
  pub whole : text_of pieces ≡ text
  pub spelled : lexemes_in pieces ≡ tree_lexemes t
  pub lined : HasLines (lines_of (tokens_of first_position pieces)) t
  pub short : length text ≤ MOST_BYTES
  pub within : TokensFit script_limits (tokens_of first_position pieces)

-- no schedule has this text: no tree with every number in range, names well formed and different, and within all limits
abbrev pub IsNoSchedule : List ℕ → Type 0
IsNoSchedule text = (t : Tree) → IsSchedule t → IsScheduleOf text t → ⊥
