-- The script of a text: the tree that has the text's tokens, in order, with blanks and comments anywhere between them.
use Rattle.std.specs.Prelude.{◌≡◌, ℕ, ◌≤◌, List, [], ◌∷◌, length}
use Rattle.script_tokens.specs.Bytes.{first_position}
use Rattle.script_tokens.specs.Texts.{Piece, blank, comment, brace, atom, text_of, AreText, tokens_of, TokensFit}
use Rattle.script_tokens.specs.Texts.{script_limits, MOST_BYTES}
use Rattle.script_tokens.specs.Reading.{Spelled, lines_of}
use Rattle.script_front.specs.Tree.{Tree, IsScript}
use Rattle.script_front.specs.Spelled.{tree_lexemes, HasLines}

-- the tokens among pieces: braces and atoms
abbrev pub lexemes_in : List Piece → List (List ℕ)
lexemes_in [] = []
lexemes_in (blank b ∷ ps) = lexemes_in ps
lexemes_in (comment bs ∷ ps) = lexemes_in ps
lexemes_in (brace b ∷ ps) = (b ∷ []) ∷ lexemes_in ps
lexemes_in (atom bs ∷ ps) = bs ∷ lexemes_in ps

-- the text has these tokens, in order
pub record HasLexemes (text : List ℕ) (lexemes : Spelled) : Type 0 where
  pub pieces : List Piece
  pub formed : AreText pieces
  pub whole : text_of pieces ≡ text
  pub spelled : lexemes_in pieces ≡ lexemes

-- the text has the tokens of the tree, on any lines
abbrev pub Denotes : List ℕ → Tree → Type 0
Denotes text t = HasLexemes text (tree_lexemes t)

-- the text has the tokens of the tree, on its lines, and is within the limits of scripts
pub record IsScriptOf (text : List ℕ) (t : Tree) : Type 0 where
  pub pieces : List Piece
  pub formed : AreText pieces
  pub whole : text_of pieces ≡ text
  pub spelled : lexemes_in pieces ≡ tree_lexemes t
  pub lined : HasLines (lines_of (tokens_of first_position pieces)) t
  pub short : length text ≤ MOST_BYTES
  pub within : TokensFit script_limits (tokens_of first_position pieces)

-- no script has this text: no tree with every number in range, names well formed and different, and within all limits
abbrev pub IsNoScript : List ℕ → Type 0
IsNoScript text = (t : Tree) → IsScript t → IsScriptOf text t → ⊥
