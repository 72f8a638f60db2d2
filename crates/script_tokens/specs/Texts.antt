-- The syntax of texts: blanks, comments, braces and atoms, one after another. No two atoms are adjacent, and a comment
-- ends with its line.
use Rattle.std.specs.Prelude.{◌≡◌, ◌≢◌, ◌⊎◌, ℕ, ◌+◌, ◌<◌, ◌≤◌, true, List, [], ◌∷◌, ◌++◌, length, Ok, Err}
use Rattle.script_tokens.specs.declared.token.Token.{Token}
use Rattle.script_tokens.specs.declared.token.Limits.{Limits}
use Rattle.script_tokens.specs.declared.token.Kind.TheVariants.{Blank, LineEnd, Brace, Letter}
use Rattle.script_tokens.specs.declared.token.Inside.TheVariants.{Nothing}
use Rattle.script_tokens.specs.declared.token.Place.{Place}
use Rattle.script_tokens.specs.declared.fault.ScriptFault.{ScriptFault}
use Rattle.script_tokens.specs.declared.fault.ScriptFault.TheVariants.{Limit}
use Rattle.script_tokens.specs.Bytes.{kind_of, position_past, first_position, token_at}
use Rattle.script_tokens.specs.Lexing.{fits, lexed}

pub data Piece : Type 0 where
  blank : (byte : ℕ) → Piece
  -- `#`, and the bytes after it up to the end of the line, exclusive
  comment : (bytes : List ℕ) → Piece
  brace : (byte : ℕ) → Piece
  atom : (bytes : List ℕ) → Piece

abbrev pub bytes_of : Piece → List ℕ
bytes_of (blank b) = b ∷ []
bytes_of (comment bs) = 35 ∷ bs
bytes_of (brace b) = b ∷ []
bytes_of (atom bs) = bs

abbrev pub text_of : List Piece → List ℕ
text_of [] = []
text_of (p ∷ ps) = bytes_of p ++ text_of ps

abbrev pub AreLetters : List ℕ → Type 0
AreLetters [] = Unit {0}
AreLetters (b ∷ bs) = (kind_of b ≡ Letter) × AreLetters bs

abbrev pub HaveNoLineEnd : List ℕ → Type 0
HaveNoLineEnd [] = Unit {0}
HaveNoLineEnd (b ∷ bs) = (kind_of b ≢ LineEnd) × HaveNoLineEnd bs

abbrev pub IsPiece : Piece → Type 0
IsPiece (blank b) = (kind_of b ≡ Blank) ⊎ (kind_of b ≡ LineEnd)
IsPiece (comment bs) = HaveNoLineEnd bs
IsPiece (brace b) = kind_of b ≡ Brace
IsPiece (atom bs) = (1 ≤ length bs) × AreLetters bs

-- no atom is followed by an atom, and a comment only by the end of its line
abbrev pub CanPrecede : Piece → List Piece → Type 0
CanPrecede (atom bs) (atom cs ∷ ps) = ⊥
CanPrecede (comment bs) (blank b ∷ ps) = kind_of b ≡ LineEnd
CanPrecede (comment bs) (comment cs ∷ ps) = ⊥
CanPrecede (comment bs) (brace b ∷ ps) = ⊥
CanPrecede (comment bs) (atom cs ∷ ps) = ⊥
CanPrecede p ps = Unit {0}

abbrev pub AreText : List Piece → Type 0
AreText [] = Unit {0}
AreText (p ∷ ps) = IsPiece p × CanPrecede p ps × AreText ps

-- the tokens of these pieces, where the first begins at this offset
abbrev pub tokens_of : Place → List Piece → List Token
tokens_of at [] = []
tokens_of at (blank b ∷ ps) = tokens_of (position_past at (b ∷ [])) ps
tokens_of at (comment bs ∷ ps) = tokens_of (position_past at (35 ∷ bs)) ps
tokens_of at (brace b ∷ ps) = token_at at (at.at + 1) ∷ tokens_of (position_past at (b ∷ [])) ps
tokens_of at (atom bs ∷ ps) = token_at at (at.at + length bs) ∷ tokens_of (position_past at bs) ps

abbrev pub TokensFit : Limits → List Token → Type 0
TokensFit limits [] = Unit {0}
TokensFit limits (t ∷ ts) = (fits limits t ≡ true) × TokensFit limits ts

-- the text consists of pieces that have these tokens, none of them past a limit
pub record IsCutInto (limits : Limits) (text : List ℕ) (tokens : List Token) : Type 0 where
  pub pieces : List Piece
  pub formed : AreText pieces
  pub whole : text_of pieces ≡ text
  pub are : tokens_of first_position pieces ≡ tokens
  pub within : TokensFit limits tokens

-- cutting a text returns these tokens exactly where they are the text's tokens
abbrev pub TextsAreCut : Type 0
TextsAreCut = (limits : Limits) → (text : List ℕ) → (tokens : List Token)
    → (lexed limits Nothing first_position text ≡ Ok tokens → IsCutInto limits text tokens)
    × (IsCutInto limits text tokens → lexed limits Nothing first_position text ≡ Ok tokens)

-- ---- scripts

abbrev pub script_limits : Limits
script_limits = record { atom = 32; line = 65535 }

abbrev pub MOST_BYTES : ℕ
MOST_BYTES = 1048576

-- the tokens of a script's text
abbrev pub AreTokens : List ℕ → List Token → Type 0
AreTokens text tokens = (length text ≤ MOST_BYTES) × IsCutInto script_limits text tokens

-- why a text has no tokens: it is too long, or the first fault in text order
abbrev pub IsFirstFault : List ℕ → ScriptFault → Type 0
IsFirstFault text fault =
    ((MOST_BYTES < length text) × (fault ≡ Limit (record { line = 1; column = 1 })))
    ⊎ ((length text ≤ MOST_BYTES) × (lexed script_limits Nothing first_position text ≡ Err fault))
