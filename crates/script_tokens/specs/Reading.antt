-- The remaining tokens of a text, as their bytes, and the lines on which they begin.
use Rattle.std.specs.Prelude.{◌≡◌, ℕ, ◌-◌, ◌<◌, ◌≤◌, Bool, false, if◌then◌else◌, List, [], ◌∷◌, ◌++◌, map, length, drop}
use Rattle.std.specs.Prelude.{min, slice_range, slice_index_or, Option, Some, None, Result, Ok, Err}
use Rattle.std.specs.List.{AllByRecursion}
use Rattle.std.specs.Str.{bytes_eq}
use Rattle.script_tokens.specs.declared.fault.ScriptFault.{ScriptFault}
use Rattle.script_tokens.specs.declared.token.Token.{Token}
use Rattle.script_tokens.specs.declared.keyword.Keyword.{Keyword}
use Rattle.script_tokens.specs.declared.first_keyword.ItemKeyword.{ItemKeyword}
use Rattle.script_tokens.specs.declared.first_keyword.StatementKeyword.{StatementKeyword}
use Rattle.script_tokens.specs.First.{statement_keyword, item_keyword, statement_of, item_of}
use Rattle.script_tokens.specs.Keywords.{Lexeme, the, text, letters, word_of}

-- tokens, each as its bytes
abbrev pub Spelled : Type 0
Spelled = List (List ℕ)

abbrev pub lexemes_of : List ℕ → List Token → List (List ℕ)
lexemes_of bytes [] = []
lexemes_of bytes (t ∷ ts) = slice_range bytes t.start t.end ∷ lexemes_of bytes ts

abbrev pub lines_of : List Token → List ℕ
lines_of tokens = map (λ t. t.position.line) tokens

-- lines as reported: at most 65,535, the last line of a script
abbrev pub shown_lines : List Token → List ℕ
shown_lines tokens = map (λ t. min t.position.line 65535) tokens

-- no token is past the last line of a script
abbrev pub AreOnScriptLines : List Token → Type 0
AreOnScriptLines tokens = AllByRecursion (λ t. t.position.line ≤ 65535) tokens

-- the remaining tokens, and the lines of all tokens of the text
pub record Input : Type 0 where
  pub lexemes : List (List ℕ)
  pub lines : List ℕ

-- the line of the first of the last `left` tokens
abbrev pub line_of_left : List ℕ → (left : ℕ) → ℕ
line_of_left lines left = slice_index_or lines (length lines - left) 0

-- the line of the first of these remaining tokens
abbrev pub line_of : List ℕ → List (List ℕ) → ℕ
line_of lines lexemes = line_of_left lines (length lexemes)

-- these tokens are read from the front
abbrev pub Passes : List (List ℕ) → (old new : Input) → Type 0
Passes lexemes old new = (old.lexemes ≡ lexemes ++ new.lexemes) × (new.lines ≡ old.lines)

-- the spans are not empty, and within the text
abbrev pub AreWithin : ℕ → List Token → Type 0
AreWithin n [] = Unit {0}
AreWithin n (t ∷ ts) = (t.start < t.end) × (t.end ≤ n) × AreWithin n ts

-- these are the last of all tokens
pub record AreLastOf (all tokens : List Token) : Type 0 where
  pub front : List Token
  pub whole : all ≡ front ++ tokens

-- the next token has these bytes
pub record BeginsWith (lexemes : List (List ℕ)) (bytes : List ℕ) : Type 0 where
  pub rest : List (List ℕ)
  pub begins : lexemes ≡ bytes ∷ rest

-- ---- reading from the front

-- what is read, and the tokens after it; None where the tokens do not begin with such a thing
abbrev pub Reads : Type 0 → Type 0
Reads T = Option (T × Spelled)

-- one reading after the other
infixl 10 ◌>>=◌
abbrev pub ◌>>=◌ : {A B : Type 0} → Option A → (A → Option B) → Option B
None >>= f = None
(Some x) >>= f = f x

-- whether this keyword is next
unfoldable pub is_next : Keyword → Spelled → Bool
is_next k [] = false
is_next k (w ∷ ws) = bytes_eq w (letters k)

-- the next token, if it is a keyword
abbrev pub key_of : Lexeme → Option Keyword
key_of (the k) = Some k
key_of (text bytes) = None

unfoldable pub first_key : Spelled → Option Keyword
first_key [] = None
first_key (w ∷ ws) = key_of (word_of w)

-- the next token, if it begins a statement, or an item
unfoldable pub first_statement : Spelled → Option StatementKeyword
first_statement ws = first_key ws >>= statement_of

unfoldable pub first_item : Spelled → Option ItemKeyword
first_item ws = first_statement ws >>= item_of

-- the tokens after this keyword, which must be next
unfoldable pub after : Keyword → Spelled → Option Spelled
after k ws = if is_next k ws then Some (drop 1 ws) else None

-- a keyword, then what is read after it
abbrev pub keyed : {T : Type 0} → Keyword → (Spelled → Reads T) → Spelled → Reads T
keyed k read ws = after k ws >>= read

-- one thing, then another
abbrev pub both : {S T : Type 0} → (Spelled → Reads S) → (Spelled → Reads T) → Spelled → Reads (S × T)
both read next ws = read ws >>= λ a. (next a.1 >>= λ b. Some ((a.0, b.0), b.1))

-- a value built of what is read
abbrev pub giving : {S T : Type 0} → (S → T) → S × Spelled → Reads T
giving make x = Some (make x.0, x.1)

abbrev pub built : {S T : Type 0} → (S → T) → (Spelled → Reads S) → Spelled → Reads T
built make read ws = read ws >>= giving make

-- what follows this keyword if it is next, and something else if it is not
abbrev pub either : {T : Type 0} → Keyword → (Spelled → Reads T) → (Spelled → Reads T) → Spelled → Reads T
either k read other ws = if is_next k ws then read (drop 1 ws) else other ws

-- a call advances past tokens, if they are next
abbrev pub Leaves : {X : Type 0} → Option Spelled → Result X ScriptFault → (old new : Input) → Type 0
Leaves rest (Ok x) old new = (rest ≡ Some new.lexemes) × (new.lines ≡ old.lines)
Leaves rest (Err e) old new = rest ≡ None

-- a call returns what is read, and advances past its tokens
abbrev pub Takes : {T : Type 0} → Reads T → Result T ScriptFault → (old new : Input) → Type 0
Takes read (Ok x) old new = (read ≡ Some (x, new.lexemes)) × (new.lines ≡ old.lines)
Takes read (Err e) old new = read ≡ None

-- the law of a reading: what is read is in range, and the tokens taken spell it; and tokens that spell a value in range
-- are read as that value, whatever follows
pub record ReadsAsSpelled {T : Type 0} (read : Spelled → Reads T) (In : T → Type 0) (spell : T → Spelled) : Type 0 where
  pub given : (lexemes : Spelled) (x : T × Spelled) → read lexemes ≡ Some x → In x.0 × (lexemes ≡ spell x.0 ++ x.1)
  pub found : (value : T) (rest : Spelled) → In value → read (spell value ++ rest) ≡ Some (value, rest)

-- the law of first keywords: what is found begins the tokens, and what begins them is found
pub record FirstKeywordsAreFound : Type 0 where
  pub statement_given : (lexemes : Spelled) (k : StatementKeyword) → first_statement lexemes ≡ Some k
      → lexemes ≡ letters (statement_keyword k) ∷ drop 1 lexemes
  pub statement_found : (k : StatementKeyword) (rest : Spelled)
      → first_statement (letters (statement_keyword k) ∷ rest) ≡ Some k
  pub item_given : (lexemes : Spelled) (k : ItemKeyword) → first_item lexemes ≡ Some k
      → lexemes ≡ letters (item_keyword k) ∷ drop 1 lexemes
  pub item_found : (k : ItemKeyword) (rest : Spelled) → first_item (letters (item_keyword k) ∷ rest) ≡ Some k
