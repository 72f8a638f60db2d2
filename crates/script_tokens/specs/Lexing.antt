-- Cutting a text into tokens byte by byte: the contract of `cut`. The tokens of a text are defined in `Texts.antt`.
use Rattle.std.specs.Prelude.{◌≡◌, ℕ, ◌+◌, ◌<◌, ◌≤◌, ◌&&◌, Bool, true, false, if◌then◌else◌, nat_le, List, [], ◌∷◌}
use Rattle.std.specs.Prelude.{◌++◌, Result, Ok, Err}
use Rattle.script_tokens.specs.declared.fault.ScriptFault.{ScriptFault}
use Rattle.script_tokens.specs.declared.fault.ScriptFault.TheVariants.{Byte, Limit, Memory}
use Rattle.script_tokens.specs.declared.token.Token.{Token}
use Rattle.script_tokens.specs.declared.token.Limits.{Limits}
use Rattle.script_tokens.specs.declared.token.Kind.{Kind}
use Rattle.script_tokens.specs.declared.token.Kind.TheVariants.{Blank, LineEnd, Hash, Brace, Letter, Bad}
use Rattle.script_tokens.specs.declared.token.Inside.{Inside}
use Rattle.script_tokens.specs.declared.token.Inside.TheVariants.{Nothing, Comment, Atom}
use Rattle.script_tokens.specs.declared.token.Place.{Place}
use Rattle.script_tokens.specs.Bytes.{kind_of, position_after, token_at}

-- the atom that a byte ends, if any
abbrev pub atom_ended : Inside → ℕ → Kind → List Token
atom_ended Nothing at k = []
atom_ended Comment at k = []
atom_ended (Atom p) at Letter = []
atom_ended (Atom p) at Blank = token_at p at ∷ []
atom_ended (Atom p) at LineEnd = token_at p at ∷ []
atom_ended (Atom p) at Hash = token_at p at ∷ []
atom_ended (Atom p) at Brace = token_at p at ∷ []
atom_ended (Atom p) at Bad = token_at p at ∷ []

abbrev pub brace_here : Inside → Place → Kind → List Token
brace_here Comment p k = []
brace_here Nothing p Brace = token_at p (p.at + 1) ∷ []
brace_here (Atom q) p Brace = token_at p (p.at + 1) ∷ []
brace_here m p k = []

abbrev pub made : Inside → Place → Kind → List Token
made m p k = atom_ended m p.at k ++ brace_here m p k

abbrev pub inside_after : Inside → Place → Kind → Inside
inside_after Comment p LineEnd = Nothing
inside_after Comment p k = Comment
inside_after (Atom q) p Letter = Atom q
inside_after Nothing p Letter = Atom p
inside_after m p Hash = Comment
inside_after m p k = Nothing

abbrev pub is_bad : Inside → Kind → Bool
is_bad Comment k = false
is_bad m Bad = true
is_bad m k = false

-- a byte that makes no token and leaves the lexer's state unchanged
pub record IsQuiet (m : Inside) (k : Kind) : Type 0 where
  pub none : (p : Place) → made m p k ≡ []
  pub good : is_bad m k ≡ false
  pub stays : (p : Place) → inside_after m p k ≡ m

-- a token is within the limits: only an atom can have more than one byte
abbrev pub fits : Limits → Token → Bool
fits limits t = nat_le t.end (t.start + limits.atom) && nat_le t.position.line limits.line

-- these tokens, then the result of the rest; or the first that is past a limit
abbrev pub added : Token → Result (List Token) ScriptFault → Result (List Token) ScriptFault
added t (Ok us) = Ok (t ∷ us)
added t (Err e) = Err e

abbrev pub tokens_before : Limits → List Token → Result (List Token) ScriptFault → Result (List Token) ScriptFault
tokens_before limits [] r = r
tokens_before limits (t ∷ ts) r = if fits limits t then added t (tokens_before limits ts r) else Err (Limit t.position)

unfoldable pub lexed : Limits → Inside → Place → List ℕ → Result (List Token) ScriptFault
lexed limits m p [] = tokens_before limits (atom_ended m p.at Blank) (Ok [])
lexed limits m p (b ∷ bs) =
    tokens_before limits (made m p (kind_of b))
    (if is_bad m (kind_of b) then Err (Byte p.position)
    else lexed limits (inside_after m p (kind_of b)) (position_after p (kind_of b)) bs)

-- these tokens were pushed, or the fault is out of memory or names the first that is past a limit
abbrev pub Pushes : Limits → (old new ts : List Token) → Result (Unit {0}) ScriptFault → Type 0
Pushes limits old new ts (Ok u) = (new ≡ old ++ ts) × (tokens_before limits ts (Ok []) ≡ Ok ts)
Pushes limits old new ts (Err Memory) = Unit {0}
Pushes limits old new ts (Err e) = tokens_before limits ts (Ok []) ≡ Err e

-- tokens in order between two offsets, none empty and no two overlapping
abbrev pub InOrder : ℕ → List Token → ℕ → Type 0
InOrder from [] to = from ≤ to
InOrder from (t ∷ ts) to = (from ≤ t.start) × (t.start < t.end) × InOrder t.end ts to
