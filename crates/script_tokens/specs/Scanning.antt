-- Finding the tokens of a text one by one: the contract of `Scanner`. Which tokens a text has is defined in
-- `Texts.antt`.
use Rattle.std.specs.Prelude.{◌≡◌, ◌≢◌, ℕ, ◌+◌, ◌-◌, ◌<◌, ◌≤◌, true, false, List, [], length, drop, Option, None, Some}
use Rattle.std.specs.Prelude.{Result, Ok, Err}
use Rattle.script_tokens.specs.declared.fault.ScriptFault.{ScriptFault}
use Rattle.script_tokens.specs.declared.fault.ScriptFault.TheVariants.{Limit, Memory}
use Rattle.script_tokens.specs.declared.scanner.Role.{Role}
use Rattle.script_tokens.specs.declared.scanner.Role.TheVariants.{Passed, Ends, Brace as IsBrace, Bad as IsBad}
use Rattle.script_tokens.specs.declared.token.Token.{Token}
use Rattle.script_tokens.specs.declared.token.Limits.{Limits}
use Rattle.script_tokens.specs.declared.token.Kind.{Kind}
use Rattle.script_tokens.specs.declared.token.Kind.TheVariants.{Blank, LineEnd, Hash, Brace, Letter, Bad}
use Rattle.script_tokens.specs.declared.token.Inside.{Inside}
use Rattle.script_tokens.specs.declared.token.Inside.TheVariants.{Nothing, Comment, Atom}
use Rattle.script_tokens.specs.declared.token.Place.{Place}
use Rattle.script_tokens.specs.Lexing.{fits, added, lexed}

-- ---- a text of which a part was scanned

pub record Scan : Type 0 where
  pub text : List ℕ
  pub limits : Limits
  pub place : Place

-- the tokens that are left, or the first fault of what is left
abbrev pub tokens_left : Scan → Result (List Token) ScriptFault
tokens_left s = lexed s.limits Nothing s.place (drop s.place.at s.text)

abbrev pub bytes_left : Scan → ℕ
bytes_left s = length s.text - s.place.at

-- a place in a text or at its end
pub record IsPlaceIn (text : List ℕ) (p : Place) : Type 0 where
  pub within : p.at ≤ length text
  pub line : p.position.line ≤ p.at + 1
  pub column : p.position.column ≤ p.at + 1

-- ---- the next token

-- the token comes first, and the others are left; or no token is left; or nothing but the fault
abbrev pub FindsNext : Scan → Scan → Result (Option Token) ScriptFault → Type 0
FindsNext old new (Ok None) = (tokens_left old ≡ Ok []) × (new ≡ old)
FindsNext old new (Ok (Some t)) = (tokens_left old ≡ added t (tokens_left new)) × (t.start < t.end)
    × (t.end ≤ length old.text) × (bytes_left new < bytes_left old)
FindsNext old new (Err e) = (tokens_left old ≡ Err e) × (e ≢ Memory) × (new ≡ old)

pub record Advances (old new : Scan) : Type 0 where
  pub text : new.text ≡ old.text
  pub limits : new.limits ≡ old.limits

-- ---- one scan of bytes. No public contract depends on what follows

-- this is the first token of those left, and the others are those left from the place after it
abbrev pub FindsFirst : Limits → List ℕ → Result (List Token) ScriptFault → Result (Option (Token × Place)) ScriptFault
    → Type 0
FindsFirst limits text left (Ok None) = left ≡ Ok []
FindsFirst limits text left (Ok (Some (t, next))) = left ≡ added t (lexed limits Nothing next (drop next.at text))
FindsFirst limits text left (Err e) = (left ≡ Err e) × (e ≢ Memory)

abbrev pub IsFurther : List ℕ → Place → Result (Option (Token × Place)) ScriptFault → Type 0
IsFurther text from (Ok None) = Unit {0}
IsFurther text from (Ok (Some (t, next))) = (t.start < t.end) × (t.end ≤ length text) × (from.at < next.at)
    × IsPlaceIn text next
IsFurther text from (Err e) = Unit {0}

-- the token is within the limits, and the place after it is this one; or it is past a limit
abbrev pub Fits : Limits → Token → Place → Result (Option (Token × Place)) ScriptFault → Type 0
Fits limits token after (Ok None) = ⊥
Fits limits token after (Ok (Some (t, next))) = (t ≡ token) × (next ≡ after) × (fits limits token ≡ true)
Fits limits token after (Err e) = (e ≡ Limit token.position) × (fits limits token ≡ false)

-- what a byte of this kind is to the token that is looked for
abbrev pub role_of : Inside → Kind → Role
role_of Comment k = Passed
role_of Nothing Blank = Passed
role_of Nothing LineEnd = Passed
role_of Nothing Hash = Passed
role_of Nothing Brace = IsBrace
role_of Nothing Letter = Passed
role_of Nothing Bad = IsBad
role_of (Atom p) Blank = Ends p
role_of (Atom p) LineEnd = Ends p
role_of (Atom p) Hash = Ends p
role_of (Atom p) Brace = Ends p
role_of (Atom p) Letter = Passed
role_of (Atom p) Bad = Ends p
