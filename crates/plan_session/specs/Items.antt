-- Texts that list items: each item is spelled by tokens, one item after another.
use Rattle.std.specs.Prelude.{◌≡◌, ◌≢◌, ℕ, List, [], ◌++◌, flat_map, Ok}
use Rattle.std.specs.List.{AllByRecursion}
use Rattle.script_tokens.specs.declared.token.Token.{Token}
use Rattle.script_tokens.specs.declared.token.Inside.TheVariants.{Nothing}
use Rattle.script_tokens.specs.declared.token.TheConstants.{NO_LIMITS}
use Rattle.script_tokens.specs.Bytes.{first_position}
use Rattle.script_tokens.specs.Lexing.{lexed}
use Rattle.script_tokens.specs.Reading.{lexemes_of}

-- the text is cut into tokens, without the limits of scripts, and they spell these items, each in its ranges
pub record HoldsItems {T : Type 0} (spelled : T → List (List ℕ)) (IsItem : T → Type 0) (text : List ℕ)
    (items : List T) : Type 0 where
  pub tokens : List Token
  pub cut : lexed NO_LIMITS Nothing first_position text ≡ Ok tokens
  pub lexemes : lexemes_of text tokens ≡ flat_map spelled items
  pub in_range : AllByRecursion IsItem items

-- a text lists at most one sequence of items
abbrev pub HoldsOneListOf : {T : Type 0} → (T → List (List ℕ)) → (T → Type 0) → Type 0
HoldsOneListOf {T} spelled IsItem = (text : List ℕ) (items others : List T) → HoldsItems spelled IsItem text items
    → HoldsItems spelled IsItem text others → items ≡ others

-- where an item comes first, its tokens identify it
abbrev pub AreUnique : {T : Type 0} → (T → List (List ℕ)) → (T → Type 0) → Type 0
AreUnique {T} spelled IsItem = (s t : T) (xs ys : List (List ℕ)) → IsItem s → IsItem t → spelled s ++ xs ≡ spelled t
    ++ ys → (s ≡ t) × (xs ≡ ys)

-- an item has tokens
abbrev pub HasLexemes : {T : Type 0} → (T → List (List ℕ)) → Type 0
HasLexemes {T} spelled = (s : T) (xs : List (List ℕ)) → spelled s ++ xs ≢ []
