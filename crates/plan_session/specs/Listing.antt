-- The items of a text one by one, from the tokens that are left to a scanner.
use Rattle.std.specs.Prelude.{◌≡◌, ◌≢◌, ◌⊎◌, ℕ, ◌<◌, ◌≤◌, List, [], ◌∷◌, ◌++◌, length, flat_map, Option, None, Some}
use Rattle.std.specs.Prelude.{Result, Ok, Err}
use Rattle.std.specs.List.{AllByRecursion}
use Rattle.script_tokens.specs.declared.fault.ScriptFault.{ScriptFault}
use Rattle.script_tokens.specs.declared.fault.ScriptFault.TheVariants.{Memory}
use Rattle.script_tokens.specs.declared.token.Token.{Token}
use Rattle.script_tokens.specs.Lexing.{added}
use Rattle.script_tokens.specs.Reading.{AreWithin, lexemes_of}
use Rattle.script_tokens.specs.Scanning.{Scan, tokens_left, bytes_left}
use Rattle.plan_session.specs.declared.command.Command.{Command}
use Rattle.plan_session.specs.declared.item_fault.Wrong.{Wrong}
use Rattle.plan_session.specs.declared.step.Step.{Step}
use Rattle.plan_session.specs.Commands.{IsCommand, command_lexemes}
use Rattle.plan_session.specs.Events.{IsStep, step_lexemes}
use Rattle.plan_session.specs.ItemFaults.{HasItemFault, IsWrongItem, fault_at}
use Rattle.plan_session.specs.FirstFaults.{reported_fault}

-- the tokens as their bytes, or the first fault
abbrev pub as_lexemes : List ℕ → Result (List Token) ScriptFault → Result (List (List ℕ)) ScriptFault
as_lexemes text (Ok tokens) = Ok (lexemes_of text tokens)
as_lexemes text (Err e) = Err e

-- the tokens that are left, each as its bytes, or the first fault of what is left
abbrev pub lexemes_left : Scan → Result (List (List ℕ)) ScriptFault
lexemes_left s = as_lexemes s.text (tokens_left s)

-- ---- lists of items

-- the tokens that are left spell these items, each in its ranges
pub record Lists {T : Type 0} (spelled : T → List (List ℕ)) (IsItem : T → Type 0) (s : Scan) (items : List T) : Type
    0 where
  pub left : lexemes_left s ≡ Ok (flat_map spelled items)
  pub in_range : AllByRecursion IsItem items

abbrev pub ListsSteps : Scan → List Step → Type 0
ListsSteps s steps = Lists step_lexemes IsStep s steps

abbrev pub ListsCommands : Scan → List Command → Type 0
ListsCommands s commands = Lists command_lexemes IsCommand s commands

-- the item comes first in every list, and the others are listed after it
pub record TakesFirst {T : Type 0} (spelled : T → List (List ℕ)) (IsItem : T → Type 0) (old new : Scan)
    (item : T) : Type 0 where
  pub in_range : IsItem item
  pub on : (items : List T) → Lists spelled IsItem old items → (rest : List T) × (items ≡ item ∷ rest)
      × Lists spelled IsItem new rest
  pub bytes : bytes_left new < bytes_left old
  pub bound : bytes_left old < 18446744073709551616

-- the first item; or there is none
abbrev pub TakesItem : {T : Type 0} → (T → List (List ℕ)) → (T → Type 0) → Scan → Scan → Option T → Type 0
TakesItem {T} spelled IsItem old new None = (items : List T) → Lists spelled IsItem old items → items ≡ []
TakesItem {T} spelled IsItem old new (Some item) = TakesFirst spelled IsItem old new item

abbrev pub TakesStep : Scan → Scan → Option Step → Type 0
TakesStep old new step = TakesItem step_lexemes IsStep old new step

abbrev pub TakesCommand : Scan → Scan → Option Command → Type 0
TakesCommand old new command = TakesItem command_lexemes IsCommand old new command

-- ---- reading an item. No public contract depends on what follows

-- these tokens, then the others; or the first fault
abbrev pub all_added : List Token → Result (List Token) ScriptFault → Result (List Token) ScriptFault
all_added [] r = r
all_added (t ∷ ts) r = added t (all_added ts r)

abbrev pub preceded : List (List ℕ) → Result (List (List ℕ)) ScriptFault → Result (List (List ℕ)) ScriptFault
preceded lexemes (Ok rest) = Ok (lexemes ++ rest)
preceded lexemes (Err e) = Err e

-- no list of tokens is left
abbrev pub HasNoTokens : Scan → Type 0
HasNoTokens s = (tokens : List Token) → tokens_left s ≡ Ok tokens → ⊥

-- these tokens come first, and the others are left; there are `count`, or fewer and no other is left
pub record TakesUpTo (count : ℕ) (old new : Scan) (tokens : List Token) : Type 0 where
  pub text : new.text ≡ old.text
  pub left : tokens_left old ≡ all_added tokens (tokens_left new)
  pub within : AreWithin (length old.text) tokens
  pub most : length tokens ≤ count
  pub all : (length tokens ≡ count) ⊎ (tokens_left new ≡ Ok [])
  pub bytes : bytes_left new ≤ bytes_left old

abbrev pub TakesTokens : ℕ → Scan → Scan → (before after : List Token) → Result (Unit {0}) ScriptFault → Type 0
TakesTokens count old new before after (Ok done) = (tokens : List Token) × (after ≡ before ++ tokens)
    × TakesUpTo count old new tokens
TakesTokens count old new before after (Err e) = (e ≢ Memory) × HasNoTokens old

-- the tokens begin with the item; or they begin with none, and this is the fault of the first that is wrong
abbrev pub ReadsItem : {T : Type 0} → (T → List (List ℕ)) → (T → Type 0) → List ℕ → List Token → Result T ScriptFault
    → Type 0
ReadsItem {T} spelled IsItem text tokens (Ok item) = IsItem item
    × ((rest : List (List ℕ)) × (lexemes_of text tokens ≡ spelled item ++ rest))
ReadsItem {T} spelled IsItem text tokens (Err e) =
    (e ≢ Memory) × ((item : T) (rest : List (List ℕ)) → IsItem item → lexemes_of text tokens ≢ spelled item ++ rest)
    × ((wrong : Wrong) × IsWrongItem spelled IsItem (lexemes_of text tokens) wrong × (e ≡ fault_at text tokens wrong))

-- these are the tokens of the item, and the others are left
pub record PassesItem {T : Type 0} (spelled : T → List (List ℕ)) (old new : Scan) (item : T) : Type 0 where
  pub tokens : List Token
  pub lexemes : lexemes_of old.text tokens ≡ spelled item
  pub left : tokens_left old ≡ all_added tokens (tokens_left new)
  pub text : new.text ≡ old.text

-- where tokens are left, and none is refused, this is their fault
abbrev pub HasFaultLeft : {T : Type 0} → (T → List (List ℕ)) → (T → Type 0) → Scan → ScriptFault → Type 0
HasFaultLeft {T} spelled IsItem s e = (tokens : List Token) → tokens_left s ≡ Ok tokens
    → HasItemFault spelled IsItem s.text tokens (reported_fault e)

-- the next item, if no token is at fault; none at the end of the text; or the fault of a text that lists no items
abbrev pub FindsItem : {T : Type 0} → (T → List (List ℕ)) → (T → Type 0) → Scan → Scan → Result (Option T) ScriptFault
    → Type 0
FindsItem {T} spelled IsItem old new (Ok None) = (lexemes_left old ≡ Ok []) × (new ≡ old)
FindsItem {T} spelled IsItem old new (Ok (Some item)) =
    IsItem item × (lexemes_left old ≡ preceded (spelled item) (lexemes_left new)) × (bytes_left new < bytes_left old)
    × (bytes_left old < 18446744073709551616) × PassesItem spelled old new item
FindsItem {T} spelled IsItem old new (Err e) = (e ≢ Memory) × ((items : List T) → Lists spelled IsItem old items → ⊥)
    × HasFaultLeft spelled IsItem old e
