-- The fault of a text that is cut into tokens but lists no items: it is at the first token with which no list of items
-- can go on, or at the end of the text.
use Rattle.std.specs.Prelude.{◌≡◌, ◌≢◌, ◌⊎◌, ℕ, ◌≤◌, ◌<◌, Bool, true, false, List, [], ◌∷◌, ◌++◌, length, flat_map}
use Rattle.std.specs.Prelude.{codes, slice_range, Ok, Option, None, Some}
use Rattle.std.specs.List.{AllByRecursion, slice_get}
use Rattle.std.specs.Str.{all_ascii_digits}
use Rattle.std.specs.Fmt.{decimal}
use Rattle.script_tokens.specs.declared.fault.Position.{Position}
use Rattle.script_tokens.specs.declared.fault.ScriptFault.{ScriptFault}
use Rattle.script_tokens.specs.declared.fault.ScriptFault.TheVariants.{Number as NumberInText}
use Rattle.script_tokens.specs.declared.fault.ScriptFault.TheVariants.{Expected as ExpectedInText}
use Rattle.script_tokens.specs.declared.token.Token.{Token}
use Rattle.script_tokens.specs.Bytes.{first_position, position_past}
use Rattle.script_tokens.specs.Reading.{lexemes_of}
use Rattle.script_tokens.specs.Spelling.{level_text}
use Rattle.plan_session.specs.declared.event_fault.EventFault.{EventFault}
use Rattle.plan_session.specs.declared.event_fault.EventFault.TheVariants.{Byte, Number, Expected, Memory}
use Rattle.plan_session.specs.declared.item_fault.Wrong.{Wrong}
use Rattle.plan_session.specs.Commands.{IsCommand, command_lexemes}
use Rattle.plan_session.specs.Events.{IsStep, step_lexemes}
use Rattle.plan_session.specs.Items.{HoldsItems}
use Rattle.plan_session.specs.FirstFaults.{cut_of, ReportsFirstFault}

-- ---- tokens with which a list of items begins

-- some list of items, each in its ranges, begins with these tokens
pub record Begins {T : Type 0} (spelled : T → List (List ℕ)) (IsItem : T → Type 0) (front : List (List ℕ)) : Type
    0 where
  pub items : List T
  pub more : List (List ℕ)
  pub in_range : AllByRecursion IsItem items
  pub whole : flat_map spelled items ≡ front ++ more

pub record IsDigits (word : List ℕ) : Type 0 where
  pub some : 0 < length word
  pub digits : all_ascii_digits word ≡ true

-- a list of items can go on with a number after these tokens
pub record WantsNumber {T : Type 0} (spelled : T → List (List ℕ)) (IsItem : T → Type 0) (front : List (List ℕ)) : Type
    0 where
  pub number : List ℕ
  pub digits : IsDigits number
  pub begins : Begins spelled IsItem (front ++ number ∷ [])

abbrev pub IsBrace : List ℕ → Type 0
IsBrace word = (word ≡ codes "{") ⊎ (word ≡ codes "}")

-- ---- the fault

-- the position just past a text
abbrev pub end_position : List ℕ → Position
end_position text = (position_past first_position text).position

abbrev pub word_at : List ℕ → Token → List ℕ
word_at text t = slice_range text t.start t.end

-- after these tokens of a text the next is at fault: no list of items goes on with it. It is an atom in the place of
-- a number; or it is no atom, or no number can come in its place. Or the text ends there, within a list of items
abbrev pub IsFaultAfter : {T : Type 0} → (T → List (List ℕ)) → (T → Type 0) → (text : List ℕ) → (front : List (List ℕ))
    → (rest : List Token) → EventFault → Type 0
IsFaultAfter {T} spelled IsItem text front [] (Expected position) =
    (position ≡ end_position text) × ((items : List T) → AllByRecursion IsItem items → front ≢ flat_map spelled items)
IsFaultAfter {T} spelled IsItem text front [] (Number position) = ⊥
IsFaultAfter {T} spelled IsItem text front [] (Byte position) = ⊥
IsFaultAfter {T} spelled IsItem text front [] Memory = ⊥
IsFaultAfter {T} spelled IsItem text front (t ∷ ts) (Number position) =
    (position ≡ t.position) × (Begins spelled IsItem (front ++ word_at text t ∷ []) → ⊥)
    × WantsNumber spelled IsItem front × (IsBrace (word_at text t) → ⊥)
IsFaultAfter {T} spelled IsItem text front (t ∷ ts) (Expected position) =
    (position ≡ t.position) × (Begins spelled IsItem (front ++ word_at text t ∷ []) → ⊥)
    × (WantsNumber spelled IsItem front → IsBrace (word_at text t))
IsFaultAfter {T} spelled IsItem text front (t ∷ ts) (Byte position) = ⊥
IsFaultAfter {T} spelled IsItem text front (t ∷ ts) Memory = ⊥

-- the fault of these tokens of a text: a list of items begins with those before it
pub record HasItemFault {T : Type 0} (spelled : T → List (List ℕ)) (IsItem : T → Type 0) (text : List ℕ)
    (tokens : List Token) (fault : EventFault) : Type 0 where
  pub front : List Token
  pub rest : List Token
  pub whole : tokens ≡ front ++ rest
  pub begins : Begins spelled IsItem (lexemes_of text front)
  pub fault_is : IsFaultAfter spelled IsItem text (lexemes_of text front) rest fault

-- where the text is cut into tokens, this is their fault
abbrev pub ReportsItemFault : {T : Type 0} → (T → List (List ℕ)) → (T → Type 0) → List ℕ → EventFault → Type 0
ReportsItemFault {T} spelled IsItem text fault = (tokens : List Token) → cut_of text ≡ Ok tokens
    → HasItemFault spelled IsItem text tokens fault

-- the same of event files and of command files
abbrev pub ReportsStepFault : List ℕ → EventFault → Type 0
ReportsStepFault text fault = ReportsItemFault step_lexemes IsStep text fault

abbrev pub ReportsCommandFault : List ℕ → EventFault → Type 0
ReportsCommandFault text fault = ReportsItemFault command_lexemes IsCommand text fault

-- ---- laws

-- a text has at most one fault, and lists no items then
pub record HasOneItemFault {T : Type 0} (spelled : T → List (List ℕ)) (IsItem : T → Type 0) : Type 0 where
  pub one : (text : List ℕ) (e f : EventFault) → ReportsFirstFault text e → ReportsItemFault spelled IsItem text e
      → ReportsFirstFault text f → ReportsItemFault spelled IsItem text f → e ≡ f
  pub none : (text : List ℕ) (e : EventFault) (items : List T) → ReportsItemFault spelled IsItem text e
      → HoldsItems spelled IsItem text items → ⊥

abbrev pub EventFilesHaveOneFault : Type 0
EventFilesHaveOneFault = HasOneItemFault step_lexemes IsStep

abbrev pub CommandFilesHaveOneFault : Type 0
CommandFilesHaveOneFault = HasOneItemFault command_lexemes IsCommand

-- ---- reading an item. No public contract depends on what follows

-- an item begins with these tokens
abbrev pub BeginsItem : {T : Type 0} → (T → List (List ℕ)) → (T → Type 0) → List (List ℕ) → Type 0
BeginsItem {T} spelled IsItem front = (item : T) × (more : List (List ℕ)) × IsItem item × (spelled item ≡ front ++ more)

-- whether the next token is an atom
abbrev pub IsAtomNext : List (List ℕ) → Bool → Type 0
IsAtomNext [] is = is ≡ false
IsAtomNext (w ∷ ws) true = IsBrace w → ⊥
IsAtomNext (w ∷ ws) false = IsBrace w

-- what the token is where no item goes on with it: an atom in the place of a number, or not
abbrev pub IsNumberFault : {T : Type 0} → (T → List (List ℕ)) → (T → Type 0) → List (List ℕ) → List ℕ → Bool → Type 0
IsNumberFault {T} spelled IsItem front w true =
    ((number : List ℕ) × IsDigits number × BeginsItem spelled IsItem (front ++ number ∷ [])) × (IsBrace w → ⊥)
IsNumberFault {T} spelled IsItem front w false = (number : List ℕ) → IsDigits number
    → BeginsItem spelled IsItem (front ++ number ∷ []) → IsBrace w

abbrev pub IsWrongAfter : {T : Type 0} → (T → List (List ℕ)) → (T → Type 0) → (front rest : List (List ℕ)) → Bool
    → Type 0
IsWrongAfter {T} spelled IsItem front [] is_number = is_number ≡ false
IsWrongAfter {T} spelled IsItem front (w ∷ ws) is_number =
    (BeginsItem spelled IsItem (front ++ w ∷ []) → ⊥) × IsNumberFault spelled IsItem front w is_number

-- of these tokens an item begins with those before the wrong one, and goes on after them, but not so
pub record IsWrongItem {T : Type 0} (spelled : T → List (List ℕ)) (IsItem : T → Type 0) (words : List (List ℕ))
    (wrong : Wrong) : Type 0 where
  pub front : List (List ℕ)
  pub rest : List (List ℕ)
  pub whole : words ≡ front ++ rest
  pub index : wrong.index ≡ length front
  pub item : T
  pub is : IsItem item
  pub next : List ℕ
  pub more : List (List ℕ)
  pub begins : spelled item ≡ front ++ next ∷ more
  pub after : IsWrongAfter spelled IsItem front rest wrong.is_number

-- the second token is no number from `low` to `high`
pub record IsNoNumber (low high : ℕ) (words : List (List ℕ)) (wrong : Wrong) : Type 0 where
  pub index : wrong.index ≡ 1
  pub atom : IsAtomNext words wrong.is_number
  pub none : (n : ℕ) (rest : List (List ℕ)) → low ≤ n → n ≤ high → n < 1000000000 → words ≢ decimal n ∷ rest

-- the second token is a contact, and the third no level
pub record IsNoLevel (words : List (List ℕ)) (wrong : Wrong) : Type 0 where
  pub contact : ℕ
  pub rest : List (List ℕ)
  pub low : contact < 16
  pub whole : words ≡ decimal contact ∷ rest
  pub index : wrong.index ≡ 2
  pub name : wrong.is_number ≡ false
  pub none : (closed : Bool) (others : List (List ℕ)) → rest ≢ level_text closed ∷ others

abbrev pub IsNoChange : List (List ℕ) → Wrong → Type 0
IsNoChange words wrong = IsNoNumber 0 15 words wrong ⊎ IsNoLevel words wrong

-- the position of the token of this index, or the end of the text
abbrev pub position_or_end : List ℕ → Option Token → Position
position_or_end text None = end_position text
position_or_end text (Some t) = t.position

abbrev pub named_fault : Bool → Position → ScriptFault
named_fault true position = NumberInText position
named_fault false position = ExpectedInText position

abbrev pub fault_at : List ℕ → List Token → Wrong → ScriptFault
fault_at text tokens wrong = named_fault wrong.is_number (position_or_end text (slice_get tokens wrong.index))
