-- A text is not both a script and a schedule.
use Rattle.schedule_front.proofs.Words.{◌∙◌, ◌≡◌, AreTokens, Input, Item, List, None, Plan, Some, Token, ap, drop}
use Rattle.schedule_front.proofs.Words.{false, header_at, is_next, items_at, next_begins, not_after, other_next}
use Rattle.schedule_front.proofs.Words.{refl, sym, true, ℕ}
use Rattle.script_tokens.specs.declared.keyword.Keyword.TheVariants as the
use Rattle.script_tokens.specs.Reading.{after}
use Rattle.script_front.specs.Parsing.{ReadsItems}
use Rattle.script_front.specs.BlockReader.{definitions_at, script_at}
use Rattle.script_front.proofs.Denoting.{are_tokens as are_script_tokens}
use Rattle.schedule_front.specs.Readers.{schedule_at}
use Rattle.schedule_front.specs.Sources.{IsNoSource}
use Rattle.schedule_front.proofs.Denoting.{are_tokens}

-- where `schedule` follows the items, no script is read
pub no_script : (i j k : Input) (h : Plan) (is : List Item) (left : ℕ) → header_at i.lexemes ≡ Some (h, j.lexemes)
    → j.lines ≡ i.lines → ReadsItems is 8192 left j k → is_next the.Schedule k.lexemes ≡ true → script_at i ≡ None
unfolding script_at definitions_at
no_script i j k h is left e same m next =
    let begins = next_begins the.Schedule k.lexemes next in
    let define : is_next the.Define k.lexemes ≡ false =
    ap (is_next the.Define) begins ∙ other_next the.Schedule the.Define (drop 1 k.lexemes) (λ g. cc) in
    let begin : after the.Begin k.lexemes ≡ None =
    ap (after the.Begin) begins ∙ not_after the.Schedule the.Begin (drop 1 k.lexemes) (λ g. cc) in
    let items = ap (λ (ls : List ℕ). items_at 8192 ls j.lexemes) (sym same) ∙ m.read in
    rw (e, items, define, begin) refl

-- where another token follows them, no schedule is read
pub no_schedule : (i j k : Input) (h : Plan) (is : List Item) (left : ℕ) → header_at i.lexemes ≡ Some (h, j.lexemes)
    → j.lines ≡ i.lines → ReadsItems is 8192 left j k → is_next the.Schedule k.lexemes ≡ false → schedule_at i ≡ None
unfolding schedule_at after
no_schedule i j k h is left e same m next =
    let items = ap (λ (ls : List ℕ). items_at 8192 ls j.lexemes) (sym same) ∙ m.read in rw (e, items, next) refl

pub no_items : (i j : Input) (h : Plan) → header_at i.lexemes ≡ Some (h, j.lexemes) → j.lines ≡ i.lines
    → items_at 8192 j.lines j.lexemes ≡ None → schedule_at i ≡ None
unfolding schedule_at
no_items i j h e same none =
    let items = ap (λ (ls : List ℕ). items_at 8192 ls j.lexemes) (sym same) ∙ none in rw (e, items) refl

pub no_header : (i : Input) → header_at i.lexemes ≡ None → schedule_at i ≡ None
unfolding schedule_at
no_header i none = rw (none) refl

-- a text without tokens is neither
pub no_tokens : (text : List ℕ) → ((tokens : List Token) → AreTokens text tokens → ⊥) → IsNoSource text
no_tokens text none = (λ t is s. none _ (are_script_tokens text t s), λ t is s. none _ (are_tokens text t s))
