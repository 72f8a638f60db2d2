-- What the success of the other commands means, from what their steps leave.
use Rattle.cli_scripts.proofs.Words.{◌≡◌, Consumes, Consumes-whole, Diffs, Done, Faulty, FrameScriptRequest}
use Rattle.cli_scripts.proofs.Words.{FramesScript, GivesFrame, HasPlan, HasScript, HasScriptOpening, HearsNamed, IfOk}
use Rattle.cli_scripts.proofs.Words.{IfSome, IsAtEnd, IsReadOf, Keeps, List, ListenScriptRequest, Misused, Named, None}
use Rattle.cli_scripts.proofs.Words.{Ok, Opening, Opens, Option, Refused, Result, Some, TellsScript, count_of, subst}
use Rattle.cli_scripts.proofs.Words.{true, ℕ, ◌≤◌, Plan, inl, inr, length}
use Rattle.script_config.specs.Openings.{BeginsWith}
use Rattle.script_front.specs.declared.tree.Item.{Item}
use Rattle.script_tokens.specs.Texts.{MOST_BYTES}
use Rattle.console.specs.declared.exit.Status.{Status}
use Rattle.cli_scripts.proofs.ReadTexts.{whole_of}

-- what is so of a value that is there
pub of_ok : {A E : Type 0} (given : Result A E) (a : A) (P : A → Type 0) → given ≡ Ok a → IfOk given P → P a
of_ok {A = A} {E = E} given a P is h = subst (λ (r : Result A E). IfOk r P) is h

-- a text that begins with items is short
short_beginning : {text : List ℕ} {header : Plan} {items : List Item} {line : ℕ} → BeginsWith text header items line
    → length text ≤ MOST_BYTES
short_beginning (inl script) = script.denotes.short
short_beginning (inr schedule) = schedule.denotes.short

-- ---- `diff`

pub has_opening : (bytes text : List ℕ) (o : Opening) → IsReadOf bytes text → Opens text o → HasScriptOpening bytes o
has_opening bytes text o r h =
    let e : text ≡ bytes = whole_of bytes text r (short_beginning h.begins) in
    subst (λ (t : List ℕ). HasScriptOpening t o) e (record { utf8 = r.utf8; opens = h })

-- what holds of bytes that stayed known
kept_known : (to kept : Option (List ℕ)) (P : List ℕ → Type 0) → Keeps to kept → IfSome kept P → IfSome to P
kept_known None kept P k h = tt
kept_known (Some t) None P k h = absurd k
kept_known (Some t) (Some s) P k h = subst P k h

diffs_both : (from to : List ℕ) (a b : Opening) (Prints : List ℕ → Type 0) (status : Status)
    → HasScriptOpening from a → HasScriptOpening to b → HasPlan a b Prints status → Diffs from to Prints status
diffs_both from to a b Prints Done p q plan = (a, b, p, q, plan)
diffs_both from to a b Prints Refused p q plan = tt
diffs_both from to a b Prints Misused p q plan = absurd plan
diffs_both from to a b Prints Faulty p q plan = absurd plan

pub diffs : (from to kept : Option (List ℕ)) (a b : Opening) (Prints : List ℕ → Type 0) (status : Status)
    → IfSome from (λ f. HasScriptOpening f a) → Keeps to kept → IfSome kept (λ t. HasScriptOpening t b)
    → HasPlan a b Prints status
    → IfSome from (λ f. IfSome to (λ t. Diffs f t Prints status))
diffs from to kept a b Prints status p k q plan = both from to p (kept_known to kept (λ t. HasScriptOpening t b) k q)
  where
    both : (from to : Option (List ℕ)) → IfSome from (λ f. HasScriptOpening f a) → IfSome to (λ t. HasScriptOpening t b)
        → IfSome from (λ f. IfSome to (λ t. Diffs f t Prints status))
    both None to p q = tt
    both (Some f) None p q = tt
    both (Some f) (Some t) p q = diffs_both f t a b Prints status p q plan

-- ---- `frame --script`

pub frames : (bytes text : List ℕ) (request : FrameScriptRequest) (count : ℕ) (frame : List ℕ)
    (Prints : List ℕ → Type 0) → IsReadOf bytes text
    → count ≡ count_of request → GivesFrame text count request.page (Ok frame) → (request.raw ≡ true → Prints frame)
    → FramesScript bytes request Prints Done
frames bytes text request count frame Prints r same h printed =
    let here : GivesFrame text (count_of request) request.page (Ok frame) =
    subst (λ (n : ℕ). GivesFrame text n request.page (Ok frame)) same h in
    let e : text ≡ bytes = whole_of bytes text r (short_beginning here.3) in
    (frame, subst (λ (t : List ℕ). GivesFrame t (count_of request) request.page (Ok frame)) e here, printed)

-- ---- `listen --script`

pub tells : (stream : List ℕ) (request : ListenScriptRequest) (named : Named) (Prints : List ℕ → Type 0)
    (status : Status)
    → HearsNamed stream (Ok named) → HasScript request named Prints status → TellsScript stream request Prints status
tells stream request named Prints Done hears script = (named, hears, script)
tells stream request named Prints Refused hears script = tt
tells stream request named Prints Misused hears script = absurd script
tells stream request named Prints Faulty hears script = absurd script

-- the stream that was decoded is the whole file
pub told : (known left after : Option (List ℕ)) (stream : List ℕ) (request : ListenScriptRequest) (named : Named)
    (Prints : List ℕ → Type 0) (status : Status)
    → Keeps known left → Consumes left after stream → IsAtEnd after → HearsNamed stream (Ok named)
    → HasScript request named Prints status
    → IfSome known (λ s. TellsScript s request Prints status)
told known left after stream request named Prints status kept consumed end hears script =
    kept_known known left (λ s. TellsScript s request Prints status) kept
    (Consumes-whole left after stream (λ s. TellsScript s request Prints status) consumed end
    (tells stream request named Prints status hears script))
