-- The text of an event file: its tokens spell the steps, one after another.
use Rattle.std.specs.Prelude.{ℕ, ◌<◌, ◌≤◌, Bool, true, false, List, [], ◌∷◌, flat_map, replicate, codes}
use Rattle.std.specs.Fmt.{decimal}
use Rattle.plan_runs.specs.declared.event.Event.{Event}
use Rattle.plan_runs.specs.declared.event.Event.TheVariants.{Contact as ContactChanges, Frame}
use Rattle.plan_code.specs.declared.limits.TheConstants.{FRAMES_A_DAY}
use Rattle.script_tokens.specs.Spelling.{level_text}
use Rattle.plan_session.specs.declared.step.Step.{Step}
use Rattle.plan_session.specs.declared.step.Step.TheVariants.{Contact, Frames}
use Rattle.plan_session.specs.Items.{HoldsItems, HoldsOneListOf}

-- ---- steps

abbrev pub IsStep : Step → Type 0
IsStep (Contact c closed) = c < 16
IsStep (Frames n) = (1 ≤ n) × (n ≤ FRAMES_A_DAY)

-- the tokens that spell a step
abbrev pub first_lexeme : Bool → List ℕ
first_lexeme true = codes "frames"
first_lexeme false = codes "contact"

abbrev pub step_lexemes : Step → List (List ℕ)
step_lexemes (Contact c closed) = codes "contact" ∷ decimal c ∷ level_text closed ∷ []
step_lexemes (Frames n) = codes "frames" ∷ decimal n ∷ []

-- ---- texts

-- the text lists these steps
abbrev pub Holds : List ℕ → List Step → Type 0
Holds text steps = HoldsItems step_lexemes IsStep text steps

-- a text has at most one list of steps
abbrev pub HoldsOneList : Type 0
HoldsOneList = HoldsOneListOf step_lexemes IsStep

-- ---- events

-- the events of a step: one contact change, or this many frames
abbrev pub events_of_step : Step → List Event
events_of_step (Contact c closed) = ContactChanges c closed ∷ []
events_of_step (Frames n) = replicate n Frame

abbrev pub events_of : List Step → List Event
events_of steps = flat_map events_of_step steps
