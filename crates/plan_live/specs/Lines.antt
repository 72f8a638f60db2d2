-- The steps of the lines of a live run.
use Rattle.std.specs.Prelude.{◌≡◌, ◌⊎◌, ℕ, ◌≤◌, List, [], ◌∷◌, ◌++◌, length}
use Rattle.std.specs.Str.{IsUtf8}
use Rattle.plan_session.specs.declared.step.Step.{Step}
use Rattle.plan_session.specs.Events.{Holds}

-- a line lists these steps: it is short enough, it is text, and as an event file it lists them
pub record LineHolds (line : List ℕ) (steps : List Step) : Type 0 where
  pub short : length line ≤ 65536
  pub text : IsUtf8 line
  pub holds : Holds line steps

abbrev pub ListsNone : List ℕ → Type 0
ListsNone line = (steps : List Step) → LineHolds line steps → ⊥

-- a line has these steps: it lists them; or it lists none, and does nothing
abbrev pub LineDoes : List ℕ → List Step → Type 0
LineDoes line steps = LineHolds line steps ⊎ (ListsNone line × (steps ≡ []))

-- the lines have these steps, one after another
abbrev pub LinesDo : List (List ℕ) → List Step → Type 0
LinesDo [] steps = steps ≡ []
LinesDo (line ∷ lines) steps =
    (first : List Step) × (rest : List Step) × (steps ≡ first ++ rest) × LineDoes line first × LinesDo lines rest
