-- The lines of a live run as one event file: it lists the steps of the lines that list any.
use Rattle.std.specs.Prelude.{◌≡◌, ◌⊎◌, ℕ, ◌≤◌, List, [], ◌∷◌, ◌++◌, length, Some, IfSome, Ok}
use Rattle.console.specs.Lines.{AreLinesOf, lines_of, GivesLines, with_feeds}
use Rattle.plan_player.specs.Playing.{Playing}
use Rattle.plan_player.specs.Delivery.{frames_of}
use Rattle.plan_session.specs.declared.step.Step.{Step}
use Rattle.plan_session.specs.Events.{Holds, events_of}
use Rattle.plan_session.specs.Playback.{Request, Begins, IsPlayback, Delivers}
use Rattle.plan_live.specs.Lines.{LineHolds, ListsNone}
use Rattle.plan_live.specs.Living.{Streamed, Whole}

-- ---- the lines that list steps

-- these are those of the lines that list steps, in order
abbrev pub AreListing : (lines listing : List (List ℕ)) → Type 0
AreListing [] listing = listing ≡ []
AreListing (line ∷ lines) listing =
    ((steps : List Step) × (others : List (List ℕ)) × LineHolds line steps × (listing ≡ line ∷ others)
    × AreListing lines others)
    ⊎ (ListsNone line × AreListing lines listing)

-- each of the lines lists steps, and these are the steps of all, one after another
abbrev pub ListInTurn : List (List ℕ) → List Step → Type 0
ListInTurn [] steps = steps ≡ []
ListInTurn (line ∷ lines) steps = (first : List Step) × (rest : List Step) × LineHolds line first
    × (steps ≡ first ++ rest) × ListInTurn lines rest

-- ---- one event file

-- a text that fits into memory has at most 2^64 - 1 bytes
abbrev pub FitsIntoMemory : List ℕ → Type 0
FitsIntoMemory text = length text ≤ 18446744073709551615

-- a text lists the steps that its lines list, one after another, if each of them lists some; its last line may end
-- without a line feed
abbrev pub LinesListInTurn : Type 0
LinesListInTurn = (lines : List (List ℕ)) (steps : List Step) (text : List ℕ) → ListInTurn lines steps
    → AreLinesOf text lines → FitsIntoMemory text → Holds text steps

-- ---- the run over the lines, and over the event file

-- the request with this text in place of its own
abbrev pub over : List ℕ → Request → Request
over text r = record r { text = text }

-- the lines were read, and these are the steps of those that list any. Every event file with just these lines lists
-- these steps, and what was written is what its playback writes: all frames, from the same start
pub record IsPlayedAs (r : Request) (p : Playing) (old new : Streamed) : Type 0 where
  pub lines : List (List ℕ)
  pub listing : List (List ℕ)
  pub steps : List Step
  pub given : GivesLines old.left lines new.left
  pub those : AreListing lines listing
  pub in_turn : ListInTurn listing steps
  pub playback : (text : List ℕ) → AreLinesOf text listing → FitsIntoMemory text → IsPlayback (over text r) p steps
  pub delivers : Delivers p (events_of steps) old.written new.written (Ok (length (frames_of p (events_of steps))))
  -- where the input is known, there is such a file: each of the lines, followed by a line feed
  pub file : IfSome old.left (λ input. AreLinesOf (with_feeds listing) listing)

-- a live run to the end of its input that skips nothing is the playback of one event file
abbrev pub LiveIsPlayback : Type 0
LiveIsPlayback = (r : Request) (p : Playing) (old new : Streamed) → Begins r p → Whole 0 p old new
    → IsPlayedAs r p old new

-- where each line of the input lists steps, the input is that event file
abbrev pub InputIsPlayback : Type 0
InputIsPlayback = (r : Request) (p : Playing) (old new : Streamed) (input : List ℕ) (steps : List Step) → Begins r p
    → Whole 0 p old new
    → old.left ≡ Some input → ListInTurn (lines_of input) steps → FitsIntoMemory input
    → IsPlayback (over input r) p steps × Delivers p (events_of steps) old.written new.written
    (Ok (length (frames_of p (events_of steps))))
