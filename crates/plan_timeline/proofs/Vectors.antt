-- The frames of a run: for each definition, an example that holds and one that fails.
use Rattle.plan_timeline.proofs.Words.{[], ◌∷◌, ◌≡◌, ContactChanges, Frame, HasTooMany, ListsSteps, Position, Scan}
use Rattle.plan_timeline.proofs.Words.{arith, frame_count, frames_in_all, refl, true}

counts_frames : frame_count (Frame ∷ ContactChanges 3 true ∷ Frame ∷ []) ≡ 2
counts_frames = refl

counts_no_contacts : frame_count (ContactChanges 3 true ∷ []) ≡ 1 → ⊥
counts_no_contacts e = omega (arith, e)

-- the last frame with a number is the one before the next, and one is left
abbrev at_the_last : Position
at_the_last = record { frame = 18446744073709551615; left = 1 }

one_too_many : (s : Scan) → HasTooMany at_the_last s
one_too_many s = λ all lists. omega arith

abbrev early : Position
early = record { frame = 7; left = 3 }

ten_in_all : frames_in_all early [] ≡ 10
ten_in_all = refl

ten_are_not_too_many : (s : Scan) → ListsSteps s [] → HasTooMany early s → ⊥
ten_are_not_too_many s lists h = let over = h [] lists in omega (arith, over)
