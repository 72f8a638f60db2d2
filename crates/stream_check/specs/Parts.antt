-- The number of parts into which the frames of a notice can be cut, each with all that is wanted.
use Rattle.std.specs.Prelude.{ℕ, ◌+◌, ◌==◌, Bool, if◌then◌else◌, List, [], ◌∷◌, ◌++◌}
use Rattle.std.specs.List.{list_any, list_all, concat}
use Rattle.stream_check.specs.Cutting.{IsMostParts}

abbrev pub contains : List ℕ → ℕ → Bool
contains xs x = list_any (λ y. y == x) xs

abbrev pub has_all : List ℕ → List (List ℕ) → Bool
has_all wanted frames = list_all (contains (concat frames)) wanted

-- each part ends as soon as it contains all that is wanted
abbrev pub parts_from : List ℕ → List (List ℕ) → List (List ℕ) → ℕ
parts_from wanted part [] = 0
parts_from wanted part (frame ∷ frames) =
    if has_all wanted (part ++ frame ∷ []) then parts_from wanted [] frames
    + 1 else parts_from wanted (part ++ frame ∷ []) frames

abbrev pub most_parts : List ℕ → List (List ℕ) → ℕ
most_parts wanted frames = parts_from wanted [] frames

-- this is the maximum number of parts
abbrev pub IsTheMost : Type 0
IsTheMost = (wanted : List ℕ) (frames : List (List ℕ)) → IsMostParts wanted (most_parts wanted frames) frames
