-- How alternatives are kept in 8 slots: the free ones hold the first alternative again, so that equal alternatives are
-- kept alike.
use Rattle.std.specs.Prelude.{ℕ, ◌-◌, List, [], ◌∷◌, ◌++◌, length, replicate}
use Rattle.script_front.specs.declared.alternatives.Alternative.{Alternative}

abbrev pub in_slots : List Alternative → List Alternative
in_slots [] = []
in_slots (first ∷ others) = (first ∷ others) ++ replicate (8 - length (first ∷ others)) first
