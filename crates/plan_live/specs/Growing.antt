-- A list that grows, if it is known.
use Rattle.std.specs.Prelude.{◌≡◌, List, ◌++◌, Option, None, Some}

-- if the list is known, these were appended to it
abbrev pub Grows : {A : Type 0} → Option (List A) → Option (List A) → List A → Type 0
Grows None new more = Unit {0}
Grows (Some old) None more = ⊥
Grows (Some old) (Some new) more = new ≡ old ++ more
