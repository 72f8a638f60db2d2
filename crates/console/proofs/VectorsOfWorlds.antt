-- The relations of worlds in small cases, computed by the checker from the definitions: examples that hold and that
-- fail.
use Rattle.std.proofs.Common.{◌≡◌, ℕ, List, [], ◌∷◌, Option, None, Some, refl}
use Rattle.console.specs.World.{World, Exists, IsSame, IsSameBut, HasWritten, HasTouched, Stays}

-- no file, or one of the empty path
abbrev none : List ℕ → Option (List ℕ)
none path = None

abbrev one : List ℕ → Option (List ℕ)
one [] = Some (7 ∷ [])
one (b ∷ bs) = None

abbrev before : World
before = record { files = none }

abbrev after : World
after = record { files = one }

others_same : IsSameBut [] before after
others_same [] not = absurd (not refl)
others_same (b ∷ bs) not = refl

others_differ : IsSameBut (1 ∷ []) before after → ⊥
others_differ h = absurd (let same : Some (7 ∷ []) ≡ None = h [] (λ e. absurd (let none : [] ≡ 1 ∷ [] = e in cc)) in cc)

-- ---- a path with a file, and one without

a_file : Exists (after.files [])
a_file = tt

no_file : Exists (before.files []) → ⊥
no_file h = h

-- ---- a file that is written

written : HasWritten [] (7 ∷ []) before after
written = record { written = refl; others = others_same }

other_bytes : HasWritten [] [] before after → ⊥
other_bytes h = absurd (let same : Some (7 ∷ []) ≡ Some [] = h.written in cc)

not_as_it_was : IsSame before after → ⊥
not_as_it_was h = absurd (let same : Some (7 ∷ []) ≡ None = h [] in cc)

as_it_was : IsSame before before
as_it_was = λ path. refl

-- ---- a file that is touched

kept : HasTouched [] after after
kept = record { exists = refl; others = λ other not. refl }

not_filled : HasTouched [] before after → ⊥
not_filled h = absurd (let same : Some (7 ∷ []) ≡ Some [] = h.exists in cc)

-- ---- unknown worlds

of_unknown_nothing_is_claimed : Stays None (Some after)
of_unknown_nothing_is_claimed = tt

what_is_known_stays_known : Stays (Some before) None → ⊥
what_is_known_stays_known h = h
