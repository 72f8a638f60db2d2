-- The terms of merging in small cases, computed by the checker from the definitions: examples that hold and that fail.
use Rattle.cli_streams.proofs.Words.{[], ◌∷◌, ◌≡◌, AreTwo, Done, Fill, IsTaken, List, None, Some, Take, TakesFrames}
use Rattle.cli_streams.proofs.Words.{arith, bytes_of, calls_of, codes, false, known_at, next_of, nothing_taken, refl}
use Rattle.cli_streams.proofs.Words.{summary_of, true, ℕ}

-- ---- frames and calls

abbrev a : List ℕ
a = 1 ∷ []

abbrev b : List ℕ
b = 2 ∷ []

abbrev c : List ℕ
c = 3 ∷ []

first_is_next : next_of ((a ∷ []) ∷ (b ∷ []) ∷ []) ≡ a ∷ []
first_is_next = refl

-- a frame of the multiplexer for each of the plan's
one_for_each : calls_of ((a ∷ []) ∷ (b ∷ []) ∷ []) ((c ∷ []) ∷ []) ≡ Take c ∷ Fill a ∷ Fill b ∷ []
one_for_each = refl

bytes_in_order : bytes_of ((a ∷ b ∷ []) ∷ (c ∷ []) ∷ []) ≡ 1 ∷ 2 ∷ 3 ∷ []
bytes_in_order = refl

-- ---- the multiplexer's frames

at_its_end : IsTaken false Done 2 1 [] (Some [])
at_its_end = (omega arith, refl, refl)

before_its_end : IsTaken false Done 2 1 [] (Some (7 ∷ [])) → ⊥
before_its_end h = absurd (let none : 7 ∷ [] ≡ [] = h.2 in cc)

two_bytes_each : TakesFrames 2 (Some (1 ∷ 2 ∷ 3 ∷ 4 ∷ [])) (Some (3 ∷ 4 ∷ [])) true Done 1 ((1 ∷ 2 ∷ []) ∷ [])
two_bytes_each = record { cut = []; whole = (refl, tt); bytes = refl; ends = (refl, refl) }

not_three_bytes : TakesFrames 3 (Some (1 ∷ 2 ∷ [])) (Some []) true Done 1 ((1 ∷ 2 ∷ []) ∷ []) → ⊥
not_three_bytes h = (let long : 2 ≡ 3 = h.whole.0 in omega (arith, long))

-- ---- what is reported

nothing_merged : summary_of 3 nothing_taken ≡ record {
  frames = 3;
  carried = 0;
  waiting = 0;
  dropped = 0;
  stale = 0;
  damaged = 0;
}
nothing_merged = refl

-- ---- paths

a_dash_is_standard_input : known_at (λ path. None) (Some (7 ∷ [])) (codes "-") ≡ Some (7 ∷ [])
a_dash_is_standard_input = refl

a_path_is_a_file : known_at (λ path. Some path) None (codes "--") ≡ Some (codes "--")
a_path_is_a_file = refl

not_both : AreTwo (codes "-") (codes "-") → ⊥
not_both h = h refl refl

one_is_enough : AreTwo (codes "-") (codes "a")
one_is_enough = λ first second. absurd (cc)
