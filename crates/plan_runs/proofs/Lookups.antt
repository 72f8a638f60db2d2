-- Lookup in lists: what is found is in the list.
use Rattle.plan_runs.proofs.Words.{[], ◌<◌, ◌∷◌, ◌≡◌, Bool, Contains, List, Some, arith, cond, false, find, length}
use Rattle.plan_runs.proofs.Words.{refl, slice_get, slice_get_within, subst, suc, true, zero, ℕ}
use Rattle.mux_types.proofs.Elements.{contains_first}

-- an element that is found is in the list and passes the test
pub record IsFound {X : Type 0} (test : X → Bool) (xs : List X) (x : X) : Type 0 where
  pub inside : Contains xs x
  pub passes : test x ≡ true

contains_later : {X : Type 0} (x y : X) (xs : List X) → Contains xs y → Contains (x ∷ xs) y
contains_later x y xs (k, lt, is) = (suc k, omega arith, is)

found_by : {X : Type 0} (test : X → Bool) (y : X) (ys : List X) (x : X) → (find test ys ≡ Some x → IsFound test ys x)
    → (b : Bool) → test y ≡ b
    → cond b (Some y) (find test ys) ≡ Some x → IsFound test (y ∷ ys) x
found_by test y ys x rest true e h =
    subst (λ z. IsFound test (y ∷ ys) z) (cc h) (record { inside = contains_first y ys; passes = e })
found_by test y ys x rest false e h =
    let later = rest h in
    record { inside = contains_later y x ys later.inside; passes = later.passes }

pub found : {X : Type 0} (test : X → Bool) (xs : List X) (x : X) → find test xs ≡ Some x → IsFound test xs x
found test [] x h = absurd cc
found test (y ∷ ys) x h = found_by test y ys x (found test ys x) (test y) refl h

pub get_some : {X : Type 0} (xs : List X) (i : ℕ) → i < length xs → (x : X) × (slice_get xs i ≡ Some x)
get_some [] i below = absurd (omega arith)
get_some (x ∷ xs) zero below = (x, refl)
get_some (x ∷ xs) (suc i) below = get_some xs i (omega arith)

pub get_below : {X : Type 0} (xs : List X) (i : ℕ) (x : X) → slice_get xs i ≡ Some x → i < length xs
get_below xs i x h = slice_get_within xs i x h
