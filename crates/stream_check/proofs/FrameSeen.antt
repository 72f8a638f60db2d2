-- What is known of the FIBs of a frame with one more FIB.
use Rattle.stream_check.proofs.Words.{[], ◌&&◌, ◌++◌, ◌+◌, ◌∙◌, ◌∷◌, ◌≡◌, ◌≤◌, AreSeen, Bool, EnsembleInformation, Fib}
use Rattle.stream_check.proofs.Words.{IsSeen, List, Option, Reading, ap, arith, cond, damaged_in, false, first_opening}
use Rattle.stream_check.proofs.Words.{is_damaged, is_empty, is_there, lacks_opening, map, map-append, not, sym, true, ℕ}
use Rattle.stream_check.specs.declared.frame.FibSummary.{FibSummary}

pub damaged_more : (frame : List Fib) (fib : Fib) → damaged_in (frame ++ fib ∷ []) ≡ damaged_in frame
    + cond (is_damaged fib) 1 0
damaged_more [] fib = omega (arith)
damaged_more (x ∷ xs) fib =
    omega (arith, damaged_more xs fib)

-- how the frame begins and how many FIBs are damaged, with one more FIB
pub seen_more : (r : Reading) (fibs : List (List ℕ)) (fib : List ℕ) (summary : FibSummary) (damaged : ℕ)
    (begins : Option EnsembleInformation) (lacks : Bool)
    → AreSeen damaged begins lacks (map r.read fibs) → IsSeen summary (r.read fib)
    → AreSeen (damaged + cond summary.is_damaged 1 0) (cond (is_empty fibs) summary.opening begins)
    (cond (is_empty fibs) (not summary.is_damaged && not (is_there summary.opening)) lacks)
    (map r.read (fibs ++ fib ∷ []))
seen_more r fibs fib summary damaged begins lacks are is = record {
  damaged_is =
      let one : cond summary.is_damaged 1 0 ≡ cond (is_damaged (r.read fib)) 1 0 = ap (λ t. cond t 1 0) is.damaged in
      ap (λ n. n + cond summary.is_damaged 1 0) are.damaged_is ∙ ap (λ n. damaged_in (map r.read fibs) + n) one
      ∙ sym (damaged_more (map r.read fibs) (r.read fib)) ∙ sym (ap damaged_in (map-append r.read fibs (fib ∷ [])));
  begins_is = begins_of fibs are;
  lacks_is = lacks_of fibs are;
}
  where
    begins_of : (xs : List (List ℕ)) → AreSeen damaged begins lacks (map r.read xs)
        → cond (is_empty xs) summary.opening begins ≡ first_opening (map r.read (xs ++ fib ∷ []))
    begins_of [] are = is.begins
    begins_of (x ∷ xs) are = are.begins_is

    lacks_of : (xs : List (List ℕ)) → AreSeen damaged begins lacks (map r.read xs)
        → cond (is_empty xs) (not summary.is_damaged && not (is_there summary.opening)) lacks
        ≡ lacks_opening (map r.read (xs ++ fib ∷ []))
    lacks_of [] are = ap (λ t. not t && not (is_there summary.opening)) is.damaged
        ∙ ap (λ o. not (is_damaged (r.read fib)) && not (is_there o)) is.begins
    lacks_of (x ∷ xs) are = are.lacks_is

pub seen_after : (r : Reading) (fibs more : List (List ℕ)) (fib : List ℕ) (summary : FibSummary) (damaged d : ℕ)
    (begins b : Option EnsembleInformation) (lacks l first bare : Bool)
    → more ≡ fibs ++ fib ∷ [] → d ≡ cond summary.is_damaged 1 0 → first ≡ is_empty fibs
    → b ≡ cond first summary.opening begins
    → bare ≡ (not summary.is_damaged && not (is_there summary.opening)) → l ≡ cond first bare lacks
    → AreSeen damaged begins lacks (map r.read fibs) → IsSeen summary (r.read fib)
    → AreSeen (damaged + d) b l (map r.read more)
seen_after r fibs more fib summary damaged d begins b lacks l first bare all one empty opens unopened begun are is =
    let s = seen_more r fibs fib summary damaged begins lacks are is in
    record {
      damaged_is = rw (one) (rw (all) s.damaged_is);
      begins_is = opens ∙ ap (λ t. cond t summary.opening begins) empty ∙ s.begins_is
          ∙ sym (ap (λ xs. first_opening (map r.read xs)) all);
      lacks_is = begun ∙ ap (λ t. cond t bare lacks) empty ∙ ap (λ t. cond (is_empty fibs) t lacks) unopened
          ∙ s.lacks_is ∙ sym (ap (λ xs. lacks_opening (map r.read xs)) all);
    }

pub at_most_one : (b : Bool) → cond b 1 0 ≤ 1
at_most_one true = omega (arith)
at_most_one false = omega (arith)
