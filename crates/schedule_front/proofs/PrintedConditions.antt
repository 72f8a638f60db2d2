-- The text of tests and conditions.
use Rattle.schedule_front.proofs.Words.{[], ◌++◌, ◌+◌, ◌-◌, ◌<◌, ◌∙◌, ◌∷◌, ◌≡◌, ◌≤◌, Global, List, Test, Vec}
use Rattle.schedule_front.proofs.Words.{add-one, arith, take}
use Rattle.std.proofs.lemmas.List.{take_all}
use Rattle.schedule_front.proofs.Words.{alternatives_of, and_lexemes, ap, append-nil, append_assoc, codes}
use Rattle.schedule_front.proofs.Words.{condition_lexemes, drop, drop-cons, drop_all, each_after, get_or, length}
use Rattle.schedule_front.proofs.Words.{or_lexemes, refl, sym, test_lexemes, tests_lexemes, ℕ}
use Rattle.script_tokens.specs.Keywords.{letters}
use Rattle.script_front.proofs.Printed.{behind_both}
use Rattle.script_front.proofs.PrintedWaits.{Text, twice}

-- ---- tests that hold together

-- the tests printed so far, and those that remain
pub record AndPrinted (old out : Text) (tests : List Test) (i : ℕ) : Type 0 where
  pub whole : out ++ each_after (and_lexemes (drop i tests)) ≡ old ++ each_after (and_lexemes tests)

pub and_more : (old out one new : Text) (tests : List Test) (i : ℕ) (t : Test) → i < length tests
    → t ≡ get_or tests i t → one ≡ out ++ codes " and" → new ≡ one ++ each_after (test_lexemes t)
    → AndPrinted old out tests i → AndPrinted old new tests (i + 1)
unfolding letters
and_more old out one new tests i t lt same e f h = record {
  whole = (
      let rest : Text = each_after (and_lexemes (drop (i + 1) tests)) in
      let this : Text = each_after (test_lexemes t) in
      let next : drop i tests ≡ t ∷ drop (i + 1) tests = rw (same) (rw (add-one, drop-cons tests i t lt) refl) in
      ap (λ (x : Text). x ++ rest) (twice out one new (codes " and") this e f)
      ∙ append_assoc out (codes " and" ++ this) rest
      ∙ ap (λ (x : Text). out ++ (codes " and" ++ x))
      (sym (behind_both (test_lexemes t) (and_lexemes (drop (i + 1) tests))))
      ∙ sym (ap (λ (xs : List Test). out ++ each_after (and_lexemes xs)) next) ∙ h.whole
      );
}

pub and_all : (old out : Text) (tests : List Test) (i : ℕ) → length tests ≤ i → AndPrinted old out tests i → out ≡ old
    ++ each_after (and_lexemes tests)
and_all old out tests i long h = let e : out ++ [] ≡ old ++ each_after (and_lexemes tests) =
    rw (drop_all i tests long) at h.whole in sym (append-nil out) ∙ e

pub tests_put : (old one new : Text) (tests others : List Test) (first : Test) → tests ≡ first ∷ others
    → one ≡ old ++ each_after (test_lexemes first) → new ≡ one ++ each_after (and_lexemes others)
    → new ≡ old ++ each_after (tests_lexemes tests)
tests_put old one new tests others first is e f =
    twice old one new (each_after (test_lexemes first)) (each_after (and_lexemes others)) e f
    ∙ ap (λ (x : Text). old ++ x) (sym (behind_both (test_lexemes first) (and_lexemes others))
    ∙ ap (λ (xs : List Test). each_after (tests_lexemes xs)) (sym is))

-- ---- alternatives

abbrev pub Lists : Type 0
Lists = List (Vec Test Global)

-- the alternatives printed so far, and those that remain
pub record OrPrinted (old out : Text) (all : Lists) (i : ℕ) : Type 0 where
  pub whole : out ++ each_after (or_lexemes (alternatives_of (drop i all))) ≡ old
      ++ each_after (or_lexemes (alternatives_of all))

pub or_more : (old out one new : Text) (all : Lists) (i : ℕ) (v : Vec Test Global) (slice : List Test) → i < length all
    → v ≡ get_or all i v → slice ≡ v.items → one ≡ out ++ codes " or" → new ≡ one ++ each_after (tests_lexemes slice)
    → OrPrinted old out all i → OrPrinted old new all (i + 1)
unfolding letters
or_more old out one new all i v slice lt same items e f h = record {
  whole = (
      let rest : Text = each_after (or_lexemes (alternatives_of (drop (i + 1) all))) in
      let this : Text = each_after (tests_lexemes v.items) in
      let next : drop i all ≡ v ∷ drop (i + 1) all = rw (same) (rw (add-one, drop-cons all i v lt) refl) in
      ap (λ (x : Text). x ++ rest) (twice out one new (codes " or") this e (rw (← items) f))
      ∙ append_assoc out (codes " or" ++ this) rest
      ∙ ap (λ (x : Text). out ++ (codes " or" ++ x))
      (sym (behind_both (tests_lexemes v.items) (or_lexemes (alternatives_of (drop (i + 1) all)))))
      ∙ sym (ap (λ (xs : Lists). out ++ each_after (or_lexemes (alternatives_of xs))) next) ∙ h.whole
      );
}

pub or_all : (old out : Text) (all : Lists) (i : ℕ) → length all ≤ i → OrPrinted old out all i → out ≡ old
    ++ each_after (or_lexemes (alternatives_of all))
or_all old out all i long h = let e : out ++ [] ≡ old ++ each_after (or_lexemes (alternatives_of all)) =
    rw (drop_all i all long) at h.whole in sym (append-nil out) ∙ e

-- the first of some alternatives, and the others
pub first_of : (all : Lists) (v : Vec Test Global) → 1 ≤ length all → v ≡ get_or all 0 v
    → all ≡ v ∷ take (length all - 1) (drop 1 all)
first_of [] v some is = absurd (omega (arith, some))
first_of (x ∷ xs) v some is =
    rw (is) (ap (λ (ys : Lists). x ∷ ys) (sym (take_all (length (x ∷ xs) - 1) xs (omega arith))))

pub condition_put : (old one new : Text) (all others : Lists) (first : Vec Test Global) (slice : List Test)
    → all ≡ first ∷ others → slice ≡ first.items → one ≡ old ++ each_after (tests_lexemes slice) → new ≡ one
    ++ each_after (or_lexemes (alternatives_of others))
    → new ≡ old ++ each_after (condition_lexemes (alternatives_of all))
condition_put old one new all others first slice is same e f =
    twice old one new (each_after (tests_lexemes first.items)) (each_after (or_lexemes (alternatives_of others)))
    (rw (← same) e) f
    ∙ ap (λ (x : Text). old ++ x)
    (sym (behind_both (tests_lexemes first.items) (or_lexemes (alternatives_of others)))
    ∙ ap (λ (xs : Lists). each_after (condition_lexemes (alternatives_of xs))) (sym is))
