-- A FIG agrees with a configuration exactly if it has no contradictions to it.
use Rattle.stream_check.proofs.Words.{[], ◌%◌, ◌&&◌, ◌++◌, ◌/◌, ◌<◌, ◌==◌, ◌∙◌, ◌∷◌, ◌≡◌, AgreeingHasNone, Bool, List}
use Rattle.stream_check.proofs.Words.{Mention, None, NotThere, Option, Pictured, Some, absent, absent_among, ap}
use Rattle.stream_check.proofs.Words.{are_there, arith, cond, contradictions_among, contradictions_in, drop}
use Rattle.stream_check.proofs.Words.{entries_agree, false, false≢true, fig_agrees, flat_map, get_or, is_judged}
use Rattle.stream_check.proofs.Words.{is_present, length, list_all, lt-ltb, mentions_of, nat_lt, refl, sym, true, ℕ}

none_of : (k : Pictured) (ext : ℕ) (ms : List Mention) → list_all (is_present k) ms ≡ true
    → flat_map (absent k ext) ms ≡ []
none_of k ext [] all = refl
none_of k ext (m ∷ ms) all = elim (is_present k m) as (λ b. (b && list_all (is_present k) ms) ≡ true
    → cond b [] (NotThere ext m ∷ []) ++ flat_map (absent k ext) ms ≡ []) [
      | true ↦ λ more. none_of k ext ms more
      | false ↦ λ more. absurd (false≢true more)
    ] all

all_of : (k : Pictured) (ext : ℕ) (ms : List Mention) → flat_map (absent k ext) ms ≡ []
    → list_all (is_present k) ms ≡ true
all_of k ext [] none = refl
all_of k ext (m ∷ ms) none = elim (is_present k m) as (λ b. cond b [] (NotThere ext m ∷ [])
    ++ flat_map (absent k ext) ms ≡ [] → (b && list_all (is_present k) ms) ≡ true) [
      | true ↦ λ more. all_of k ext ms more
      | false ↦ λ more. absurd cc
    ] none

none_among : (k : Pictured) (ext : ℕ) (ms : Option (List Mention)) → are_there k ms ≡ true → absent_among k ext ms ≡ []
none_among k ext None there = absurd (false≢true there)
none_among k ext (Some ms) there = none_of k ext ms there

all_among : (k : Pictured) (ext : ℕ) (ms : Option (List Mention)) → absent_among k ext ms ≡ [] → are_there k ms ≡ true
all_among k ext None none = absurd cc
all_among k ext (Some ms) none = all_of k ext ms none

some_entries : (b : ℕ) (bs : List ℕ) → nat_lt 0 (length (b ∷ bs)) ≡ true
some_entries b bs = let some : 0 < length (b ∷ bs) = omega arith in lt-ltb 0 (length (b ∷ bs)) some

entries_none : (k : Pictured) (second : ℕ) (entries : List ℕ) → entries_agree k second entries ≡ true
    → contradictions_among k second entries ≡ []
entries_none k second [] agree = absurd (false≢true agree)
entries_none k second (b ∷ bs) agree =
    let ms = mentions_of (second % 32) (second / 32 % 2 == 1) (b ∷ bs) in
    none_among k (second % 32) ms (sym (ap (λ t. t && are_there k ms) (some_entries b bs)) ∙ agree)

entries_all : (k : Pictured) (second : ℕ) (entries : List ℕ) → contradictions_among k second entries ≡ []
    → entries_agree k second entries ≡ true
entries_all k second [] none = absurd cc
entries_all k second (b ∷ bs) none =
    rw (some_entries b bs) (all_among k (second % 32) (mentions_of (second % 32) (second / 32 % 2 == 1) (b ∷ bs)) none)

pub agreeing_none : (k : Pictured) (fig : List ℕ) → fig_agrees k fig ≡ true → contradictions_in k fig ≡ []
agreeing_none k fig = by (is_judged fig)
  where
    by : (b : Bool) → cond b (entries_agree k (get_or fig 1 0) (drop 2 fig)) true ≡ true
        → cond b (contradictions_among k (get_or fig 1 0) (drop 2 fig)) [] ≡ []
    by true agree = entries_none k (get_or fig 1 0) (drop 2 fig) agree
    by false agree = refl

none_agreeing : (k : Pictured) (fig : List ℕ) → contradictions_in k fig ≡ [] → fig_agrees k fig ≡ true
none_agreeing k fig = by (is_judged fig)
  where
    by : (b : Bool) → cond b (contradictions_among k (get_or fig 1 0) (drop 2 fig)) [] ≡ []
        → cond b (entries_agree k (get_or fig 1 0) (drop 2 fig)) true ≡ true
    by true none = entries_all k (get_or fig 1 0) (drop 2 fig) none
    by false none = refl

pub agreeing_has_none : AgreeingHasNone
agreeing_has_none k fig = (agreeing_none k fig, none_agreeing k fig)
