-- Entries one after the other.
use Rattle.std.proofs.Common.{◌≡◌, ℕ, zero, suc, ◌-◌, ◌≤◌, ◌<◌, Bool, true, false, ◌&&◌, List, [], ◌∷◌, length, take}
use Rattle.std.proofs.Common.{drop, leb, Option, Some, None, refl, sym, ap, ◌∙◌, subst, arith}
use Rattle.std.proofs.lemmas.List.{length-drop, take_all}
use Rattle.std.proofs.lemmas.Bool.{le-leb, lt-leb, cond-true, cond-false}
use Rattle.fib_reader.specs.Listening.{Pictured}
use Rattle.fig_mentions.specs.declared.mention.Mention.{Mention}
use Rattle.fig_mentions.specs.Agreeing.{are_there, is_present}
use Rattle.fig_mentions.specs.Mentions.{entry_mention, first_entry_length, mentions_in, with_mention}

with_there : (k : Pictured) (m : Mention) (ms : Option (List Mention)) → is_present k m ≡ true
    → are_there k (with_mention m ms) ≡ are_there k ms
with_there k m None is = refl
with_there k m (Some ms) is = ap (λ b. b && are_there k (Some ms)) is

with_absent : (k : Pictured) (m : Mention) (ms : Option (List Mention)) → is_present k m ≡ false
    → are_there k (with_mention m ms) ≡ false
with_absent k m None is = refl
with_absent k m (Some ms) is = ap (λ b. b && are_there k (Some ms)) is

-- ---- with this fuel, judging the rest decides about all
pub record IsLeft (k : Pictured) (ext : ℕ) (long : Bool) (all rest : List ℕ) : Type 0 where
  pub fuel : ℕ
  pub enough : length rest ≤ fuel
  pub same : are_there k (mentions_in fuel ext long rest) ≡ are_there k (mentions_in (length all) ext long all)

pub mentions-none : (n ext : ℕ) (long : Bool) → mentions_in n ext long [] ≡ Some []
unfolding mentions_in
mentions-none zero ext long = refl
mentions-none (suc n) ext long = refl

-- nothing is left
pub all_there : (k : Pictured) (ext : ℕ) (long : Bool) (all rest : List ℕ) → length rest ≡ 0
    → IsLeft k ext long all rest → true ≡ are_there k (mentions_in (length all) ext long all)
all_there k ext long all [] none h = sym (ap (are_there k) (mentions-none h.fuel ext long)) ∙ h.same
all_there k ext long all (b ∷ bs) none h = absurd (omega (arith, none))

-- one more entry
pub mentions-more : (n ext : ℕ) (long : Bool) (rest : List ℕ) → 0 < length rest
    → first_entry_length ext long rest ≤ length rest
    → mentions_in (suc n) ext long rest ≡ with_mention (entry_mention ext long rest)
    (mentions_in n ext long (drop (first_entry_length ext long rest) rest))
unfolding mentions_in
mentions-more n ext long [] some fits = absurd (omega (arith, some))
mentions-more n ext long (b ∷ bs) some fits =
    cond-true (leb (first_entry_length ext long (b ∷ bs)) (length (b ∷ bs)))
    (with_mention (entry_mention ext long (b ∷ bs))
    (mentions_in n ext long (drop (first_entry_length ext long (b ∷ bs)) (b ∷ bs)))) None (le-leb _ _ fits)

pub mentions-cut : (n ext : ℕ) (long : Bool) (rest : List ℕ) → 0 < length rest
    → length rest < first_entry_length ext long rest → mentions_in n ext long rest ≡ None
unfolding mentions_in
mentions-cut n ext long [] some cut = absurd (omega (arith, some))
mentions-cut zero ext long (b ∷ bs) some cut = refl
mentions-cut (suc n) ext long (b ∷ bs) some cut =
    cond-false (leb (first_entry_length ext long (b ∷ bs)) (length (b ∷ bs)))
    (with_mention (entry_mention ext long (b ∷ bs))
    (mentions_in n ext long (drop (first_entry_length ext long (b ∷ bs)) (b ∷ bs)))) None (lt-leb _ _ cut)

pub one_more : (k : Pictured) (ext : ℕ) (long : Bool) (all rest : List ℕ) (size : ℕ) → 0 < length rest
    → size ≡ first_entry_length ext long rest → 0 < size → size ≤ length rest
    → is_present k (entry_mention ext long rest) ≡ true → IsLeft k ext long all rest
    → IsLeft k ext long all (drop size rest)
one_more k ext long all rest size some is positive fits there h = with_fuel h.fuel h.enough h.same
  where
    with_fuel : (n : ℕ) → length rest ≤ n → are_there k (mentions_in n ext long rest)
        ≡ are_there k (mentions_in (length all) ext long all) → IsLeft k ext long all (drop size rest)
    with_fuel zero enough same = absurd (omega (arith, some, enough))
    with_fuel (suc n) enough same =
        let whole : first_entry_length ext long rest ≤ length rest = omega (arith, is, fits) in
        let next = mentions_in n ext long (drop (first_entry_length ext long rest) rest) in
        record {
          fuel = n;
          enough = omega (arith, length-drop size rest, enough, positive, fits);
          same = ap (λ s. are_there k (mentions_in n ext long (drop s rest))) is
              ∙ sym (with_there k (entry_mention ext long rest) next there)
              ∙ sym (ap (are_there k) (mentions-more n ext long rest some whole)) ∙ same;
        }

-- an entry that is not whole, or names what is not there
pub one_cut : (k : Pictured) (ext : ℕ) (long : Bool) (all rest : List ℕ) (size : ℕ) → 0 < length rest
    → size ≡ first_entry_length ext long rest → length rest < size
    → IsLeft k ext long all rest → false ≡ are_there k (mentions_in (length all) ext long all)
one_cut k ext long all rest size some is cut h =
    sym (ap (are_there k) (mentions-cut h.fuel ext long rest some (omega (arith, is, cut)))) ∙ h.same

pub one_absent : (k : Pictured) (ext : ℕ) (long : Bool) (all rest : List ℕ) (size : ℕ) → 0 < length rest
    → size ≡ first_entry_length ext long rest → size ≤ length rest
    → is_present k (entry_mention ext long rest) ≡ false → IsLeft k ext long all rest
    → false ≡ are_there k (mentions_in (length all) ext long all)
one_absent k ext long all rest size some is fits absent h = with_fuel h.fuel h.enough h.same
  where
    with_fuel : (n : ℕ) → length rest ≤ n → are_there k (mentions_in n ext long rest)
        ≡ are_there k (mentions_in (length all) ext long all)
        → false ≡ are_there k (mentions_in (length all) ext long all)
    with_fuel zero enough same = absurd (omega (arith, some, enough))
    with_fuel (suc n) enough same =
        let whole : first_entry_length ext long rest ≤ length rest = omega (arith, is, fits) in
        let next = mentions_in n ext long (drop (first_entry_length ext long rest) rest) in
        sym (with_absent k (entry_mention ext long rest) next absent)
        ∙ sym (ap (are_there k) (mentions-more n ext long rest some whole)) ∙ same

-- the rest as a slice
pub one_more_left : (k : Pictured) (ext : ℕ) (long : Bool) (all rest : List ℕ) (size : ℕ) → 0 < length rest
    → size ≡ first_entry_length ext long rest → 0 < size → size ≤ length rest
    → is_present k (entry_mention ext long rest) ≡ true → IsLeft k ext long all rest
    → IsLeft k ext long all (take (length rest - size) (drop size rest))
one_more_left k ext long all rest size some is positive fits there h =
    let whole : take (length rest - size) (drop size rest) ≡ drop size rest =
    take_all (length rest - size) (drop size rest) (omega (arith, length-drop size rest)) in
    subst (λ (l : List ℕ). IsLeft k ext long all l) (sym whole)
    (one_more k ext long all rest size some is positive fits there h)
