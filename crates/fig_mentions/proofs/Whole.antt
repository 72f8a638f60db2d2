-- Whole entries one after the other, from the front.
use Rattle.std.proofs.Common.{◌≡◌, ℕ, zero, suc, ◌≤◌, ◌<◌, Bool, true, false, cond, List, [], ◌∷◌, length, drop, Some}
use Rattle.std.proofs.Common.{None, sym, ap, ◌∙◌, arith, inl, inr}
use Rattle.std.proofs.lemmas.Bool.{cases_lt}
use Rattle.std.proofs.lemmas.List.{length-drop}
use Rattle.fig_mentions.specs.Mentions.{has_bit, sid_length, language_size, service_size, entry_mention}
use Rattle.fig_mentions.specs.Mentions.{first_entry_length, mentions_in, mentions_of, with_mention}
use Rattle.fig_mentions.proofs.Rests.{mentions-none, mentions-more, mentions-cut}
use Rattle.std.specs.Prelude.{get_or, ◌==◌}

-- ---- an entry has some bytes

either_some : (b : Bool) (x y : ℕ) → 0 < x → 0 < y → 0 < cond b x y
either_some true x y one other = one
either_some false x y one other = other

pub size_some : (ext : ℕ) (long : Bool) (bytes : List ℕ) → 0 < first_entry_length ext long bytes
size_some ext long bytes =
    either_some (ext == 4) 3 _ (omega arith)
    (either_some (ext == 5) (language_size bytes) _
    (either_some (has_bit (get_or bytes 0 0) 128) 3 2 (omega arith) (omega arith))
    (either_some (ext == 8) (service_size long bytes) _ service
    (either_some (ext == 14) 1 _ (omega arith)
    (either_some (has_bit (get_or bytes 3 0) 64) 5 4 (omega arith) (omega arith)))))
  where
    service : 0 < service_size long bytes
    service =
        let sid : 0 < sid_length long = either_some long 4 2 (omega arith) (omega arith) in
        omega (arith, sid)

-- ---- any fuel that is enough gives the same

pub enough : (n m ext : ℕ) (long : Bool) (rest : List ℕ) → length rest ≤ n → length rest ≤ m
    → mentions_in n ext long rest ≡ mentions_in m ext long rest
enough n m ext long [] one other = mentions-none n ext long ∙ sym (mentions-none m ext long)
enough zero m ext long (b ∷ bs) one other = absurd (omega (arith, one))
enough (suc n) zero ext long (b ∷ bs) one other = absurd (omega (arith, other))
enough (suc n) (suc m) ext long (b ∷ bs) one other =
    elim (cases_lt (length (b ∷ bs)) (first_entry_length ext long (b ∷ bs))) [
      | inl cut ↦ mentions-cut (suc n) ext long (b ∷ bs) some cut
          ∙ sym (mentions-cut (suc m) ext long (b ∷ bs) some cut)
      | inr fits ↦
          let long_is = length-drop (first_entry_length ext long (b ∷ bs)) (b ∷ bs) in
          let size = size_some ext long (b ∷ bs) in
          mentions-more n ext long (b ∷ bs) some fits
          ∙ ap (with_mention (entry_mention ext long (b ∷ bs)))
          (enough n m ext long (drop (first_entry_length ext long (b ∷ bs)) (b ∷ bs))
          (omega (arith, one, long_is, size, fits)) (omega (arith, other, long_is, size, fits)))
          ∙ sym (mentions-more m ext long (b ∷ bs) some fits)
    ]
  where
    some : 0 < length (b ∷ bs)
    some = omega arith

-- ---- entries from the front

pub of_none : (ext : ℕ) (long : Bool) (rest : List ℕ) → length rest ≡ 0 → mentions_of ext long rest ≡ Some []
of_none ext long [] none = mentions-none 0 ext long
of_none ext long (b ∷ bs) none = absurd (omega (arith, none))

pub of_cut : (ext : ℕ) (long : Bool) (rest : List ℕ) → 0 < length rest → length rest < first_entry_length ext long rest
    → mentions_of ext long rest ≡ None
of_cut ext long rest some cut = mentions-cut (length rest) ext long rest some cut

pub of_more : (ext : ℕ) (long : Bool) (rest : List ℕ) → 0 < length rest → first_entry_length ext long rest ≤ length rest
    → mentions_of ext long rest ≡ with_mention (entry_mention ext long rest)
    (mentions_of ext long (drop (first_entry_length ext long rest) rest))
of_more ext long [] some fits = absurd (omega (arith, some))
of_more ext long (b ∷ bs) some fits =
    let long_is = length-drop (first_entry_length ext long (b ∷ bs)) (b ∷ bs) in
    let size = size_some ext long (b ∷ bs) in
    mentions-more (length bs) ext long (b ∷ bs) some fits
    ∙ ap (with_mention (entry_mention ext long (b ∷ bs)))
    (enough (length bs) (length (drop (first_entry_length ext long (b ∷ bs)) (b ∷ bs))) ext long
    (drop (first_entry_length ext long (b ∷ bs)) (b ∷ bs)) (omega (arith, long_is, size, fits)) (omega arith))
