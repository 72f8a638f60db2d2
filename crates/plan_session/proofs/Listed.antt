-- Items that are spelled by tokens, one after another: their tokens identify them.
use Rattle.plan_session.proofs.Words.{[], ◌∷◌, ◌≡◌, AllByRecursion, AreUnique, HasLexemes, List, flat_map, refl, sym, ℕ}

module _ {T : Type 0} (words_of_item : T → List (List ℕ)) (IsItem : T → Type 0)
    (unique : AreUnique words_of_item IsItem) (has : HasLexemes words_of_item) where
  -- items that are spelled alike are the same
  pub one_list : (ss ts : List T) → AllByRecursion IsItem ss → AllByRecursion IsItem ts
      → flat_map words_of_item ss ≡ flat_map words_of_item ts → ss ≡ ts
  one_list [] [] h k e = refl
  one_list [] (t ∷ ts) h k e = absurd (has t (flat_map words_of_item ts) (sym e))
  one_list (s ∷ ss) [] h k e = absurd (has s (flat_map words_of_item ss) e)
  one_list (s ∷ ss) (t ∷ ts) h k e =
      let both = unique s t (flat_map words_of_item ss) (flat_map words_of_item ts) h.0 k.0 e in
      let rest : ss ≡ ts = one_list ss ts h.1 k.1 both.1 in
      cc
