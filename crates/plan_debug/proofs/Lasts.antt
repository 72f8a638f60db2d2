-- The last of a list.
use Rattle.plan_debug.proofs.Words.{[], ◌++◌, ◌+◌, ◌-◌, ◌∙◌, ◌∷◌, ◌≡◌, ◌≤◌, List, ap, arith, drop, drop-drop, keep_last}
use Rattle.plan_debug.proofs.Words.{length, length-append, length-drop, refl, sym, ℕ}
use Rattle.std.proofs.lemmas.List.{drop-append-le}

module _ {X : Type 0} where
  append_none : (xs : List X) → xs ++ [] ≡ xs
  append_none [] = refl
  append_none (x ∷ xs) = ap (λ (l : List X). x ∷ l) (append_none xs)

  -- a short list is kept whole
  pub kept_whole : (n : ℕ) (xs : List X) → length xs ≤ n → keep_last n xs ≡ xs
  kept_whole n xs few = let none : length xs - n ≡ 0 = omega (arith, few) in ap (λ (k : ℕ). drop k xs) none

  pub kept_more : (n : ℕ) (xs : List X) → length xs ≤ n → xs ≡ keep_last n (xs ++ [])
  kept_more n xs few = sym (kept_whole n xs few) ∙ ap (λ (l : List X). keep_last n l) (sym (append_none xs))

  pub kept_few : (n : ℕ) (xs : List X) → length (keep_last n xs) ≤ n
  kept_few n xs = omega (arith, length-drop (length xs - n) xs)

  -- what is added to the last is added to all
  pub kept_again : (n : ℕ) (xs ys : List X) → keep_last n (keep_last n xs ++ ys) ≡ keep_last n (xs ++ ys)
  kept_again n xs ys =
      let d : ℕ = length xs - n in
      let all : List X = xs ++ ys in
      let cut : keep_last n xs ++ ys ≡ drop d all = sym (drop-append-le d xs ys (omega arith)) in
      let long : length all ≡ length xs + length ys = length-append xs ys in
      let rest : length (drop d all) ≡ length all - d = length-drop d all in
      let sum : d + (length (drop d all) - n) ≡ length all - n = omega (arith, long, rest) in
      ap (λ (l : List X). keep_last n l) cut ∙ drop-drop (length (drop d all) - n) d all
      ∙ ap (λ (k : ℕ). drop k all) sum
