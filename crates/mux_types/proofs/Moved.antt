-- Removing a value from a list by moving it to the end first.
use Rattle.std.proofs.Common.{◌≡◌, ℕ, ◌-◌, ◌<◌, List, [], ◌∷◌, ◌++◌, length, get_or, take, ap, ◌∙◌, arith}
use Rattle.std.specs.List.{remove}
use Rattle.std.proofs.lemmas.List.{append_assoc, take_at}
use Rattle.std.proofs.lemmas.List.Edits.{length-remove}

pub taken_out : {T : Type 0} (xs ys rest : List T) (i n : ℕ) → i < length xs → n ≡ length xs
    → ((d : T) → ys ≡ remove xs i ++ get_or xs i d ∷ []) → take (n - 1) (ys ++ rest) ≡ remove xs i
taken_out [] ys rest i n lt len moved = absurd (omega (arith, lt))
taken_out {T} (x ∷ xs) ys rest i n lt len moved =
    let left = length-remove (x ∷ xs) i lt in
    let front : length (remove (x ∷ xs) i) ≡ n - 1 = omega (arith, left, len) in
    let whole : ys ++ rest ≡ remove (x ∷ xs) i ++ get_or (x ∷ xs) i x ∷ rest =
    ap (λ (zs : List T). zs ++ rest) (moved x) ∙ append_assoc (remove (x ∷ xs) i) (get_or (x ∷ xs) i x ∷ []) rest in
    ap (take (n - 1)) whole ∙ take_at (remove (x ∷ xs) i) (get_or (x ∷ xs) i x ∷ rest) (n - 1) front
