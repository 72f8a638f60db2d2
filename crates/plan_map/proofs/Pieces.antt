-- Texts and ranges, one element after another.
use Rattle.plan_map.proofs.Words.{[], ◌++◌, ◌+◌, ◌<◌, ◌∙◌, ◌∷◌, ◌≡◌, List, ap, append-nil, append_assoc, arith}
use Rattle.plan_map.proofs.Words.{flat_map, get_or, length, range_with_len, suc, take, take_more, zero, ℕ}
use Rattle.std.proofs.lemmas.Grind.{flat_map-append}

-- one more element
pub texts_more : {X A : Type 0} (f : X → List A) (xs : List X) (i : ℕ) (x : X) → i < length xs → x ≡ get_or xs i x
    → flat_map f (take i xs) ++ f x ≡ flat_map f (take (i + 1) xs)
texts_more {X = X} {A = A} f xs i x lt same =
    let one : flat_map f (x ∷ []) ≡ f x = append-nil (f x) in
    cc (one, flat_map-append f (take i xs) (x ∷ []), same, take_more xs i x lt)

cells_more_suc : {A : Type 0} (f : ℕ → List A) (a n : ℕ)
    → flat_map f (range_with_len a (suc n)) ≡ flat_map f (range_with_len a n) ++ f (a + n)
cells_more_suc {A = A} f a zero = let same : a + 0 ≡ a = omega arith in rw same (append-nil (f a))
cells_more_suc {A = A} f a (suc n) =
    let same : (a + 1) + n ≡ a + suc n = omega arith in
    cc (cells_more_suc f (a + 1) n, append_assoc (f a) (flat_map f (range_with_len (a + 1) n)) (f ((a + 1) + n)), same)

cells_more : {A : Type 0} (f : ℕ → List A) (a n : ℕ) → flat_map f (range_with_len a (n + 1))
    ≡ flat_map f (range_with_len a n) ++ f (a + n)
cells_more f a n = let more : n + 1 ≡ suc n = omega arith in rw more (cells_more_suc f a n)

pub cells_from_zero : {A : Type 0} (f : ℕ → List A) (n : ℕ)
    → flat_map f (range_with_len 0 (n + 1)) ≡ flat_map f (range_with_len 0 n) ++ f n
cells_from_zero f n = let same : 0 + n ≡ n = omega arith in
    cells_more f 0 n ∙ ap (λ (k : ℕ). flat_map f (range_with_len 0 n) ++ f k) same
