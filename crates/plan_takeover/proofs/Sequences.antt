-- One more element of a list that is copied, or changed element by element.
use Rattle.std.proofs.Common.{[], ◌++◌, ◌+◌, ◌<◌, ◌∙◌, ◌∷◌, ◌≡◌, List, ap, append_assoc, get_or, length, map, sym, take}
use Rattle.std.proofs.Common.{ℕ}
use Rattle.std.proofs.lemmas.List.{map-append, take_more}

pub one_copied : {A : Type 0} (xs out : List A) (i : ℕ) (x : A) → i < length xs → x ≡ get_or xs i x → out ≡ take i xs
    → out ++ x ∷ [] ≡ take (i + 1) xs
one_copied {A = A} xs out i x lt is h =
    ap (λ (ys : List A). ys ++ x ∷ []) h
    ∙ sym (take_more xs i x lt ∙ ap (λ (y : A). take i xs ++ y ∷ []) (sym is))

pub one_changed : {A B : Type 0} (f : A → B) (old out : List B) (xs : List A) (i : ℕ) (x : A) (y : B) → i < length xs
    → x ≡ get_or xs i x → y ≡ f x → out ≡ old ++ map f (take i xs)
    → out ++ y ∷ [] ≡ old ++ map f (take (i + 1) xs)
one_changed {A = A} {B = B} f old out xs i x y lt is made h =
    let more : take (i + 1) xs ≡ take i xs ++ x ∷ [] =
    take_more xs i x lt ∙ ap (λ (z : A). take i xs ++ z ∷ []) (sym is) in
    ap (λ (ys : List B). ys ++ y ∷ []) h
    ∙ append_assoc old (map f (take i xs)) (y ∷ [])
    ∙ ap (λ (ys : List B). old ++ ys)
    (ap (λ (z : B). map f (take i xs) ++ z ∷ []) made ∙ sym (ap (map f) more ∙ map-append f (take i xs) (x ∷ [])))
