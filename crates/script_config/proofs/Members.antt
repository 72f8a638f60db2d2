-- What holds of each element of a list.
use Rattle.script_config.proofs.Words.{[], ◌++◌, ◌∷◌, All, AllByRecursion, List, arith, flat_map, suc, zero}

pub both : {T : Type 0} (P : T → Type 0) (xs ys : List T) → AllByRecursion P xs → AllByRecursion P ys
    → AllByRecursion P (xs ++ ys)
both P [] ys h k = k
both P (x ∷ xs) ys h k = (h.0, both P xs ys h.1 k)

pub each_of : {T U : Type 0} (P : T → Type 0) (Q : U → Type 0) (f : T → List U)
    → ((x : T) → P x → AllByRecursion Q (f x)) → (xs : List T) → AllByRecursion P xs
    → AllByRecursion Q (flat_map f xs)
each_of P Q f one [] h = tt
each_of P Q f one (x ∷ xs) h = both Q (f x) (flat_map f xs) (one x h.0) (each_of P Q f one xs h.1)

pub each_at : {T : Type 0} (P : T → Type 0) (xs : List T) → AllByRecursion P xs → All P xs
each_at P [] h k d lt = absurd (omega (arith, lt))
each_at P (x ∷ xs) h zero d lt = h.0
each_at P (x ∷ xs) h (suc k) d lt = each_at P xs h.1 k d (omega (arith, lt))

pub each_both : {T : Type 0} (P Q R : T → Type 0) → ((x : T) → P x → Q x → R x) → (xs : List T) → AllByRecursion P xs
    → AllByRecursion Q xs → AllByRecursion R xs
each_both P Q R both [] h k = tt
each_both P Q R both (x ∷ xs) h k = (both x h.0 k.0, each_both P Q R both xs h.1 k.1)
