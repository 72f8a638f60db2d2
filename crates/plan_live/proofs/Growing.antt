-- A list that grows, and then grows by more.
use Rattle.plan_live.proofs.Words.{[], ◌++◌, ◌∙◌, Grows, List, None, Option, Some, ap, append-nil, append_assoc, sym}

pub grows_more : {A : Type 0} (a b c : Option (List A)) (xs ys : List A) → Grows a b xs → Grows b c ys
    → Grows a c (xs ++ ys)
grows_more None b c xs ys p q = tt
grows_more (Some x) None c xs ys p q = absurd p
grows_more (Some x) (Some y) None xs ys p q = absurd q
grows_more {A} (Some x) (Some y) (Some z) xs ys p q = q ∙ ap (λ (l : List A). l ++ ys) p ∙ append_assoc x xs ys

pub grows_none : {A : Type 0} (a : Option (List A)) → Grows a a []
grows_none None = tt
grows_none (Some x) = sym (append-nil x)
