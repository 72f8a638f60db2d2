-- Three ascending lists of entries, one after another.
use Rattle.fib_reader.proofs.Words.{[], ◌++◌, ◌<◌, ◌∙◌, ◌∷◌, ◌≡◌, AllByRecursion, AreInOrder, IsAscending, IsBefore}
use Rattle.fib_reader.proofs.Words.{IsPictured, IsSubOf, List, Pictured, Raw, all_entries, append_assoc, arith}
use Rattle.fib_reader.proofs.Words.{identifier_of, inl, inr, subst, sym, ℕ}

each_and :
    (P Q R : Raw → Type 0) (xs : List Raw) → ((x : Raw) → P x → Q x → R x) → AllByRecursion P xs → AllByRecursion Q xs
    → AllByRecursion R xs
each_and P Q R [] f p q = tt
each_and P Q R (x ∷ xs) f p q = (f x p.0 q.0, each_and P Q R xs f p.1 q.1)

each_both : (P : Raw → Type 0) (xs ys : List Raw) → AllByRecursion P xs → AllByRecursion P ys
    → AllByRecursion P (xs ++ ys)
each_both P [] ys p q = q
each_both P (x ∷ xs) ys p q = (p.0, each_both P xs ys p.1 q)

of_one : (ext : ℕ) (xs : List Raw) → AllByRecursion (λ r. r.ext ≡ ext) xs → IsAscending identifier_of xs → AreInOrder xs
of_one ext [] all up = tt
of_one ext (x ∷ xs) all up = (
  each_and (λ r. r.ext ≡ ext) (λ y. identifier_of x < identifier_of y) (IsBefore x) xs
      (λ y is less. inr (all.0 ∙ sym is, less)) all.1 up.0,
  of_one ext xs all.1 up.1,
)

-- entries of a higher extension come after
behind :
    (low : ℕ) (xs ys : List Raw) → AllByRecursion (λ r. r.ext ≡ low) xs → AllByRecursion (λ r. low < r.ext) ys
    → AreInOrder xs → AreInOrder ys
    → AreInOrder (xs ++ ys)
behind low [] ys all more up after = after
behind low (x ∷ xs) ys all more up after = (
  each_both (IsBefore x) xs ys up.0
      (each_and (λ r. low < r.ext) (λ r. low < r.ext) (IsBefore x) ys
      (λ y less again. inl (let is = all.0 in omega arith)) more more),
  behind low xs ys all.1 more up.1 after,
)

each_turned : (P Q : Raw → Type 0) (xs : List Raw) → ((x : Raw) → P x → Q x) → AllByRecursion P xs → AllByRecursion Q xs
each_turned P Q xs f all = each_and P P Q xs (λ x p again. f x p) all all

pub in_order :
    (p : Pictured) → IsPictured p → IsAscending identifier_of p.subs → IsAscending identifier_of p.services
    → IsAscending identifier_of p.packets → AreInOrder (all_entries p)
in_order p is subs services packets =
    let later : AreInOrder (p.services ++ p.packets) =
    behind 2 p.services p.packets is.services
    (each_turned (λ r. r.ext ≡ 3) (λ r. 2 < r.ext) p.packets (λ r e. omega arith) is.packets)
    (of_one 2 p.services is.services services) (of_one 3 p.packets is.packets packets) in
    let first = each_turned IsSubOf (λ r. r.ext ≡ 1) p.subs (λ r h. h.0) is.subs in
    let above : AllByRecursion (λ r. 1 < r.ext) (p.services ++ p.packets) =
    each_both (λ r. 1 < r.ext) p.services p.packets
    (each_turned (λ r. r.ext ≡ 2) (λ r. 1 < r.ext) p.services (λ r e. omega arith) is.services)
    (each_turned (λ r. r.ext ≡ 3) (λ r. 1 < r.ext) p.packets (λ r e. omega arith) is.packets) in
    subst AreInOrder (sym (append_assoc p.subs p.services p.packets))
    (behind 1 p.subs (p.services ++ p.packets) first above (of_one 1 p.subs first subs) later)
