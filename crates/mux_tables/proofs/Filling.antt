-- Sub-channels are added one after another, and removed again.
use Rattle.mux_tables.proofs.Words.{[], ◌%◌, ◌+◌, ◌<◌, ◌==◌, ◌∙◌, ◌∷◌, ◌≡◌, AllByRecursion, Configuration, IfSome}
use Rattle.mux_tables.proofs.Words.{IsAscending, IsPlaced, List, None, Option, Some, Sub, absent_found, add-one}
use Rattle.mux_tables.proofs.Words.{add_sub_fault, ap, arith, entry_at, entry_holds, false, le-ltb, ltb, ne_eqb}
use Rattle.mux_tables.proofs.Words.{placing_fault, refl, size_of_sub, slice_get, sub_added, sub_key, subst, suc, sym}
use Rattle.mux_tables.proofs.Words.{take, with_entry, zero, ℕ}
use Rattle.mux_eep.specs.Sizes.{rate_step}

pub placed_if : (id : ℕ) (xs : List Sub) (o : Option Sub) → AllByRecursion IsPlaced xs → o ≡ entry_at sub_key id xs
    → IfSome o (λ s. IsPlaced s)
placed_if id xs None h e = tt
placed_if id xs (Some s) h e = entry_holds IsPlaced sub_key id xs s h (sym e)

-- ---- a member of a list in ascending order

member : {T : Type 0} (P : T → Type 0) (xs : List T) (i : ℕ) (y : T) → AllByRecursion P xs → slice_get xs i ≡ Some y
    → P y
member P [] i y h e = absurd (cc)
member P (x ∷ xs) zero y h e = let is : x ≡ y = cc in subst P is h.0
member P (x ∷ xs) (suc i) y h e = member P xs i y h.1 e

absent_before : (xs : List Sub) (i : ℕ) (y : Sub) → IsAscending sub_key xs → slice_get xs i ≡ Some y
    → entry_at sub_key y.id (take i xs) ≡ None
absent_before [] i y h e = absurd (cc)
absent_before (x ∷ xs) zero y h e = refl
absent_before (x ∷ xs) (suc i) y h e =
    let less = member (λ (z : Sub). x.id < z.id) xs i y h.0 e in
    rw ((ne_eqb x.id y.id (λ f. omega (arith, less, f)))) (absent_before xs i y h.1 e)

with_next : (xs : List Sub) (i : ℕ) (y : Sub) → IsAscending sub_key xs → slice_get xs i ≡ Some y
    → with_entry sub_key y (take i xs) ≡ take (suc i) xs
with_next [] i y h e = absurd (cc)
with_next (x ∷ xs) zero y h e = let is : x ≡ y = cc in ap (λ (z : Sub). z ∷ []) (sym is)
with_next (x ∷ xs) (suc i) y h e =
    let less = member (λ (z : Sub). x.id < z.id) xs i y h.0 e in
    rw ((le-ltb y.id x.id (omega (arith, less)))) (ap (λ (zs : List Sub). x ∷ zs) (with_next xs i y h.1 e))

placing_none : (y : Sub) → IsPlaced y → placing_fault y ≡ None
placing_none y h =
    let size = h.sized in
    let some : (y.kbits == 0) ≡ false = ne_eqb y.kbits 0 (λ e. omega (arith, e)) in
    let within : ltb 864 (size_of_sub y) ≡ false = le-ltb 864 (size_of_sub y) size.within in
    let ends : ltb 864 (y.start + size_of_sub y) ≡ false = le-ltb 864 (y.start + size_of_sub y) h.ends in
    rw (some, (le-ltb 0 (y.kbits % rate_step y.protection.set) (omega arith)), within, ends) refl

pub fits_next : (c d : Configuration) (xs : List Sub) (i : ℕ) (y : Sub) → IsAscending sub_key xs
    → AllByRecursion IsPlaced xs → slice_get xs i ≡ Some y → d ≡ record c { subs = take i xs }
    → add_sub_fault y d ≡ None
fits_next c d xs i y order placed e is =
    let absent = absent_found sub_key y.id (take i xs) (absent_before xs i y order e) in
    rw (is, absent) (placing_none y (member IsPlaced xs i y placed e))

pub added_next : (c d : Configuration) (xs : List Sub) (i : ℕ) (y : Sub) → IsAscending sub_key xs
    → slice_get xs i ≡ Some y → d ≡ record c { subs = take i xs } → sub_added y d ≡ record c { subs = take (i + 1) xs }
added_next c d xs i y order e is =
    ap (sub_added y) is ∙ ap (λ (zs : List Sub). record c { subs = zs }) (rw add-one (with_next xs i y order e))
