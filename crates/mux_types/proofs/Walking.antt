-- Walking along a list, index by index: what is left of it, of two lists that are compared, and of a search.
use Rattle.std.proofs.Common.{◌≡◌, ℕ, zero, suc, ◌+◌, ◌≤◌, Bool, true, false, ◌&&◌, ◌||◌, List, [], ◌∷◌, length, drop}
use Rattle.std.proofs.Common.{Some, refl, sym, ap, ◌∙◌, subst, slice_get, add-one}
use Rattle.std.proofs.Math.ListN.{drop_of_length-le}
use Rattle.std.specs.List.{list_any, AllByRecursion}
use Rattle.mux_types.specs.Sameness.{is_same_list}

-- ---- a walk along a list, index by index

cut_suc : {T : Type 0} (xs : List T) (i : ℕ) (x : T) → slice_get xs i ≡ Some x → drop i xs ≡ x ∷ drop (suc i) xs
cut_suc [] i x e = absurd (cc)
cut_suc (y ∷ ys) zero x e = let same : y ≡ x = cc in cc
cut_suc (y ∷ ys) (suc i) x e = cut_suc ys i x e

pub cut : {T : Type 0} (xs : List T) (i : ℕ) (x : T) → slice_get xs i ≡ Some x → drop i xs ≡ x ∷ drop (i + 1) xs
cut xs i x e = rw add-one (cut_suc xs i x e)

pub walked : {T : Type 0} (xs : List T) (i : ℕ) → length xs ≤ i → drop i xs ≡ []
walked xs i le = drop_of_length-le xs le

pub same_step : {T : Type 0} (same : T → T → Bool) (xs ys : List T) (i : ℕ) (x y : T) → slice_get xs i ≡ Some x
    → slice_get ys i ≡ Some y → is_same_list same (drop i xs) (drop i ys)
    ≡ (same x y && is_same_list same (drop (i + 1) xs) (drop (i + 1) ys))
same_step same xs ys i x y e f = rw (cut xs i x e, cut ys i y f) refl

-- the walk has not decided so far, and then continues or ends
pub same_more : {T : Type 0} (same : T → T → Bool) (xs ys : List T) (i : ℕ) (x y : T) (b : Bool)
    → is_same_list same (drop i xs) (drop i ys) ≡ b → slice_get xs i ≡ Some x → slice_get ys i ≡ Some y
    → same x y ≡ true → is_same_list same (drop (i + 1) xs) (drop (i + 1) ys) ≡ b
same_more same xs ys i x y b left e f here =
    ap (λ (t : Bool). t && is_same_list same (drop (i + 1) xs) (drop (i + 1) ys)) (sym here)
    ∙ sym (same_step same xs ys i x y e f) ∙ left

pub same_not : {T : Type 0} (same : T → T → Bool) (xs ys : List T) (i : ℕ) (x y : T) (b : Bool)
    → is_same_list same (drop i xs) (drop i ys) ≡ b → slice_get xs i ≡ Some x → slice_get ys i ≡ Some y
    → same x y ≡ false → false ≡ b
same_not same xs ys i x y b left e f here =
    ap (λ (t : Bool). t && is_same_list same (drop (i + 1) xs) (drop (i + 1) ys)) (sym here)
    ∙ sym (same_step same xs ys i x y e f) ∙ left

pub any_step : {T : Type 0} (test : T → Bool) (xs : List T) (i : ℕ) (x : T) → slice_get xs i ≡ Some x
    → list_any test (drop i xs) ≡ (test x || list_any test (drop (i + 1) xs))
any_step test xs i x e = rw (cut xs i x e) refl

pub any_end : {T : Type 0} (test : T → Bool) (xs : List T) (i : ℕ) → length xs ≤ i → list_any test (drop i xs) ≡ false
any_end test xs i h = rw (walked xs i h) refl

pub any_more : {T : Type 0} (test : T → Bool) (xs : List T) (i : ℕ) (x : T) (b : Bool) → list_any test (drop i xs) ≡ b
    → slice_get xs i ≡ Some x → test x ≡ false → list_any test (drop (i + 1) xs) ≡ b
any_more test xs i x b left e here = ap (λ (t : Bool). t || list_any test (drop (i + 1) xs)) (sym here)
    ∙ sym (any_step test xs i x e) ∙ left

pub any_found : {T : Type 0} (test : T → Bool) (xs : List T) (i : ℕ) (x : T) (b : Bool) → list_any test (drop i xs) ≡ b
    → slice_get xs i ≡ Some x → test x ≡ true → true ≡ b
any_found test xs i x b left e here = ap (λ (t : Bool). t || list_any test (drop (i + 1) xs)) (sym here)
    ∙ sym (any_step test xs i x e) ∙ left

-- what holds for each member holds for the one at an index
pub each_at : {T : Type 0} (P : T → Type 0) (xs : List T) (i : ℕ) (x : T) → AllByRecursion P xs
    → slice_get xs i ≡ Some x → P x
each_at P [] i x h e = absurd (cc)
each_at P (y ∷ ys) zero x h e = let same : y ≡ x = cc in subst P same h.0
each_at P (y ∷ ys) (suc i) x h e = each_at P ys i x h.1 e
