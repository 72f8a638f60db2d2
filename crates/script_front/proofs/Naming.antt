-- A name is found exactly if it is among the names.
use Rattle.script_front.proofs.Words.{[], ◌++◌, ◌<◌, ◌||◌, ◌∙◌, ◌∷◌, ◌≡◌, ◌≢◌, Bool, IfSome, List, None, Option, Some}
use Rattle.script_front.proofs.Words.{ap, arith, bytes_eq, bytes_eq-Decides, false, get_or, length, list_any, map}
use Rattle.script_front.proofs.Words.{position, position-Some, position_or_len, refl, slice_get, string_bytes, suc, sym}
use Rattle.script_front.proofs.Words.{true, zero, ℕ}
use Rattle.std.specs.String.{string_eq}
use Rattle.std.proofs.lemmas.Bool.{false≢true}
use Rattle.std.specs.declared.string.String.{String}
use Rattle.indexmap.specs.IndexSet.{insert_key}

or_left : (s t : Bool) → (s || t) ≡ false → s ≡ false
or_left true t e = e
or_left false t e = refl

or_right : (s t : Bool) → (s || t) ≡ false → t ≡ false
or_right true t e = absurd (false≢true (sym e))
or_right false t e = e

module _ {Y : Type 0} where
  abbrev pub is_name : List ℕ → String Y → Bool
  is_name bs k = bytes_eq bs (string_bytes k)

  at : (ks : List (String Y)) (i : ℕ) (d : String Y) → i < length ks
      → slice_get (map string_bytes ks) i ≡ Some (string_bytes (get_or ks i d))
  at [] i d lt = absurd (omega arith)
  at (k ∷ ks) zero d lt = refl
  at (k ∷ ks) (suc i) d lt = at ks i d (omega arith)

  found_in : (bs : List ℕ) (k : String Y) (ks : List (String Y)) (i : ℕ) → position (is_name bs) (k ∷ ks) ≡ Some i
      → slice_get (map string_bytes (k ∷ ks)) i ≡ Some bs
  found_in bs k ks i e =
      let p = position-Some (is_name bs) (k ∷ ks) i k e in
      at (k ∷ ks) i k p.0 ∙ ap Some (sym ((bytes_eq-Decides bs (string_bytes (get_or (k ∷ ks) i k))).0 p.1))

  found : (bs : List ℕ) (ks : List (String Y)) (i : ℕ) → position (is_name bs) ks ≡ Some i
      → slice_get (map string_bytes ks) i ≡ Some bs
  found bs [] i e = absurd (cc)
  found bs (k ∷ ks) i e = found_in bs k ks i e

  pub found_if : (bs : List ℕ) (ks : List (String Y)) (r : Option ℕ) → r ≡ position (is_name bs) ks
      → IfSome r (λ i. slice_get (map string_bytes ks) i ≡ Some bs)
  found_if bs ks None e = tt
  found_if bs ks (Some i) e = found bs ks i (sym e)

  pub absent : (bs : List ℕ) (ks : List (String Y)) → list_any (is_name bs) ks ≡ false → (i : ℕ)
      → slice_get (map string_bytes ks) i ≢ Some bs
  absent bs [] none i e = absurd (cc)
  absent bs (k ∷ ks) none zero e =
      false≢true (sym (or_left (is_name bs k) (list_any (is_name bs) ks) none)
      ∙ (bytes_eq-Decides bs (string_bytes k)).1 (let f : string_bytes k ≡ bs = cc in sym f))
  absent bs (k ∷ ks) none (suc i) e = absent bs ks (or_right (is_name bs k) (list_any (is_name bs) ks) none) i e

  differs : (bs : List ℕ) (k : String Y) (t : Bool) → is_name bs k ≡ t → (string_bytes k ≡ bs → ⊥) → t ≡ false
  differs bs k true e ne = absurd (ne (sym ((bytes_eq-Decides bs (string_bytes k)).0 e)))
  differs bs k false e ne = refl

  none_of : (bs : List ℕ) (ks : List (String Y)) → ((i : ℕ) → slice_get (map string_bytes ks) i ≢ Some bs)
      → list_any (is_name bs) ks ≡ false
  none_of bs [] new = refl
  none_of bs (k ∷ ks) new =
      rw ((differs bs k (is_name bs k) refl (λ e. new 0 (ap Some e)))) (none_of bs ks (λ i. new (suc i)))

  map_append : (ks : List (String Y)) (k : String Y) → map string_bytes (ks ++ k ∷ []) ≡ map string_bytes ks
      ++ string_bytes k ∷ []
  map_append [] k = refl
  map_append (x ∷ ks) k = ap (λ xs. string_bytes x ∷ xs) (map_append ks k)

  pub added : (bs : List ℕ) (ks : List (String Y)) (k : String Y) → string_bytes k ≡ bs
      → ((i : ℕ) → slice_get (map string_bytes ks) i ≢ Some bs)
      → map string_bytes (insert_key string_eq ks k) ≡ map string_bytes ks ++ bs ∷ []
  added bs ks k is new =
      let none = ap (λ b. list_any (λ x. bytes_eq b (string_bytes x)) ks) is ∙ none_of bs ks new in
      rw (none) (rw (← is) (map_append ks k))

  map_length : (ks : List (String Y)) → length (map string_bytes ks) ≡ length ks
  map_length [] = refl
  map_length (k ∷ ks) = ap suc (map_length ks)

  places : (bs : List ℕ) (ks : List (String Y)) → position_or_len (is_name bs) ks
      ≡ position_or_len (bytes_eq bs) (map string_bytes ks)
  places bs [] = refl
  places bs (k ∷ ks) = let r = places bs ks in cc

  pub place_is : (bs : List ℕ) (ks : List (String Y)) → position (is_name bs) ks
      ≡ position (bytes_eq bs) (map string_bytes ks)
  place_is bs ks = rw (places bs ks, map_length ks) refl

  pub within_if : (ks : List (String Y)) (r : Option ℕ) → IfSome r (λ i. i < length ks)
      → IfSome r (λ i. i < length (map string_bytes ks))
  within_if ks None h = tt
  within_if ks (Some i) h = rw (map_length ks) h
