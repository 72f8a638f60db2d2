-- Lists in ascending order as sets.
use Rattle.std.proofs.Common.{◌≡◌, ◌≢◌, ℕ, ◌<◌, ◌==◌, Bool, true, false, not, cond, ltb, eqb, List, [], ◌∷◌, map}
use Rattle.std.proofs.Common.{Contains, refl, sym, ap, ◌∙◌, subst, ◌⊎◌, inl, inr, arith}
use Rattle.std.specs.List.{filter, AllByRecursion}
use Rattle.std.proofs.lemmas.Bool.{false≢true, eqb-true, eqb-false, eq-eqb, ne_eqb}
use Rattle.mux_types.specs.Configuration.{IsAscending}
use Rattle.mux_types.specs.Tables.{with_entry}
use Rattle.mux_types.specs.Sets.{HasOneList, WithAdds, WithoutTakes, ChangedReplaces}
use Rattle.mux_types.proofs.Elements.{contains_cases, contains_first, contains_later, contains_none, each_contains}
use Rattle.mux_types.proofs.Tables.{each_weaker, ascends_with, ascends_without}

contains_same : {T : Type 0} (y : T) (ys : List T) (x : T) → y ≡ x → Contains (y ∷ ys) x
contains_same y ys x e = subst (Contains (y ∷ ys)) e (contains_first y ys)

-- ---- one list

first_below : {T : Type 0} (key : T → ℕ) (x y : T) (xs ys : List T) → IsAscending key (x ∷ xs)
    → IsAscending key (y ∷ ys) → Contains (y ∷ ys) x → Contains (x ∷ xs) y → x ≡ y
first_below key x y xs ys h k there back =
    elim (contains_cases y ys x there) [
      | inl e ↦ sym e
      | inr later ↦ elim (contains_cases x xs y back) [
        | inl e ↦ e
        | inr other ↦
            let one : key y < key x = each_contains (λ z. key y < key z) ys x k.0 later in
            let two : key x < key y = each_contains (λ z. key x < key z) xs y h.0 other in
            absurd (omega arith)
      ]
    ]

rest_of : {T : Type 0} (key : T → ℕ) (x y : T) (xs ys : List T) (z : T) → x ≡ y → AllByRecursion (λ w. key x < key w) xs
    → Contains xs z → Contains (y ∷ ys) z → Contains ys z
rest_of key x y xs ys z same above there h =
    elim (contains_cases y ys z h) [
      | inl e ↦
          let less : key x < key z = each_contains (λ w. key x < key w) xs z above there in
          let equal : key x ≡ key z = ap key (same ∙ e) in
          absurd (omega arith)
      | inr later ↦ later
    ]

pub one_list : {T : Type 0} (key : T → ℕ) → HasOneList key
one_list key [] [] h k same = refl
one_list key [] (y ∷ ys) h k same = absurd (contains_none y ((same y).1 (contains_first y ys)))
one_list key (x ∷ xs) [] h k same = absurd (contains_none x ((same x).0 (contains_first x xs)))
one_list key (x ∷ xs) (y ∷ ys) h k same =
    let head : x ≡ y = first_below key x y xs ys h k ((same x).0 (contains_first x xs))
    ((same y).1 (contains_first y ys)) in
    let tail : xs ≡ ys = one_list key xs ys h.1 k.1 (λ z. (
      λ there. rest_of key x y xs ys z head h.0 there ((same z).0 (contains_later x xs z there)),
      λ there. rest_of key y x ys xs z (sym head) k.0 there ((same z).1 (contains_later y ys z there)),
    )) in
    cc

-- ---- one more

with_to_by : {T : Type 0} (key : T → ℕ) (y z : T) (zs : List T) (x : T) (t : Bool)
    → Contains (cond t (y ∷ z ∷ zs) (z ∷ with_entry key y zs)) x
    → (Contains (with_entry key y zs) x → (y ≡ x) ⊎ Contains zs x) → (y ≡ x) ⊎ Contains (z ∷ zs) x
with_to_by key y z zs x true h rest = contains_cases y (z ∷ zs) x h
with_to_by key y z zs x false h rest =
    elim (contains_cases z (with_entry key y zs) x h) [
      | inl e ↦ inr (contains_same z zs x e)
      | inr later ↦ elim (rest later) [ inl e ↦ inl e | inr there ↦ inr (contains_later z zs x there) ]
    ]

with_to : {T : Type 0} (key : T → ℕ) (y : T) (xs : List T) (x : T) → Contains (with_entry key y xs) x → (y ≡ x)
    ⊎ Contains xs x
with_to key y [] x h = contains_cases y [] x h
with_to key y (z ∷ zs) x h = with_to_by key y z zs x (ltb (key y) (key z)) h (with_to key y zs x)

with_new_by : {T : Type 0} (key : T → ℕ) (y z : T) (zs : List T) (t : Bool) → Contains (with_entry key y zs) y
    → Contains (cond t (y ∷ z ∷ zs) (z ∷ with_entry key y zs)) y
with_new_by key y z zs true rest = contains_first y (z ∷ zs)
with_new_by key y z zs false rest = contains_later z (with_entry key y zs) y rest

with_new : {T : Type 0} (key : T → ℕ) (y : T) (xs : List T) → Contains (with_entry key y xs) y
with_new key y [] = contains_first y []
with_new key y (z ∷ zs) = with_new_by key y z zs (ltb (key y) (key z)) (with_new key y zs)

with_old_by : {T : Type 0} (key : T → ℕ) (y z : T) (zs : List T) (x : T) (t : Bool) → Contains (z ∷ zs) x
    → (Contains zs x → Contains (with_entry key y zs) x) → Contains (cond t (y ∷ z ∷ zs) (z ∷ with_entry key y zs)) x
with_old_by key y z zs x true h rest = contains_later y (z ∷ zs) x h
with_old_by key y z zs x false h rest =
    elim (contains_cases z zs x h) [
      | inl e ↦ contains_same z (with_entry key y zs) x e
      | inr later ↦
          contains_later z (with_entry key y zs) x (rest later)
    ]

with_old : {T : Type 0} (key : T → ℕ) (y : T) (xs : List T) (x : T) → Contains xs x → Contains (with_entry key y xs) x
with_old key y [] x h = absurd (contains_none x h)
with_old key y (z ∷ zs) x h = with_old_by key y z zs x (ltb (key y) (key z)) h (with_old key y zs x)

pub with_adds : {T : Type 0} (key : T → ℕ) → WithAdds key
with_adds key y xs up absent = record {
  ascends = ascends_with key y xs up absent;
  members = λ x. (
    with_to key y xs x,
    λ h. elim h [
      | inl e ↦ subst (Contains (with_entry key y xs)) e (with_new key y xs)
      | inr there ↦ with_old key y xs x there
    ],
  );
}

-- ---- one less

kept_to_by : {T : Type 0} (test : T → Bool) (z : T) (zs : List T) (x : T) (t : Bool) → test z ≡ t
    → Contains (cond t (z ∷ filter test zs) (filter test zs)) x
    → (Contains (filter test zs) x → Contains zs x × (test x ≡ true)) → Contains (z ∷ zs) x × (test x ≡ true)
kept_to_by test z zs x true is h rest =
    elim (contains_cases z (filter test zs) x h) [
      | inl e ↦ (contains_same z zs x e, ap test (sym e) ∙ is)
      | inr later ↦ let found = rest later in (contains_later z zs x found.0, found.1)
    ]
kept_to_by test z zs x false is h rest = let found = rest h in (contains_later z zs x found.0, found.1)

kept_to : {T : Type 0} (test : T → Bool) (xs : List T) (x : T) → Contains (filter test xs) x → Contains xs x
    × (test x ≡ true)
kept_to test [] x h = absurd (contains_none x h)
kept_to test (z ∷ zs) x h = kept_to_by test z zs x (test z) refl h (kept_to test zs x)

kept_from_by : {T : Type 0} (test : T → Bool) (z : T) (zs : List T) (x : T) (t : Bool) → test z ≡ t
    → Contains (z ∷ zs) x → test x ≡ true → (Contains zs x → Contains (filter test zs) x)
    → Contains (cond t (z ∷ filter test zs) (filter test zs)) x
kept_from_by test z zs x true is h passes rest =
    elim (contains_cases z zs x h) [
      | inl e ↦ contains_same z (filter test zs) x e
      | inr later ↦
          contains_later z (filter test zs) x (rest later)
    ]
kept_from_by test z zs x false is h passes rest =
    elim (contains_cases z zs x h) [
      | inl e ↦ absurd (false≢true (sym is ∙ ap test e ∙ passes))
      | inr later ↦
          rest later
    ]

kept_from : {T : Type 0} (test : T → Bool) (xs : List T) (x : T) → Contains xs x → test x ≡ true
    → Contains (filter test xs) x
kept_from test [] x h passes = absurd (contains_none x h)
kept_from test (z ∷ zs) x h passes =
    kept_from_by test z zs x (test z) refl h passes (λ later. kept_from test zs x later passes)

other_by : (m n : ℕ) (t : Bool) → eqb m n ≡ t → not t ≡ true → m ≢ n
other_by m n true is passes = absurd (false≢true passes)
other_by m n false is passes = eqb-false m n is

pub without_takes : {T : Type 0} (key : T → ℕ) → WithoutTakes key
without_takes key k xs up = record {
  ascends = ascends_without key k xs up;
  members = λ x. (
    λ h. let found = kept_to (λ z. not (key z == k)) xs x h in (found.0, other_by (key x) k (key x == k) refl found.1),
    λ h. kept_from (λ z. not (key z == k)) xs x h.0 (ap not (ne_eqb (key x) k h.1)),
  );
}

-- ---- one changed

pub mapped_to : {T U : Type 0} (f : T → U) (xs : List T) (z : U) → Contains (map f xs) z → (x : T) × Contains xs x
    × (f x ≡ z)
mapped_to f [] z h = absurd (contains_none z h)
mapped_to f (x ∷ xs) z h =
    elim (contains_cases (f x) (map f xs) z h) [
      | inl e ↦ (x, contains_first x xs, e)
      | inr later ↦ let found = mapped_to f xs z later in (found.0, contains_later x xs found.0 found.1, found.2)
    ]

pub mapped_from : {T U : Type 0} (f : T → U) (xs : List T) (x : T) → Contains xs x → Contains (map f xs) (f x)
mapped_from f [] x h = absurd (contains_none x h)
mapped_from f (y ∷ ys) x h =
    elim (contains_cases y ys x h) [
      | inl e ↦ contains_same (f y) (map f ys) (f x) (ap f e)
      | inr later ↦
          contains_later (f y) (map f ys) (f x) (mapped_from f ys x later)
    ]

change_to_by : {T : Type 0} (key : T → ℕ) (k : ℕ) (change : T → T) (xs : List T) (x z : T) (t : Bool) → key x == k ≡ t
    → Contains xs x → cond t (change x) x ≡ z → (Contains xs z × (key z ≢ k))
    ⊎ ((y : T) × Contains xs y × (key y ≡ k) × (change y ≡ z))
change_to_by key k change xs x z true is h e = inr (x, h, eqb-true (key x) k is, e)
change_to_by key k change xs x z false is h e =
    inl (subst (Contains xs) e h, λ same. eqb-false (key x) k is (ap key e ∙ same))

kept_key_by : {T : Type 0} (key : T → ℕ) (k : ℕ) (change : T → T) (x : T) (t : Bool) → key x == k ≡ t
    → ((y : T) → key y ≡ k → key (change y) ≡ k) → key (cond t (change x) x) ≡ key x
kept_key_by key k change x true is keeps = let here = eqb-true (key x) k is in keeps x here ∙ sym here
kept_key_by key k change x false is keeps = refl

each_mapped : {T : Type 0} (f : T → T) (key : T → ℕ) (n : ℕ) (xs : List T) → ((x : T) → key (f x) ≡ key x)
    → AllByRecursion (λ x. n < key x) xs → AllByRecursion (λ x. n < key x) (map f xs)
each_mapped f key n [] same h = tt
each_mapped f key n (x ∷ xs) same h =
    (let first = h.0 in let e = same x in omega (arith, first, e), each_mapped f key n xs same h.1)

ascends_mapped : {T : Type 0} (f : T → T) (key : T → ℕ) (xs : List T) → ((x : T) → key (f x) ≡ key x)
    → IsAscending key xs → IsAscending key (map f xs)
ascends_mapped f key [] same h = tt
ascends_mapped f key (x ∷ xs) same h = (
  let e = same x in each_weaker (λ z. key x < key z) (λ z. key (f x) < key z) (λ z less. omega (arith, less, e))
      (map f xs) (each_mapped f key (key x) xs same h.0),
  ascends_mapped f key xs same h.1,
)

pub changed_replaces : {T : Type 0} (key : T → ℕ) → ChangedReplaces key
changed_replaces {T} key k change xs up keeps =
    let f : T → T = λ x. cond (key x == k) (change x) x in
    record {
      ascends = ascends_mapped f key xs (λ x. kept_key_by key k change x (key x == k) refl keeps) up;
      members = λ z. (
        λ h. let found = mapped_to f xs z h in
            change_to_by key k change xs found.0 z (key found.0 == k) refl found.1 found.2,
        λ h. elim h [
          | inl other ↦ subst (Contains (map f xs)) (ap (λ (t : Bool). cond t (change z) z) (ne_eqb (key z) k other.1))
              (mapped_from f xs z other.0)
          | inr found ↦ subst (Contains (map f xs))
              (ap (λ (t : Bool). cond t (change found.0) found.0) (eq-eqb (key found.0) k found.2) ∙ found.3)
              (mapped_from f xs found.0 found.1)
        ],
      );
    }
