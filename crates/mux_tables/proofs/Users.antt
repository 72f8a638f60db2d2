-- The number of sub-channels that cover a unit: how edits change it, and that two share the unit if it is above 1.
use Rattle.mux_tables.proofs.Words.{[], ◌*◌, ◌+◌, ◌<◌, ◌==◌, ◌∙◌, ◌∷◌, ◌≡◌, ◌≢◌, ◌≤◌, AllByRecursion, Block, Bool}
use Rattle.mux_tables.proofs.Words.{Contains, Counts, CountsIn, CountsOut, IsAscending, IsUnitOf, List, Some}
use Rattle.mux_tables.proofs.Words.{Span, Sub, ap, arith, cases_lt, cond, contains_cases, contains_first}
use Rattle.mux_tables.proofs.Words.{contains_later, contains_none, each_contains, entry_at, eqb-true, false, filter}
use Rattle.mux_tables.proofs.Words.{has_unit, inl, inr, length, ltb, nat_tests, not, refl, share, span_of, sub_key}
use Rattle.mux_tables.proofs.Words.{subst, sym, true, users, with_entry, with_entry_changed, without_entry, ℕ}
use Rattle.mux_tables.proofs.Lanes.{block_agree}
use Rattle.mux_tables.proofs.Members.{without_below, unchanged}

length_kept : (t : Bool) (x : Sub) (xs : List Sub) → length (cond t (x ∷ xs) xs) ≡ cond t 1 0 + length xs
length_kept true x xs = omega arith
length_kept false x xs = omega arith

pub users_cons : (x : Sub) (xs : List Sub) (u : ℕ) → users (x ∷ xs) u ≡ share (span_of x) u + users xs u
users_cons x xs u = length_kept (has_unit (span_of x) u) x (filter (λ s. has_unit (span_of s) u) xs)

share_small : (s : Span) (u : ℕ) → share s u ≤ 1
share_small s u = grind (arith, nat_tests)

pub users_within : (xs : List Sub) (u : ℕ) → users xs u ≤ length xs
users_within [] u = omega arith
users_within (x ∷ xs) u = let rest = users_within xs u in let one = share_small (span_of x) u in let e =
    users_cons x xs u in omega (arith, rest, one, e)

-- ---- edits

users_cond : (t : Bool) (xs ys : List Sub) (u n : ℕ) → users xs u ≡ n → users ys u ≡ n → users (cond t xs ys) u ≡ n
users_cond true xs ys u n e f = e
users_cond false xs ys u n e f = f

pub users_with : (y : Sub) (xs : List Sub) (u : ℕ) → users (with_entry sub_key y xs) u ≡ users xs u
    + share (span_of y) u
users_with y [] u = let e = users_cons y [] u in omega (arith, e)
users_with y (x ∷ xs) u =
    let f = users_cons x (with_entry sub_key y xs) u in
    let g = users_cons x xs u in
    let rest = users_with y xs u in
    users_cond (ltb (sub_key y) (sub_key x)) (y ∷ x ∷ xs) (x ∷ with_entry sub_key y xs) u
    (users (x ∷ xs) u + share (span_of y) u) (omega (arith, users_cons y (x ∷ xs) u)) (omega (arith, f, g, rest))

without_by : (t : Bool) (x s : Sub) (k u : ℕ) (xs : List Sub) → (sub_key x == k) ≡ t → IsAscending sub_key (x ∷ xs)
    → cond t (Some x) (entry_at sub_key k xs) ≡ Some s
    → (entry_at sub_key k xs ≡ Some s → users xs u ≡ users (without_entry sub_key k xs) u + share (span_of s) u)
    → users (x ∷ xs) u ≡ users (cond (not t) (x ∷ without_entry sub_key k xs) (without_entry sub_key k xs)) u
    + share (span_of s) u
without_by true x s k u xs is h e rest =
    let same : x ≡ s = cc in
    let at : sub_key x ≡ k = eqb-true (sub_key x) k is in
    let none = without_below sub_key k xs (subst (λ (n : ℕ). AllByRecursion (λ y. n < sub_key y) xs) at h.0) in
    let i : share (span_of x) u ≡ share (span_of s) u = ap (λ (y : Sub). share (span_of y) u) same in
    omega (arith, users_cons x xs u, ap (λ (ys : List Sub). users ys u) none, i)
without_by false x s k u xs is h e rest =
    let f = users_cons x xs u in
    omega (arith, f, users_cons x (without_entry sub_key k xs) u)

pub users_without : (k : ℕ) (xs : List Sub) (s : Sub) (u : ℕ) → IsAscending sub_key xs → entry_at sub_key k xs ≡ Some s
    → users xs u ≡ users (without_entry sub_key k xs) u + share (span_of s) u
users_without k [] s u h e = absurd (cc)
users_without k (x ∷ xs) s u h e = without_by (sub_key x == k) x s k u xs refl h e (λ f. users_without k xs s u h.1 f)

changed_by : (t : Bool) (x y s : Sub) (u : ℕ) (xs : List Sub) → (sub_key x == sub_key y) ≡ t
    → IsAscending sub_key (x ∷ xs) → cond t (Some x) (entry_at sub_key (sub_key y) xs) ≡ Some s
    → (entry_at sub_key (sub_key y) xs ≡ Some s → users (with_entry_changed sub_key y xs) u + share (span_of s) u
    ≡ users xs u + share (span_of y) u)
    → users (cond t y x ∷ with_entry_changed sub_key y xs) u + share (span_of s) u ≡ users (x ∷ xs) u
    + share (span_of y) u
changed_by true x y s u xs is h e rest =
    let same : x ≡ s = cc in
    let at : sub_key x ≡ sub_key y = eqb-true (sub_key x) (sub_key y) is in
    let none = unchanged sub_key y xs (subst (λ (n : ℕ). AllByRecursion (λ z. n < sub_key z) xs) at h.0) in
    let j = users_cons y (with_entry_changed sub_key y xs) u in
    let i : share (span_of x) u ≡ share (span_of s) u = ap (λ (z : Sub). share (span_of z) u) same in
    omega (arith, users_cons x xs u, ap (λ (ys : List Sub). users ys u) none, i, j)
changed_by false x y s u xs is h e rest =
    let f = users_cons x xs u in
    omega (arith, f, users_cons x (with_entry_changed sub_key y xs) u)

pub users_changed : (y : Sub) (xs : List Sub) (s : Sub) (u : ℕ) → IsAscending sub_key xs
    → entry_at sub_key (sub_key y) xs ≡ Some s → users (with_entry_changed sub_key y xs) u + share (span_of s) u
    ≡ users xs u + share (span_of y) u
users_changed y [] s u h e = absurd (cc)
users_changed y (x ∷ xs) s u h e = changed_by _ _ _ _ _ _ refl h e (λ f. users_changed y xs s u h.1 f)

-- ---- the map of the units

pub same_counts : (blocks : List Block) (f g : ℕ → ℕ) → ((u : ℕ) → f u ≡ g u) → Counts blocks f → Counts blocks g
same_counts blocks f g h counts =
    record { each = λ b lt. counts.each b lt ∙ block_agree f g b (λ j less. h (32 * b + j)) }

few_users : (xs : List Sub) (u : ℕ) → length xs ≤ 64 → users xs u < 255
few_users xs u few = let n = users_within xs u in omega (arith, few, n)

pub counts_with : (before after : List Block) (y : Sub) (xs : List Sub) → length xs ≤ 64
    → CountsIn before after (span_of y) → Counts before (users xs) → Counts after (users (with_entry sub_key y xs))
counts_with before after y xs few in_map counts =
    same_counts after (λ u. users xs u + share (span_of y) u) (users (with_entry sub_key y xs))
    (λ u. sym (users_with y xs u))
    (in_map (users xs) (λ u. few_users xs u few) counts)

pub counts_without : (before after : List Block) (k : ℕ) (s : Sub) (xs : List Sub) → length xs ≤ 64
    → IsAscending sub_key xs → entry_at sub_key k xs ≡ Some s → CountsOut before after (span_of s)
    → Counts before (users xs) → Counts after (users (without_entry sub_key k xs))
counts_without before after k s xs few order there out_map counts =
    out_map (users (without_entry sub_key k xs)) (λ u. let n = few_users xs u few in let e =
    users_without k xs s u order there in omega (arith, n, e))
    (same_counts before (users xs) (λ u. users (without_entry sub_key k xs) u + share (span_of s) u)
    (λ u. users_without k xs s u order there) counts)

pub counts_changed : (before between after : List Block) (y s : Sub) (xs : List Sub) → length xs ≤ 64
    → IsAscending sub_key xs → entry_at sub_key (sub_key y) xs ≡ Some s
    → CountsOut before between (span_of s) → CountsIn between after (span_of y) → Counts before (users xs)
    → Counts after (users (with_entry_changed sub_key y xs))
counts_changed before between after y s xs few order there out_map in_map counts =
    same_counts after (λ u. users (without_entry sub_key (sub_key y) xs) u + share (span_of y) u)
    (users (with_entry_changed sub_key y xs))
    (λ u. let e = users_without (sub_key y) xs s u order there in let f = users_changed y xs s u order there in
    omega (arith, e, f))
    (in_map (users (without_entry sub_key (sub_key y) xs))
    (λ u. let n = few_users xs u few in let e = users_without (sub_key y) xs s u order there in omega (arith, n, e))
    (counts_without before between (sub_key y) s xs few order there out_map counts))

-- ---- two that share a unit

shared : (s : Sub) (u : ℕ) → 0 < share (span_of s) u → IsUnitOf s u
shared s u h = (grind (arith, nat_tests), grind (arith, nat_tests))

shares : (s : Sub) (u : ℕ) → IsUnitOf s u → share (span_of s) u ≡ 1
shares s u h = let a = h.0 in let b = h.1 in grind (arith, nat_tests, a, b)

user_told : (xs : List Sub) (u : ℕ) → 0 < users xs u → (s : Sub) × Contains xs s × IsUnitOf s u
user_told [] u h = absurd (omega arith)
user_told (x ∷ xs) u h =
    elim (cases_lt 0 (share (span_of x) u)) [
      | inl lt ↦ (x, contains_first x xs, shared x u lt)
      | inr ge ↦ let e = users_cons x xs u in let rest = user_told xs u (omega (arith, ge, e, h)) in
          (rest.0, contains_later x xs rest.0 rest.1, rest.2)
    ]

pub record Sharing (xs : List Sub) (u : ℕ) : Type 0 where
  pub first : Sub
  pub second : Sub
  pub has_first : Contains xs first
  pub has_second : Contains xs second
  pub less : first.id < second.id
  pub of_first : IsUnitOf first u
  pub of_second : IsUnitOf second u

pub sharing_told : (xs : List Sub) (u : ℕ) → IsAscending sub_key xs → 1 < users xs u → Sharing xs u
sharing_told [] u order h = absurd (omega arith)
sharing_told (x ∷ xs) u order h =
    elim (cases_lt 1 (users xs u)) [
      | inl lt ↦
          let rest = sharing_told xs u order.1 lt in
          record {
            first = rest.first;
            second = rest.second;
            has_first = contains_later x xs rest.first rest.has_first;
            has_second = contains_later x xs rest.second rest.has_second;
            less = rest.less;
            of_first = rest.of_first;
            of_second = rest.of_second;
          }
      | inr ge ↦
          let here : 0 < share (span_of x) u = omega (arith, users_cons x xs u, share_small (span_of x) u, ge, h) in
          let other = user_told xs u (omega (arith, users_cons x xs u, share_small (span_of x) u, ge, h)) in
          record {
            first = x;
            second = other.0;
            has_first = contains_first x xs;
            has_second = contains_later x xs other.0 other.1;
            less = each_contains (λ (y : Sub). x.id < y.id) xs other.0 order.0 other.1;
            of_first = shared x u here;
            of_second = other.2;
          }
    ]

user_found : (xs : List Sub) (u : ℕ) (s : Sub) → Contains xs s → IsUnitOf s u → 0 < users xs u
user_found [] u s there h = absurd (contains_none s there)
user_found (x ∷ xs) u s there h =
    elim (contains_cases x xs s there) [
      | inl same ↦ let one = shares s u h in let f : share (span_of x) u ≡ share (span_of s) u =
          ap (λ (y : Sub). share (span_of y) u) same in omega (arith, users_cons x xs u, f, one)
      | inr later ↦ let rest = user_found xs u s later h in omega (arith, users_cons x xs u, rest)
    ]

both_first : (x a b : Sub) (xs : List Sub) (u : ℕ) → x ≡ a → IsUnitOf a u → Contains xs b → IsUnitOf b u
    → 1 < users (x ∷ xs) u
both_first x a b xs u same h later k =
    let f : share (span_of x) u ≡ share (span_of a) u = ap (λ (y : Sub). share (span_of y) u) same in
    let rest = user_found xs u b later k in omega (arith, users_cons x xs u, f, shares a u h, rest)

pub two_found : (xs : List Sub) (u : ℕ) (a b : Sub) → Contains xs a → Contains xs b → a.id ≢ b.id → IsUnitOf a u
    → IsUnitOf b u → 1 < users xs u
two_found [] u a b has_a has_b differ h k = absurd (contains_none a has_a)
two_found (x ∷ xs) u a b has_a has_b differ h k =
    elim (contains_cases x xs a has_a) [
      | inl p ↦ elim (contains_cases x xs b has_b) [
        | inl q ↦ absurd (differ (ap (λ (y : Sub). y.id) (sym p ∙ q)))
        | inr q ↦ both_first x a b xs u p h q k
      ]
      | inr p ↦ elim (contains_cases x xs b has_b) [
        | inl q ↦ both_first x b a xs u q k p h
        | inr q ↦ let e = users_cons x xs u in let rest = two_found xs u a b p q differ h k in omega (arith, e, rest)
      ]
    ]
