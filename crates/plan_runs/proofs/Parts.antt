-- A part of a set of entries, given by the known identifiers, and the part after one more entry.
use Rattle.plan_runs.proofs.Words.{[], ◌<◌, ◌==◌, ◌||◌, ◌∙◌, ◌∷◌, ◌≡◌, ◌≢◌, ◌≤◌, ◌⊎◌, AllByRecursion, Bool, IsAscending}
use Rattle.plan_runs.proofs.Words.{List, Raw, Some, ap, arith, cond, eq-eqb, false, has_room, identifier_of, inl, inr}
use Rattle.plan_runs.proofs.Words.{is_known, kept, le-ltb, length, lt-ltb, ne_eqb, or_left, or_right, refl, slice_get}
use Rattle.plan_runs.proofs.Words.{subst, suc, sym, true, ℕ}
use Rattle.mux_config.specs.Tables.{with_entry}
use Rattle.fib_reader.proofs.Keeping.{kept-new, room_for_known, room_for_new, known_where_found, kept_where_found}

abbrev pub In : {T : Type 0} → T → List T → Type 0
In x [] = ⊥
In x (y ∷ ys) = (y ≡ x) ⊎ In x ys

-- the entries whose identifiers are known
abbrev pub partly : (ℕ → Bool) → List Raw → List Raw
partly known [] = []
partly known (x ∷ xs) = cond (known (identifier_of x)) (x ∷ partly known xs) (partly known xs)

abbrev pub with_known : ℕ → (ℕ → Bool) → ℕ → Bool
with_known id known k = known k || (k == id)

pub each_in : {T : Type 0} (P : T → Type 0) (xs : List T) (x : T) → AllByRecursion P xs → In x xs → P x
each_in P [] x all h = absurd h
each_in P (y ∷ ys) x all (inl same) = subst P same all.0
each_in P (y ∷ ys) x all (inr more) = each_in P ys x all.1 more

or_none : (a b : Bool) → b ≡ false → (a || b) ≡ a
or_none true b e = refl
or_none false b e = e

pub clash : {X : Type 0} (b : Bool) → b ≡ true → b ≡ false → X
clash b e f = absurd cc

each_cond : (P : Raw → Type 0) (x : Raw) (ys : List Raw) (b : Bool) → P x → AllByRecursion P ys
    → AllByRecursion P (cond b (x ∷ ys) ys)
each_cond P x ys true h hs = (h, hs)
each_cond P x ys false h hs = hs

pub each_partly : (P : Raw → Type 0) (known : ℕ → Bool) (xs : List Raw) → AllByRecursion P xs
    → AllByRecursion P (partly known xs)
each_partly P known [] h = tt
each_partly P known (x ∷ xs) h = each_cond P x _ _ h.0 (each_partly P known xs h.1)

ascends_cond : (x : Raw) (ys : List Raw) (b : Bool) → AllByRecursion (λ y. identifier_of x < identifier_of y) ys
    → IsAscending identifier_of ys → IsAscending identifier_of (cond b (x ∷ ys) ys)
ascends_cond x ys true h hs = (h, hs)
ascends_cond x ys false h hs = hs

pub ascends_partly : (known : ℕ → Bool) (xs : List Raw) → IsAscending identifier_of xs
    → IsAscending identifier_of (partly known xs)
ascends_partly known [] up = tt
ascends_partly known (x ∷ xs) up =
    ascends_cond x (partly known xs) (known (identifier_of x))
    (each_partly (λ y. identifier_of x < identifier_of y) known xs up.0) (ascends_partly known xs up.1)

-- ---- an entry that is not yet known

with_front : (raw : Raw) (xs : List Raw) → AllByRecursion (λ y. identifier_of raw < identifier_of y) xs
    → with_entry identifier_of raw xs ≡ raw ∷ xs
with_front raw [] h = refl
with_front raw (x ∷ xs) h = ap (λ b. cond b (raw ∷ x ∷ xs) (x ∷ with_entry identifier_of raw xs))
    (lt-ltb (identifier_of raw) (identifier_of x) h.0)

with_behind : (raw x : Raw) (xs : List Raw) → identifier_of x < identifier_of raw
    → with_entry identifier_of raw (x ∷ xs) ≡ x ∷ with_entry identifier_of raw xs
with_behind raw x xs less = ap (λ b. cond b (raw ∷ x ∷ xs) (x ∷ with_entry identifier_of raw xs))
    (le-ltb (identifier_of raw) (identifier_of x) (omega (arith, less)))

same_at : (known : ℕ → Bool) (id k : ℕ) → k ≢ id → with_known id known k ≡ known k
same_at known id k apart = or_none (known k) (k == id) (ne_eqb k id apart)

same_above : (known : ℕ → Bool) (id : ℕ) (xs : List Raw) → AllByRecursion (λ y. id < identifier_of y) xs
    → partly (with_known id known) xs ≡ partly known xs
same_above known id [] h = refl
same_above known id (x ∷ xs) h =
    cc (same_at known id (identifier_of x) (let less = h.0 in λ e. omega (arith, less, e)), same_above known id xs h.1)

known_now : (known : ℕ → Bool) (id : ℕ) → with_known id known id ≡ true
known_now known id = or_right (known id) (id == id) (eq-eqb id id refl)

added_here : (known : ℕ → Bool) (raw : Raw) (xs : List Raw) → IsAscending identifier_of (raw ∷ xs)
    → known (identifier_of raw) ≡ false
    → with_entry identifier_of raw (partly known (raw ∷ xs)) ≡ partly (with_known (identifier_of raw) known) (raw ∷ xs)
added_here known raw xs up new =
    let id : ℕ = identifier_of raw in
    ap (λ b. with_entry identifier_of raw (cond b (raw ∷ partly known xs) (partly known xs))) new
    ∙ with_front raw (partly known xs) (each_partly (λ y. id < identifier_of y) known xs up.0)
    ∙ ap (λ ys. raw ∷ ys) (sym (same_above known id xs up.0))
    ∙ sym (ap (λ b. cond b (raw ∷ partly (with_known id known) xs) (partly (with_known id known) xs))
    (known_now known id))

added_by : (raw x : Raw) (ps qs : List Raw) (b : Bool) → identifier_of x < identifier_of raw
    → with_entry identifier_of raw ps ≡ qs
    → with_entry identifier_of raw (cond b (x ∷ ps) ps) ≡ cond b (x ∷ qs) qs
added_by raw x ps qs true less e = with_behind raw x ps less ∙ ap (λ ys. x ∷ ys) e
added_by raw x ps qs false less e = e

added : (known : ℕ → Bool) (full : List Raw) (raw : Raw) → IsAscending identifier_of full → In raw full
    → known (identifier_of raw) ≡ false
    → with_entry identifier_of raw (partly known full) ≡ partly (with_known (identifier_of raw) known) full
added known [] raw up h new = absurd h
added known (x ∷ xs) raw up (inl same) new = rw same (added_here known raw xs (rw (← same) up) new)
added known (x ∷ xs) raw up (inr more) new =
    let id : ℕ = identifier_of raw in
    let less : identifier_of x < id = each_in (λ y. identifier_of x < identifier_of y) xs raw up.0 more in
    added_by raw x (partly known xs) (partly (with_known id known) xs) (known (identifier_of x)) less
    (added known xs raw up.1 more new)
    ∙ sym (ap (λ b. cond b (x ∷ partly (with_known id known) xs) (partly (with_known id known) xs))
    (same_at known id (identifier_of x) (λ e. omega (arith, less, e))))

unknown_by : (raw x : Raw) (ps : List Raw) (b : Bool) → (b ≡ true → identifier_of x ≢ identifier_of raw)
    → is_known raw ps ≡ false → is_known raw (cond b (x ∷ ps) ps) ≡ false
unknown_by raw x ps true apart e = cc (ne_eqb (identifier_of x) (identifier_of raw) (apart refl), e)
unknown_by raw x ps false apart e = e

unknown : (known : ℕ → Bool) (full : List Raw) (raw : Raw) → known (identifier_of raw) ≡ false
    → is_known raw (partly known full) ≡ false
unknown known [] raw new = refl
unknown known (x ∷ xs) raw new =
    unknown_by raw x _ _ (λ here same. clash _ (sym (ap known same) ∙ here) new) (unknown known xs raw new)

short_by : (x : Raw) (ps : List Raw) (n : ℕ) (b : Bool) → length ps ≤ n → length (cond b (x ∷ ps) ps) ≤ suc n
short_by x ps n true h = omega (arith, h)
short_by x ps n false h = omega (arith, h)

short : (known : ℕ → Bool) (xs : List Raw) → length (partly known xs) ≤ length xs
short known [] = omega arith
short known (x ∷ xs) = short_by x (partly known xs) (length xs) (known (identifier_of x)) (short known xs)

fewer_by : (x : Raw) (ps : List Raw) (n : ℕ) (b : Bool) → length ps < n → length (cond b (x ∷ ps) ps) < suc n
fewer_by x ps n true h = omega (arith, h)
fewer_by x ps n false h = omega (arith, h)

fewer : (known : ℕ → Bool) (full : List Raw) (raw : Raw) → In raw full → known (identifier_of raw) ≡ false
    → length (partly known full) < length full
fewer known [] raw h new = absurd h
fewer known (x ∷ xs) raw (inl same) new =
    let here : known (identifier_of x) ≡ false = ap (λ (y : Raw). known (identifier_of y)) same ∙ new in
    let e : partly known (x ∷ xs) ≡ partly known xs = ap (λ b. cond b (x ∷ partly known xs) (partly known xs)) here in
    subst (λ (ys : List Raw). length ys < suc (length xs)) (sym e) (omega (arith, short known xs))
fewer known (x ∷ xs) raw (inr more) new = fewer_by x _ _ _ (fewer known xs raw more new)

-- ---- an entry that is already known

in_cond : (x raw : Raw) (ps : List Raw) (b : Bool) → In raw ps → In raw (cond b (x ∷ ps) ps)
in_cond x raw ps true h = inr h
in_cond x raw ps false h = h

pub in_partly : (known : ℕ → Bool) (full : List Raw) (raw : Raw) → In raw full → known (identifier_of raw) ≡ true
    → In raw (partly known full)
in_partly known [] raw h old = absurd h
in_partly known (x ∷ xs) raw (inl same) old =
    let here : known (identifier_of x) ≡ true = ap (λ (y : Raw). known (identifier_of y)) same ∙ old in
    let now : In raw (x ∷ partly known xs) = inl same in
    subst (λ (ys : List Raw). In raw ys) (sym (ap (λ b. cond b (x ∷ partly known xs) (partly known xs)) here)) now
in_partly known (x ∷ xs) raw (inr more) old = in_cond x raw _ _ (in_partly known xs raw more old)

place_of : (xs : List Raw) (raw : Raw) → In raw xs → (place : ℕ) × (slice_get xs place ≡ Some raw)
place_of [] raw h = absurd h
place_of (x ∷ xs) raw (inl same) = (0, ap (λ (y : Raw). Some y) same)
place_of (x ∷ xs) raw (inr more) = let there = place_of xs raw more in (suc there.0, there.1)

-- ---- parts

-- a part of the full set that has every entry with the property
pub record IsPart (full : List Raw) (C : Raw → Type 0) (part : List Raw) : Type 0 where
  pub known : ℕ → Bool
  pub is : part ≡ partly known full
  pub has : (raw : Raw) → In raw full → C raw → known (identifier_of raw) ≡ true

-- the property, and one more entry
abbrev pub Also : (Raw → Type 0) → Raw → Raw → Type 0
Also C raw x = C x ⊎ (raw ≡ x)

pub record IsTaken (full : List Raw) (C : Raw → Type 0) (raw : Raw) (part : List Raw) : Type 0 where
  pub room : has_room raw part ≡ true
  pub part_is : IsPart full (Also C raw) (kept raw part)

grown : (known : ℕ → Bool) (id : ℕ) (k : ℕ) → known k ≡ true → with_known id known k ≡ true
grown known id k e = or_left (known k) (k == id) e

take_by : (full : List Raw) (C : Raw → Type 0) (raw : Raw) (known : ℕ → Bool) → IsAscending identifier_of full
    → length full ≤ 64 → In raw full
    → ((x : Raw) → In x full → C x → known (identifier_of x) ≡ true) → (b : Bool) → known (identifier_of raw) ≡ b
    → IsTaken full C raw (partly known full)
take_by full C raw known up few inside has true e =
    let there = place_of (partly known full) raw (in_partly known full raw inside e) in
    record {
      room = room_for_known raw (partly known full) (known_where_found raw (partly known full) there.0 there.1);
      part_is = record {
        known = known;
        is = sym (kept_where_found raw (partly known full) there.0 (ascends_partly known full up) there.1);
        has = λ x in_full c. elim c [
          | inl old ↦ has x in_full old
          | inr now ↦ ap (λ (y : Raw). known (identifier_of y)) (sym now) ∙ e
        ];
      };
    }
take_by full C raw known up few inside has false e =
    record {
      room = room_for_new raw (partly known full) (omega (arith, fewer known full raw inside e, few));
      part_is = record {
        known = with_known (identifier_of raw) known;
        is = kept-new raw (partly known full) (unknown known full raw e) ∙ added known full raw up inside e;
        has = λ x in_full c. elim c [
          | inl old ↦ grown known (identifier_of raw) (identifier_of x) (has x in_full old)
          | inr now ↦ ap (λ (y : Raw). with_known (identifier_of raw) known (identifier_of y)) (sym now)
              ∙ known_now known (identifier_of raw)
        ];
      };
    }

pub part_takes : (full : List Raw) (C : Raw → Type 0) (raw : Raw) (part : List Raw) → IsAscending identifier_of full
    → length full ≤ 64 → In raw full → IsPart full C part → IsTaken full C raw part
part_takes full C raw part up few inside h = rw h.is (take_by full C raw h.known up few inside h.has _ refl)

pub part_weaker : (full : List Raw) (C D : Raw → Type 0) (part : List Raw) → ((x : Raw) → In x full → D x → C x)
    → IsPart full C part → IsPart full D part
part_weaker full C D part f h = record { known = h.known; is = h.is; has = λ x inside d. h.has x inside (f x inside d) }

none_known : (xs : List Raw) → [] ≡ partly (λ k. false) xs
none_known [] = refl
none_known (x ∷ xs) = none_known xs

pub part_empty : (full : List Raw) → IsPart full (λ x. ⊥) []
part_empty full = record { known = λ k. false; is = none_known full; has = λ x inside c. absurd c }

all_known : (known : ℕ → Bool) (xs : List Raw) → ((x : Raw) → In x xs → known (identifier_of x) ≡ true)
    → partly known xs ≡ xs
all_known known [] h = refl
all_known known (x ∷ xs) h = cc (h x (inl refl), all_known known xs (λ y more. h y (inr more)))

pub part_whole : (full : List Raw) (C : Raw → Type 0) (part : List Raw) → IsPart full C part
    → ((x : Raw) → In x full → C x) → full ≡ part
part_whole full C part h all = sym (h.is ∙ all_known h.known full (λ x inside. h.has x inside (all x inside)))
