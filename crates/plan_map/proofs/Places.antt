-- The places of sub-channels: those that serve all of them, and what clashes otherwise.
use Rattle.plan_map.proofs.Words.{[], ◌++◌, ◌+◌, ◌<◌, ◌==◌, ◌||◌, ◌∙◌, ◌∷◌, ◌≡◌, ◌≤◌, ◌⊎◌, AllByRecursion, Bool}
use Rattle.plan_map.proofs.Words.{IsClash, IsConfiguration, IsPlaced, List, None, Occurs, Option, Row, Serves, Some}
use Rattle.plan_map.proofs.Words.{Sub, ap, append_assoc, arith, cases_lt, clash_of, clash_with, clashes, eq-eqb, false}
use Rattle.plan_map.proofs.Words.{first_clash, first_with, flat_map, get_or, if◌then◌else◌, in_order, inl, inr}
use Rattle.plan_map.proofs.Words.{is_refused, is_served, le-ltb, length, list_any, listed, lt-ltb, ltb, ne_eqb, not}
use Rattle.plan_map.proofs.Words.{not-false, place_of, places, range_with_len, refl, row_subs, shares, subs_of, subst}
use Rattle.plan_map.proofs.Words.{suc, sym, take, true, zero, ℕ}
use Rattle.std.proofs.Math.Bool.{and_comm}
use Rattle.std.proofs.lemmas.List.Folds.{list_any-append}
use Rattle.mux_types.specs.Sameness.{is_same_sub}
use Rattle.plan_map.specs.declared.layout.Clash.{Clash}
use Rattle.plan_map.specs.Cells.{end_of}
use Rattle.plan_map.specs.Layout.{places_below}
use Rattle.plan_map.proofs.Pieces.{texts_more}

same_number : (n : ℕ) → n == n ≡ true
same_number n = eq-eqb n n refl

-- a list with a sub-channel has a first one with its identifier
record HasFirst (id : ℕ) (subs : List Sub) : Type 0 where
  one : Sub
  found : first_with id subs ≡ Some one
  named : (one.id == id) ≡ true

first_by : (id : ℕ) (s : Sub) (ss : List Sub) (b : Bool) → (s.id == id) ≡ b → HasFirst id ss → HasFirst id (s ∷ ss)
first_by id s ss true e later = record { one = s; found = rw e refl; named = e }
first_by id s ss false e later = record { one = later.one; found = rw e later.found; named = later.named }

has_first : (before ss : List Sub) (s : Sub) → HasFirst s.id (before ++ s ∷ ss)
has_first [] ss s = record { one = s; found = rw (same_number s.id) refl; named = same_number s.id }
has_first (b ∷ bs) ss s = first_by s.id b (bs ++ s ∷ ss) (b.id == s.id) refl (has_first bs ss s)

-- it is among the places
or_true : (b : Bool) → (b || true) ≡ true
or_true true = refl
or_true false = refl

any_place : (P : Sub → Bool) (subs : List Sub) (a n id : ℕ) (l : Sub) → a ≤ id → id < a + n
    → first_with id subs ≡ Some l → P l ≡ true
    → list_any P (flat_map (place_of subs) (range_with_len a n)) ≡ true
any_place P subs a zero id l low high found holds = absurd (omega (arith, low, high))
any_place P subs a (suc n) id l low high found holds =
    let cut = list_any-append P (place_of subs a) (flat_map (place_of subs) (range_with_len (a + 1) n)) in
    elim (cases_lt a id) [
      | inl lt ↦
          cut ∙ ap (λ (b : Bool). list_any P (place_of subs a) || b)
          (any_place P subs (a + 1) n id l (omega arith) (omega arith) found holds) ∙ or_true _
      | inr ge ↦
          let same : a ≡ id = omega arith in
          let here : first_with a subs ≡ Some l = rw same found in
          cut ∙ rw (here, holds) refl
    ]

-- nothing clashes
none_by : (s l : Sub) (ls : List Sub) (b : Bool) → (clash_with s ls ≡ None → list_any (λ k. clashes k s) ls ≡ false)
    → (if b then Some l else clash_with s ls) ≡ None
    → (b || list_any (λ k. clashes k s) ls) ≡ false
none_by s l ls true behind h = absurd cc
none_by s l ls false behind h = behind h

none_with : (s : Sub) (ls : List Sub) → clash_with s ls ≡ None → list_any (λ k. clashes k s) ls ≡ false
none_with s [] h = refl
none_with s (l ∷ ls) h = none_by s l ls (clashes l s) (none_with s ls) h

record NoneOf (s : Sub) (found : Option Sub) (later : Option Clash) : Type 0 where
  here : found ≡ None
  behind : later ≡ None

none_of : (s : Sub) (found : Option Sub) (later : Option Clash) → clash_of s found later ≡ None → NoneOf s found later
none_of s None later h = record { here = refl; behind = h }
none_of s (Some l) later h = absurd cc

same_if_apart : (l s : Sub) → (l.id == s.id) ≡ true → clashes l s ≡ false → is_same_sub l s ≡ true
same_if_apart l s e h = let k : not (is_same_sub l s) ≡ false = sym (rw e refl) ∙ h in not-false _ k

-- the first with an identifier does not clash where none of the places does
apart_by : (subs : List Sub) (s l : Sub) (b : Bool) → clashes l s ≡ b → s.id < 64 → first_with s.id subs ≡ Some l
    → list_any (λ k. clashes k s) (flat_map (place_of subs) (range_with_len 0 64)) ≡ false → b ≡ false
apart_by subs s l true e low found free =
    let hit = any_place (λ k. clashes k s) subs 0 64 s.id l (omega arith) (omega arith) found e in
    absurd cc
apart_by subs s l false e low found free = refl

record AllServed (layout ss : List Sub) : Type 0 where
  each : AllByRecursion (λ s. is_served layout s ≡ true) ss
  apart : AllByRecursion (λ s. is_refused layout s ≡ false) ss

all_served : (layout before ss subs : List Sub) → layout ≡ flat_map (place_of subs) (range_with_len 0 64) → before
    ++ ss ≡ subs
    → AllByRecursion (λ s. s.id < 64) ss → first_clash layout ss ≡ None → AllServed layout ss
all_served layout before [] subs is cut named none = record { each = tt; apart = tt }
all_served layout before (s ∷ ss) subs is cut named none =
    let split = none_of s (clash_with s layout) (first_clash layout ss) none in
    let free = none_with s layout split.here in
    let first = subst (HasFirst s.id) cut (has_first before ss s) in
    let free' = ap (list_any (λ k. clashes k s)) (sym is) ∙ free in
    let apart = apart_by subs s first.one (clashes first.one s) refl named.0 first.found free' in
    let same = same_if_apart first.one s first.named apart in
    let in_range : s.id < 0 + 64 = omega arith in
    let served = any_place (λ k. is_same_sub k s) subs 0 64 s.id first.one (omega arith) in_range first.found same in
    let rest = all_served layout (before ++ s ∷ []) ss subs is (append_assoc before _ _ ∙ cut) named.1 split.behind in
    record { each = (ap (list_any (λ k. is_same_sub k s)) is ∙ served, rest.each); apart = (free, rest.apart) }

places_is : (subs : List Sub) → places subs ≡ flat_map (place_of subs) (range_with_len 0 64)
unfolding places_below
places_is subs = refl

pub serves : (layout subs : List Sub) → layout ≡ places subs → AllByRecursion (λ s. s.id < 64) subs
    → first_clash layout subs ≡ None → Serves layout subs
serves layout subs is named none =
    let all = all_served layout [] subs subs (is ∙ places_is subs) refl named none in
    record { each = all.each; apart = all.apart; found = is }

-- what clashes is among the sub-channels
first_occurs_by : (id : ℕ) (s : Sub) (ss : List Sub) (l : Sub) (b : Bool) → (first_with id ss ≡ Some l → Occurs l ss)
    → (if b then Some s else first_with id ss) ≡ Some l
    → (l ≡ s) ⊎ Occurs l ss
first_occurs_by id s ss l true behind h = inl cc
first_occurs_by id s ss l false behind h = inr (behind h)

first_occurs : (id : ℕ) (subs : List Sub) (l : Sub) → first_with id subs ≡ Some l → Occurs l subs
first_occurs id [] l h = absurd cc
first_occurs id (s ∷ ss) l h = first_occurs_by id s ss l (s.id == id) (first_occurs id ss l) h

-- what a place holds is among them
place_occurs : (subs : List Sub) (found : Option Sub) (id : ℕ) (l : Sub) → first_with id subs ≡ found
    → Occurs l (listed found) → Occurs l subs
place_occurs subs None id l is h = absurd h
place_occurs subs (Some k) id l is h =
    elim h [
      | inl same ↦ subst (λ (x : Sub). Occurs x subs) (sym same) (first_occurs id subs k is)
      | inr none ↦ absurd none
    ]

occurs_cut : (l : Sub) (xs ys : List Sub) → Occurs l (xs ++ ys) → Occurs l xs ⊎ Occurs l ys
occurs_cut l [] ys h = inr h
occurs_cut l (x ∷ xs) ys h =
    elim h [
      | inl same ↦ inl (inl same)
      | inr later ↦ elim (occurs_cut l xs ys later) [ inl left ↦ inl (inr left) | inr right ↦ inr right ]
    ]

places_occur : (subs : List Sub) (a n : ℕ) (l : Sub) → Occurs l (flat_map (place_of subs) (range_with_len a n))
    → Occurs l subs
places_occur subs a zero l h = absurd h
places_occur subs a (suc n) l h =
    elim (occurs_cut l (place_of subs a) (flat_map (place_of subs) (range_with_len (a + 1) n)) h) [
      | inl here ↦ place_occurs subs (first_with a subs) a l refl here
      | inr behind ↦ places_occur subs (a + 1) n l behind
    ]

-- the one of a layout that clashes
record Found (s l : Sub) (ls : List Sub) : Type 0 where
  occurs : Occurs l ls
  clash : clashes l s ≡ true

with_found_by : (s k l : Sub) (ls : List Sub) (b : Bool) → clashes k s ≡ b → (clash_with s ls ≡ Some l → Found s l ls)
    → (if b then Some k else clash_with s ls) ≡ Some l
    → Found s l (k ∷ ls)
with_found_by s k l ls true e behind h =
    let same : k ≡ l = cc in
    record { occurs = inl (sym same); clash = subst (λ (x : Sub). clashes x s ≡ true) same e }
with_found_by s k l ls false e behind h = let later = behind h in
    record { occurs = inr later.occurs; clash = later.clash }

with_found : (s l : Sub) (ls : List Sub) → clash_with s ls ≡ Some l → Found s l ls
with_found s l [] h = absurd cc
with_found s l (k ∷ ls) h = with_found_by s k l ls (clashes k s) refl (with_found s l ls) h

record Between (c : Clash) (layout ss : List Sub) : Type 0 where
  place : Sub
  sub : Sub
  is : in_order place sub ≡ c
  first : Occurs place layout
  second : Occurs sub ss
  clash : clashes place sub ≡ true

between_by : (c : Clash) (layout : List Sub) (s : Sub) (ss : List Sub) (found : Option Sub)
    → clash_with s layout ≡ found
    → (first_clash layout ss ≡ Some c → Between c layout ss) → clash_of s found (first_clash layout ss) ≡ Some c
    → Between c layout (s ∷ ss)
between_by c layout s ss None e behind h =
    let later = behind h in
    record {
      place = later.place;
      sub = later.sub;
      is = later.is;
      first = later.first;
      second = inr later.second;
      clash = later.clash;
    }
between_by c layout s ss (Some l) e behind h =
    let found = with_found s l layout e in
    record { place = l; sub = s; is = cc; first = found.occurs; second = inl refl; clash = found.clash }

between : (c : Clash) (layout ss : List Sub) → first_clash layout ss ≡ Some c → Between c layout ss
between c layout [] h = absurd cc
between c layout (s ∷ ss) h = between_by c layout s ss (clash_with s layout) refl (between c layout ss) h

-- other sub-channels share a unit whichever is named first
turned : (l s : Sub) → s.id < l.id → clashes l s ≡ true → clashes s l ≡ true
turned l s lt h =
    let shared : shares l s ≡ true = sym (rw (ne_eqb l.id s.id (λ same. omega (arith, lt, same))) refl) ∙ h in
    let turn : shares s l ≡ shares l s = and_comm (ltb s.start (end_of l)) (ltb l.start (end_of s)) in
    rw (ne_eqb s.id l.id (λ same. omega (arith, lt, same))) (turn ∙ shared)

ordered_clash : (l s : Sub) (subs : List Sub) → Occurs l subs → Occurs s subs → clashes l s ≡ true
    → IsClash (in_order l s) subs
ordered_clash l s subs one other h =
    elim (cases_lt s.id l.id) [
      | inl lt ↦ rw (lt-ltb s.id l.id lt)
          (record { first_occurs = other; second_occurs = one; clash = turned l s lt h; ordered = omega (arith, lt) })
      | inr ge ↦ rw (le-ltb s.id l.id ge)
          (record { first_occurs = one; second_occurs = other; clash = h; ordered = ge })
    ]

pub is_clash : (c : Clash) (layout subs : List Sub) → layout ≡ places subs → first_clash layout subs ≡ Some c
    → IsClash c subs
is_clash c layout subs is h =
    let found = between c layout subs h in
    let among = subst (Occurs found.place) (is ∙ places_is subs) found.first in
    subst (λ (x : Clash). IsClash x subs) found.is
    (ordered_clash found.place found.sub subs (places_occur subs 0 64 found.place among) found.second found.clash)

-- the sub-channels of one more row
pub all_join : (P : Sub → Type 0) (xs ys : List Sub) → AllByRecursion P xs → AllByRecursion P ys
    → AllByRecursion P (xs ++ ys)
all_join P [] ys h k = k
all_join P (x ∷ xs) ys h k = (h.0, all_join P xs ys h.1 k)

pub placed_named : (ss : List Sub) → AllByRecursion IsPlaced ss → AllByRecursion (λ s. s.id < 64) ss
placed_named [] h = tt
placed_named (s ∷ ss) h = (h.0.named, placed_named ss h.1)

-- the sub-channels so far
pub record SubsSoFar (subs : List Sub) (rows : List Row) (at : ℕ) : Type 0 where
  pub all : subs ≡ subs_of (take at rows)
  pub named : AllByRecursion (λ s. s.id < 64) subs

pub subs_more : (subs now more : List Sub) (rows : List Row) (i : ℕ) (r : Row) → i < length rows → r ≡ get_or rows i r
    → SubsSoFar subs rows i
    → now ≡ subs ++ more → more ≡ row_subs r → IsConfiguration r.config → SubsSoFar now rows (i + 1)
subs_more subs now more rows i r lt same before is mores formed =
    let all = is ∙ ap (λ (l : List Sub). l ++ more) before.all ∙ ap (λ (l : List Sub). subs_of (take i rows) ++ l) mores
    ∙ texts_more row_subs rows i r lt same in
    let placed : AllByRecursion (λ s. s.id < 64) more = rw mores (placed_named (row_subs r) formed.subs_placed) in
    record {
      all = all;
      named = rw is (all_join _ subs more before.named placed);
    }
