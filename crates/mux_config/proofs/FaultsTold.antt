-- The fault that soundness reports is the first condition that fails.
use Rattle.mux_config.proofs.Words.{[], ◌<◌, ◌∙◌, ◌∷◌, ◌≡◌, ◌≤◌, ◌⊎◌, AddressUsed, AllByRecursion, AreAddressed}
use Rattle.mux_config.proofs.Words.{AreApart, AreCarried, Bool, ConfigFault, Configuration, Contains, EmptyService, Err}
use Rattle.mux_config.proofs.Words.{FaultIsUnique, IsAscending, IsConfiguration, IsFault, IsFirstOverlap, IsPlaced}
use Rattle.mux_config.proofs.Words.{IsSound, IsUnitOf, List, None, Option, Orphan, Overlap, Some, Sub, ap, arith, cond}
use Rattle.mux_config.proofs.Words.{contains_cases, contains_first, contains_later, each_contains, false, false≢true}
use Rattle.mux_config.proofs.Words.{first_fault, first_of_two, first_overlap, has_address_twice, has_orphan, inl, inr}
use Rattle.mux_config.proofs.Words.{is_empty_service, list_any, other_fault, overlap_with, overlaps, refl}
use Rattle.mux_config.proofs.Words.{sound_or_fault, sound_unless, sub_key, subst, sym, true, ℕ}
use Rattle.mux_config.proofs.Sounding.{apart_told, with_told, overlaps_told, overlaps_found, orphans_told}
use Rattle.mux_config.proofs.Sounding.{orphans_found, twice_told, twice_none, filled_found, sound_told}

-- ---- the first two that share a capacity unit

-- the same for any list of sub-channels
record IsFirstIn (xs : List Sub) (i j : ℕ) : Type 0 where
  first : Sub
  second : Sub
  has_first : Contains xs first
  has_second : Contains xs second
  is_first : first.id ≡ i
  is_second : second.id ≡ j
  ordered : i < j
  unit : ℕ
  of_first : IsUnitOf first unit
  of_second : IsUnitOf second unit
  least : (s t : Sub) (shared : ℕ) → Contains xs s → Contains xs t → IsUnitOf s shared → IsUnitOf t shared → s.id < t.id
      → (i < s.id) ⊎ ((i ≡ s.id) × (j ≤ t.id))

-- the first of them with which `a` shares one
record IsFirstWith (a : Sub) (bs : List Sub) (fault : ConfigFault) : Type 0 where
  other : Sub
  there : Contains bs other
  shares : overlaps a other ≡ true
  named : fault ≡ Overlap a.id other.id
  least : (b : Sub) → Contains bs b → overlaps a b ≡ true → other.id ≤ b.id

some_told : {T : Type 0} (x y : T) → Some x ≡ Some y → x ≡ y
some_told x y e = cc

with_first_by : (a b : Sub) (bs : List Sub) (fault : ConfigFault) (t : Bool) → overlaps a b ≡ t
    → AllByRecursion (λ (y : Sub). b.id < y.id) bs → cond t (Some (Overlap a.id b.id)) (overlap_with a bs) ≡ Some fault
    → (overlap_with a bs ≡ Some fault → IsFirstWith a bs fault) → IsFirstWith a (b ∷ bs) fault
with_first_by a b bs fault true is less e more = record {
  other = b;
  there = contains_first b bs;
  shares = is;
  named = sym (some_told (Overlap a.id b.id) fault e);
  least = λ y h _. elim (contains_cases b bs y h) [
    | inl same ↦ let equal : b.id ≡ y.id = ap (λ (s : Sub). s.id) same in omega (arith, equal)
    | inr later ↦ let lt : b.id < y.id = each_contains (λ (s : Sub). b.id < s.id) bs y less later in omega (arith, lt)
  ];
}
with_first_by a b bs fault false is less e more =
    let rest = more e in
    record {
      other = rest.other;
      there = contains_later b bs rest.other rest.there;
      shares = rest.shares;
      named = rest.named;
      least = λ y h k. elim (contains_cases b bs y h) [
        | inl same ↦ absurd (false≢true (sym is ∙ ap (overlaps a) same ∙ k))
        | inr later ↦ rest.least y later k
      ];
    }

with_first : (a : Sub) (bs : List Sub) (fault : ConfigFault) → IsAscending sub_key bs → overlap_with a bs ≡ Some fault
    → IsFirstWith a bs fault
with_first a [] fault order e = absurd (cc)
with_first a (b ∷ bs) fault order e = with_first_by a b bs fault _ refl order.0 e (with_first a bs fault order.1)

abbrev IsPair : List Sub → ConfigFault → Type 0
IsPair xs fault = (i j : ℕ) × (fault ≡ Overlap i j) × IsFirstIn xs i j

-- the first sub-channel shares one
pair_here : (a : Sub) (bs : List Sub) (fault : ConfigFault) → IsAscending sub_key (a ∷ bs)
    → AllByRecursion IsPlaced (a ∷ bs) → IsFirstWith a bs fault → IsPair (a ∷ bs) fault
pair_here a bs fault order placed w =
    let shared = overlaps_told a w.other placed.0 (each_contains IsPlaced bs w.other placed.1 w.there) w.shares in
    let least : (s t : Sub) (unit : ℕ) → Contains (a ∷ bs) s → Contains (a ∷ bs) t → IsUnitOf s unit → IsUnitOf t unit
    → s.id < t.id → (a.id < s.id) ⊎ ((a.id ≡ s.id) × (w.other.id ≤ t.id)) =
    λ s t unit h k of_s of_t lt. elim (contains_cases a bs s h) [
      | inl same ↦ let equal : a.id ≡ s.id = ap (λ (x : Sub). x.id) same in
          elim (contains_cases a bs t k) [
            | inl again ↦ let twice : a.id ≡ t.id = ap (λ (x : Sub). x.id) again in
                absurd (omega (arith, equal, twice, lt))
            | inr later ↦ inr (
              equal,
              w.least t later (overlaps_found a t unit (subst (λ (x : Sub). IsUnitOf x unit) (sym same) of_s) of_t),
            )
          ]
      | inr later ↦ inl (each_contains (λ (y : Sub). a.id < y.id) bs s order.0 later)
    ] in (
      a.id,
      w.other.id,
      w.named,
      record {
        first = a;
        second = w.other;
        has_first = contains_first a bs;
        has_second = contains_later a bs w.other w.there;
        is_first = refl;
        is_second = refl;
        ordered = each_contains (λ (y : Sub). a.id < y.id) bs w.other order.0 w.there;
        unit = shared.0;
        of_first = shared.1;
        of_second = shared.2;
        least = least;
      },
    )

-- the first sub-channel shares none
pair_later : (a : Sub) (bs : List Sub) (fault : ConfigFault) → IsAscending sub_key (a ∷ bs) → overlap_with a bs ≡ None
    → IsPair bs fault → IsPair (a ∷ bs) fault
pair_later a bs fault order none pair =
    let rest = pair.3 in
    let least : (s t : Sub) (unit : ℕ) → Contains (a ∷ bs) s → Contains (a ∷ bs) t → IsUnitOf s unit → IsUnitOf t unit
    → s.id < t.id → (pair.0 < s.id) ⊎ ((pair.0 ≡ s.id) × (pair.1 ≤ t.id)) =
    λ s t unit h k of_s of_t lt. elim (contains_cases a bs s h) [
      | inl same ↦ elim (contains_cases a bs t k) [
        | inl again ↦ let equal : s.id ≡ t.id = ap (λ (x : Sub). x.id) (sym same ∙ again) in
            absurd (omega (arith, equal, lt))
        | inr later ↦ absurd (false≢true (sym (with_told a bs t none later)
            ∙ overlaps_found a t unit (subst (λ (x : Sub). IsUnitOf x unit) (sym same) of_s) of_t))
      ]
      | inr later ↦ elim (contains_cases a bs t k) [
        | inl again ↦ let equal : a.id ≡ t.id = ap (λ (x : Sub). x.id) again in let less : a.id < s.id =
            each_contains (λ (y : Sub). a.id < y.id) bs s order.0 later in absurd (omega (arith, equal, less, lt))
        | inr after ↦ rest.least s t unit later after of_s of_t lt
      ]
    ] in (
      pair.0,
      pair.1,
      pair.2,
      record {
        first = rest.first;
        second = rest.second;
        has_first = contains_later a bs rest.first rest.has_first;
        has_second = contains_later a bs rest.second rest.has_second;
        is_first = rest.is_first;
        is_second = rest.is_second;
        ordered = rest.ordered;
        unit = rest.unit;
        of_first = rest.of_first;
        of_second = rest.of_second;
        least = least;
      },
    )

pair_by : (a : Sub) (bs : List Sub) (fault : ConfigFault) → IsAscending sub_key (a ∷ bs)
    → AllByRecursion IsPlaced (a ∷ bs) → (one : Option ConfigFault) → overlap_with a bs ≡ one
    → first_of_two one (first_overlap bs) ≡ Some fault → (first_overlap bs ≡ Some fault → IsPair bs fault)
    → IsPair (a ∷ bs) fault
pair_by a bs fault order placed None is e more = pair_later a bs fault order is (more e)
pair_by a bs fault order placed (Some x) is e more =
    pair_here a bs fault order placed (with_first a bs fault order.1 (is ∙ e))

pair_told : (xs : List Sub) (fault : ConfigFault) → IsAscending sub_key xs → AllByRecursion IsPlaced xs
    → first_overlap xs ≡ Some fault → IsPair xs fault
pair_told [] fault order placed e = absurd (cc)
pair_told (a ∷ bs) fault order placed e = pair_by a bs fault order placed _ refl e (pair_told bs fault order.1 placed.1)

-- ---- the fault that is reported

overlap_is : (c : Configuration) (fault : ConfigFault) → IsPair c.subs fault → IsFault c fault
overlap_is c fault pair =
    let p = pair.3 in
    let is : IsFirstOverlap c pair.0 pair.1 = record {
      first = p.first;
      second = p.second;
      has_first = p.has_first;
      has_second = p.has_second;
      is_first = p.is_first;
      is_second = p.is_second;
      ordered = p.ordered;
      unit = p.unit;
      of_first = p.of_first;
      of_second = p.of_second;
      least = p.least;
    } in
    subst (IsFault c) (sym pair.2) is

empty_by : (c : Configuration) (fault : ConfigFault) → AreApart c → AreCarried c → AreAddressed c → (t : Bool)
    → list_any is_empty_service c.services ≡ t → cond t (Some EmptyService) None ≡ Some fault → IsFault c fault
empty_by c fault apart carried addressed true is e =
    subst (IsFault c) (some_told EmptyService fault e)
    (apart, carried, addressed, λ filled. false≢true (sym (filled_found c filled) ∙ is))
empty_by c fault apart carried addressed false is e = absurd (cc)

twice_by : (c : Configuration) (fault : ConfigFault) → IsConfiguration c → AreApart c → AreCarried c → (t : Bool)
    → has_address_twice c.packets ≡ t → cond t (Some AddressUsed)
    (cond (list_any is_empty_service c.services) (Some EmptyService) None) ≡ Some fault → IsFault c fault
twice_by c fault config apart carried true is e =
    subst (IsFault c) (some_told AddressUsed fault e) (
      apart,
      carried,
      λ addressed. false≢true (sym (twice_none c.packets config.packets_ascend addressed) ∙ is),
    )
twice_by c fault config apart carried false is e = empty_by c fault apart carried (twice_told _ is) _ refl e

orphan_by : (c : Configuration) (fault : ConfigFault) → IsConfiguration c → AreApart c → (t : Bool) → has_orphan c ≡ t
    → cond t (Some Orphan) (cond (has_address_twice c.packets) (Some AddressUsed)
    (cond (list_any is_empty_service c.services) (Some EmptyService) None)) ≡ Some fault → IsFault c fault
orphan_by c fault config apart true is e =
    subst (IsFault c) (some_told Orphan fault e) (apart, λ carried. false≢true (sym (orphans_found c carried) ∙ is))
orphan_by c fault config apart false is e = twice_by c fault config apart (orphans_told c is) _ refl e

first_by : (c : Configuration) (fault : ConfigFault) → IsConfiguration c → (one : Option ConfigFault)
    → first_overlap c.subs ≡ one → first_of_two one (other_fault c) ≡ Some fault → IsFault c fault
first_by c fault config None is e = orphan_by c fault config (apart_told c.subs is) (has_orphan c) refl e
first_by c fault config (Some x) is e =
    overlap_is c fault (pair_told c.subs fault config.subs_ascend config.subs_placed (is ∙ e))

told_by : (o : Option ConfigFault) (fault : ConfigFault) → sound_unless o ≡ Err fault → o ≡ Some fault
told_by None fault e = absurd (cc)
told_by (Some x) fault e = cc

fault_told : (c : Configuration) (fault : ConfigFault) → IsConfiguration c → sound_or_fault c ≡ Err fault
    → IsFault c fault
fault_told c fault config e = first_by c fault config (first_overlap c.subs) refl (told_by (first_fault c) fault e)

-- ---- one fault

-- two that share one are not apart
not_apart : (c : Configuration) (i j : ℕ) → IsFirstOverlap c i j → AreApart c → ⊥
not_apart c i j o apart =
    let same = apart o.first o.second o.unit o.has_first o.has_second o.of_first o.of_second in
    omega (arith, same, o.is_first, o.is_second, o.ordered)

one_pair : (c : Configuration) (i j k l : ℕ) → IsFirstOverlap c i j → IsFirstOverlap c k l → Overlap i j ≡ Overlap k l
one_pair c i j k l o p =
    let there = o.least p.first p.second p.unit p.has_first p.has_second p.of_first p.of_second
    (omega (arith, p.is_first, p.is_second, p.ordered)) in
    let back = p.least o.first o.second o.unit o.has_first o.has_second o.of_first o.of_second
    (omega (arith, o.is_first, o.is_second, o.ordered)) in
    let first : i ≡ k = elim there [
      | inl lt ↦ elim back [
        | inl gt ↦ absurd (omega (arith, lt, gt, o.is_first, p.is_first))
        | inr same ↦
            absurd (let e = same.0 in omega (arith, lt, e, o.is_first, p.is_first))
      ]
      | inr same ↦ let e = same.0 in omega (arith, e, p.is_first)
    ] in
    let second : j ≡ l = elim there [
      | inl lt ↦ absurd (omega (arith, lt, first, p.is_first))
      | inr same ↦ elim back [
        | inl gt ↦ absurd (omega (arith, gt, first, o.is_first))
        | inr again ↦ let le = same.1 in let ge = again.1 in omega (arith, le, ge, o.is_second, p.is_second)
      ]
    ] in
    cc

one_fault : (c : Configuration) (f g : ConfigFault) → IsFault c f → IsFault c g → f ≡ g
one_fault c (Overlap i j) (Overlap k l) h k2 = one_pair c i j k l h k2
one_fault c Orphan AddressUsed h k = absurd (h.1 k.1)
one_fault c Orphan EmptyService h k = absurd (h.1 k.1)
one_fault c AddressUsed Orphan h k = absurd (k.1 h.1)
one_fault c AddressUsed EmptyService h k = absurd (h.2 k.2)
one_fault c EmptyService Orphan h k = absurd (k.1 h.1)
one_fault c EmptyService AddressUsed h k = absurd (k.2 h.2)
one_fault c (Overlap i j) _ h k = absurd (not_apart c i j h k.0)
one_fault c _ (Overlap i j) h k = absurd (not_apart c i j k h.0)
one_fault c _ _ h k = refl

-- a fault leaves the configuration unsound
not_sound : (c : Configuration) (fault : ConfigFault) → IsFault c fault → IsSound c → ⊥
not_sound c (Overlap i j) h sound = not_apart c i j h sound.apart
not_sound c Orphan h sound = h.1 (record { components = sound.carried; packets = sound.placed })
not_sound c AddressUsed h sound = h.2 sound.addressed
not_sound c EmptyService h sound = h.3 sound.filled

answer_by : (c : Configuration) (fault : ConfigFault) → IsConfiguration c → IsFault c fault → (o : Option ConfigFault)
    → first_fault c ≡ o → sound_unless o ≡ Err fault
answer_by c fault config h None is = absurd (not_sound c fault h (sound_told c is))
answer_by c fault config h (Some x) is =
    ap Err (one_fault c x fault (fault_told c x config (ap sound_unless is)) h)

pub faults_tell : FaultIsUnique
faults_tell c fault config = (fault_told c fault config, λ h. answer_by c fault config h (first_fault c) refl)
