-- A configuration is sound exactly if no fault is found.
use Rattle.mux_config.proofs.Words.{[], ◌%◌, ◌+◌, ◌/◌, ◌<◌, ◌==◌, ◌||◌, ◌∙◌, ◌∷◌, ◌≡◌, ◌≢◌, ◌⊎◌, A, AddressUsed}
use Rattle.mux_config.proofs.Words.{AllByRecursion, AreCarried, AreFilled, B, Bool, Carrier, Component, ConfigFault}
use Rattle.mux_config.proofs.Words.{Configuration, Contains, EepSet, EmptyService, IsAscending, IsConfiguration}
use Rattle.mux_config.proofs.Words.{IsCrowded, IsPlaced, IsSound, IsThere, IsUnitOf, List, None, Option, Orphan}
use Rattle.mux_config.proofs.Words.{Overlap, Packet, Service, Some, Sub, ap, arith, carrier_of, cases_lt, cond}
use Rattle.mux_config.proofs.Words.{contains_cases, contains_first, contains_later, contains_none, each_contains}
use Rattle.mux_config.proofs.Words.{entry_at, eq-eqb, eqb-true, false, false≢true, first_fault, first_of_two}
use Rattle.mux_config.proofs.Words.{first_overlap, has_address_twice, has_entry, has_orphan, has_same_address, inl, inr}
use Rattle.mux_config.proofs.Words.{is_crowded, is_empty_service, is_missing, is_some, length, list_any, lt-ltb, ltb}
use Rattle.mux_config.proofs.Words.{ltb-true, ne_eqb, not, other_fault, overlap_with, overlaps, packet_key, rate_step}
use Rattle.mux_config.proofs.Words.{refl, size_of_sub, sub_key, subst, sym, true, ℕ, le-mul_of_pos_right, units_of_step}
use Rattle.mux_types.specs.declared.parts.Carrier.TheVariants.{Sub as BySub, Packet as ByPacket}
use Rattle.mux_config.proofs.Rates.{units_positive}
use Rattle.std.proofs.lemmas.Bool.{or_parts, and_parts, and_from, false_from_ne_true, or_right, or_from, not-false}

-- ---- members of a list

pub none_told : {T : Type 0} (test : T → Bool) (xs : List T) (x : T) → list_any test xs ≡ false → Contains xs x
    → test x ≡ false
none_told test [] x e there = absurd (contains_none x there)
none_told test (y ∷ ys) x e there =
    let parts = or_parts (test y) (list_any test ys) e in
    elim (contains_cases y ys x there) [
      | inl same ↦ ap test (sym same) ∙ parts.0
      | inr later ↦
          none_told test ys x parts.1 later
    ]

pub none_holds : {T : Type 0} (test : T → Bool) (xs : List T) → ((x : T) → Contains xs x → test x ≡ false)
    → list_any test xs ≡ false
none_holds test [] h = refl
none_holds test (y ∷ ys) h =
    or_from (test y) (list_any test ys) (h y (contains_first y ys))
    (none_holds test ys (λ x there. h x (contains_later y ys x there)))

any_told_by : {T : Type 0} (test : T → Bool) (y : T) (ys : List T) (t : Bool) → test y ≡ t
    → (t || list_any test ys) ≡ true → (list_any test ys ≡ true → (x : T) × Contains ys x × (test x ≡ true)) → (x : T)
    × Contains (y ∷ ys) x × (test x ≡ true)
any_told_by test y ys true is e rest = (y, contains_first y ys, is)
any_told_by test y ys false is e rest = let found = rest e in (found.0, contains_later y ys found.0 found.1, found.2)

pub any_told : {T : Type 0} (test : T → Bool) (xs : List T) → list_any test xs ≡ true → (x : T) × Contains xs x
    × (test x ≡ true)
any_told test [] e = absurd (false≢true e)
any_told test (y ∷ ys) e = any_told_by test y ys (test y) refl e (any_told test ys)

pub any_holds : {T : Type 0} (test : T → Bool) (xs : List T) (x : T) → Contains xs x → test x ≡ true
    → list_any test xs ≡ true
any_holds test [] x there e = absurd (contains_none x there)
any_holds test (y ∷ ys) x there e =
    elim (contains_cases y ys x there) [
      | inl same ↦ subst (λ (t : Bool). (t || list_any test ys) ≡ true) (sym (ap test same ∙ e)) refl
      | inr later ↦ or_right (test y) (list_any test ys) (any_holds test ys x later e)
    ]

-- ---- tests

no_pair : (t : Bool) (fault : ConfigFault) (rest : Option ConfigFault) → cond t (Some fault) rest ≡ None → (t ≡ false)
    × (rest ≡ None)
no_pair true fault rest e = absurd (cc)
no_pair false fault rest e = (refl, e)

no_fault : (one other : Option ConfigFault) → first_of_two one other ≡ None → (one ≡ None) × (other ≡ None)
no_fault None other e = (refl, e)
no_fault (Some fault) other e = absurd (cc)

no_tests : (a b c : Bool) → cond a (Some Orphan) (cond b (Some AddressUsed) (cond c (Some EmptyService) None)) ≡ None
    → (a ≡ false) × (b ≡ false) × (c ≡ false)
no_tests false false false e = (refl, refl, refl)
no_tests _ _ _ e = absurd (cc)

all_none : (one : Option ConfigFault) (a b c : Bool) → one ≡ None → a ≡ false → b ≡ false → c ≡ false
    → first_of_two one (cond a (Some Orphan) (cond b (Some AddressUsed) (cond c (Some EmptyService) None))) ≡ None
all_none one a b c p q r s = rw (p, q, r, s) refl

some_steps : (set : EepSet) (kbits : ℕ) → 0 < kbits → kbits % rate_step set ≡ 0 → 0 < kbits / rate_step set
some_steps A kbits h e = omega arith
some_steps B kbits h e = omega arith

-- ---- spans

sized : (s : Sub) → IsPlaced s → 0 < size_of_sub s
sized s h =
    let steps = some_steps s.protection.set s.kbits h.sized.positive h.sized.multiple in
    let more = le-mul_of_pos_right (units_of_step s.protection.set s.protection.level) steps in
    omega (arith, units_positive s.protection.set s.protection.level, more)

pub overlaps_told : (a b : Sub) → IsPlaced a → IsPlaced b → overlaps a b ≡ true → (unit : ℕ) × IsUnitOf a unit
    × IsUnitOf b unit
overlaps_told a b h k e =
    let parts = and_parts (ltb a.start (b.start + size_of_sub b)) (ltb b.start (a.start + size_of_sub a)) e in
    elim (cases_lt a.start b.start) [
      | inl lt ↦ (b.start, (omega arith, (ltb-true _ _ parts.1)), (omega arith, omega (arith, sized b k)))
      | inr ge ↦
          (a.start, (omega arith, omega (arith, sized a h)), (ge, (ltb-true _ _ parts.0)))
    ]

pub overlaps_found : (a b : Sub) (unit : ℕ) → IsUnitOf a unit → IsUnitOf b unit → overlaps a b ≡ true
overlaps_found a b unit h k =
    and_from _ _ (lt-ltb a.start (b.start + size_of_sub b) (omega (arith, h.0, k.1)))
    (lt-ltb b.start (a.start + size_of_sub a) (omega (arith, k.0, h.1)))

with_none : (a : Sub) (bs : List Sub) → ((b : Sub) → Contains bs b → overlaps a b ≡ false) → overlap_with a bs ≡ None
with_none a [] h = refl
with_none a (b ∷ bs) h =
    ap (λ (t : Bool). cond t (Some (Overlap a.id b.id)) (overlap_with a bs)) (h b (contains_first b bs))
    ∙ with_none a bs (λ x there. h x (contains_later b bs x there))

pub with_told : (a : Sub) (bs : List Sub) (b : Sub) → overlap_with a bs ≡ None → Contains bs b → overlaps a b ≡ false
with_told a [] b e there = absurd (contains_none b there)
with_told a (y ∷ ys) b e there =
    let parts = no_pair (overlaps a y) (Overlap a.id y.id) (overlap_with a ys) e in
    elim (contains_cases y ys b there) [
      | inl same ↦ ap (overlaps a) (sym same) ∙ parts.0
      | inr later ↦
          with_told a ys b parts.1 later
    ]

pub apart_found : (xs : List Sub) → IsAscending sub_key xs → AllByRecursion IsPlaced xs
    → ((a b : Sub) (unit : ℕ) → Contains xs a → Contains xs b → IsUnitOf a unit → IsUnitOf b unit → a.id ≡ b.id)
    → first_overlap xs ≡ None
apart_found [] order placed apart = refl
apart_found (a ∷ bs) order placed apart =
    let none : overlap_with a bs ≡ None = with_none a bs (λ b there. false_from_ne_true (overlaps a b) (λ e.
    let shared = overlaps_told a b placed.0 (each_contains IsPlaced bs b placed.1 there) e in
    let same : a.id ≡ b.id = apart a b shared.0 (contains_first a bs) (contains_later a bs b there) shared.1 shared.2 in
    let less : a.id < b.id = each_contains (λ (y : Sub). a.id < y.id) bs b order.0 there in
    omega arith)) in
    ap (λ (o : Option ConfigFault). first_of_two o (first_overlap bs)) none
    ∙ apart_found bs order.1 placed.1 (λ x y unit h k.
    apart x y unit (contains_later a bs x h) (contains_later a bs y k))

pub apart_told : (xs : List Sub) → first_overlap xs ≡ None → (a b : Sub) (unit : ℕ) → Contains xs a → Contains xs b
    → IsUnitOf a unit → IsUnitOf b unit → a.id ≡ b.id
apart_told [] e a b unit h k i j = absurd (contains_none a h)
apart_told (x ∷ xs) e a b unit h k i j =
    let parts = no_fault (overlap_with x xs) (first_overlap xs) e in
    elim (contains_cases x xs a h) [
      | inl p ↦ elim (contains_cases x xs b k) [
        | inl q ↦ ap (λ (s : Sub). s.id) (sym p ∙ q)
        | inr q ↦ absurd (false≢true (sym (with_told x xs b parts.0 q)
            ∙ overlaps_found x b unit (subst (λ (s : Sub). IsUnitOf s unit) (sym p) i) j))
      ]
      | inr p ↦ elim (contains_cases x xs b k) [
        | inl q ↦ absurd (false≢true (sym (with_told x xs a parts.0 p)
            ∙ overlaps_found x a unit (subst (λ (s : Sub). IsUnitOf s unit) (sym q) j) i))
        | inr q ↦ apart_told xs parts.1 a b unit p q i j
      ]
    ]

-- ---- carriers

missing_told : (c : Configuration) (carrier : Carrier) → is_missing c carrier ≡ false → IsThere c carrier
missing_told c (BySub id) e =
    let found = any_told (λ x. sub_key x == id) c.subs (not-false (has_entry sub_key id c.subs) e) in
    (found.0, found.1, eqb-true _ _ found.2)
missing_told c (ByPacket scid) e =
    let found = any_told (λ x. packet_key x == scid) c.packets (not-false (has_entry packet_key scid c.packets) e) in
    (found.0, found.1, eqb-true _ _ found.2)

missing_found : (c : Configuration) (carrier : Carrier) → IsThere c carrier → is_missing c carrier ≡ false
missing_found c (BySub id) there = ap not (any_holds (λ x. sub_key x == id) c.subs there.0 there.1 (eq-eqb _ _ there.2))
missing_found c (ByPacket scid) there =
    ap not (any_holds (λ x. packet_key x == scid) c.packets there.0 there.1 (eq-eqb _ _ there.2))

-- ---- addresses

same_address_told : (p q : Packet) → p.sub ≡ q.sub → p.address ≡ q.address → has_same_address p q ≡ true
same_address_told p q e f = and_from _ _ (eq-eqb _ _ e) (eq-eqb _ _ f)

pub twice_told : (ps : List Packet) → has_address_twice ps ≡ false → (p q : Packet) → Contains ps p → Contains ps q
    → p.sub ≡ q.sub → p.address ≡ q.address → p.scid ≡ q.scid
twice_told [] e p q h k i j = absurd (contains_none p h)
twice_told (x ∷ xs) e p q h k i j =
    let parts = or_parts (list_any (has_same_address x) xs) (has_address_twice xs) e in
    elim (contains_cases x xs p h) [
      | inl s ↦ elim (contains_cases x xs q k) [
        | inl t ↦ ap (λ (y : Packet). y.scid) (sym s ∙ t)
        | inr t ↦ absurd (false≢true (sym (none_told (has_same_address x) xs q parts.0 t)
            ∙ same_address_told x q (ap (λ (y : Packet). y.sub) s ∙ i) (ap (λ (y : Packet). y.address) s ∙ j)))
      ]
      | inr s ↦ elim (contains_cases x xs q k) [
        | inl t ↦ absurd (false≢true (sym (none_told (has_same_address x) xs p parts.0 s)
            ∙ same_address_told x p (ap (λ (y : Packet). y.sub) t ∙ sym i) (ap (λ (y : Packet). y.address) t ∙ sym j)))
        | inr t ↦ twice_told xs parts.1 p q s t i j
      ]
    ]

pub twice_none : (ps : List Packet) → IsAscending packet_key ps
    → ((p q : Packet) → Contains ps p → Contains ps q → p.sub ≡ q.sub → p.address ≡ q.address → p.scid ≡ q.scid)
    → has_address_twice ps ≡ false
twice_none [] order h = refl
twice_none (x ∷ xs) order h =
    let first : list_any (has_same_address x) xs ≡ false =
    none_holds (has_same_address x) xs (λ q there. false_from_ne_true (has_same_address x q) (λ e.
    let parts = and_parts _ _ e in
    let same : x.scid ≡ q.scid =
    h x q (contains_first x xs) (contains_later x xs q there) (eqb-true _ _ parts.0) (eqb-true _ _ parts.1) in
    let less : x.scid < q.scid = each_contains (λ (y : Packet). x.scid < y.scid) xs q order.0 there in
    omega arith)) in
    or_from _ _ first (twice_none xs order.1 (λ p q i j. h p q (contains_later x xs p i) (contains_later x xs q j)))

-- ---- all together

filled_told : (s : Service) → is_empty_service s ≡ false → s.components ≢ []
filled_told s e empty = false≢true (sym e ∙ eq-eqb _ _ (ap length empty))

empty_told : (ms : List Component) → length ms ≡ 0 → ms ≡ []
empty_told [] e = refl
empty_told (m ∷ ms) e = absurd (omega arith)

pub orphans_told : (c : Configuration) → has_orphan c ≡ false → AreCarried c
orphans_told c e =
    let orphans = or_parts (list_any
    (λ (s : Service). list_any (λ (m : Component). is_missing c (carrier_of m)) s.components) c.services)
    (list_any (λ (p : Packet). is_missing c (BySub p.sub)) c.packets) e in
    record {
      components = λ s m h k. missing_told c (carrier_of m)
          (none_told (λ (m : Component). is_missing c (carrier_of m)) s.components m
          (none_told (λ (s : Service). list_any (λ (m : Component). is_missing c (carrier_of m)) s.components)
          c.services s orphans.0 h) k);
      packets = λ p h. missing_told c (BySub p.sub)
          (none_told (λ (p : Packet). is_missing c (BySub p.sub)) c.packets p orphans.1 h);
    }

pub orphans_found : (c : Configuration) → AreCarried c → has_orphan c ≡ false
orphans_found c carried =
    or_from _ _
    (none_holds (λ (s : Service). list_any (λ (m : Component). is_missing c (carrier_of m)) s.components) c.services
    (λ s h. none_holds (λ (m : Component). is_missing c (carrier_of m)) s.components
    (λ m k. missing_found c (carrier_of m) (carried.components s m h k))))
    (none_holds (λ (p : Packet). is_missing c (BySub p.sub)) c.packets
    (λ p h. missing_found c (BySub p.sub) (carried.packets p h)))

pub filled_found : (c : Configuration) → AreFilled c → list_any is_empty_service c.services ≡ false
filled_found c filled = none_holds is_empty_service c.services
    (λ s h. ne_eqb _ _ (λ e. filled s h (empty_told s.components e)))

pub sound_told : (c : Configuration) → first_fault c ≡ None → IsSound c
sound_told c e =
    let one = no_fault (first_overlap c.subs) (other_fault c) e in
    let two = no_tests (has_orphan c) (has_address_twice c.packets) (list_any is_empty_service c.services) one.1 in
    let carried = orphans_told c two.0 in
    record {
      apart = apart_told c.subs one.0;
      carried = carried.components;
      placed = carried.packets;
      addressed = twice_told c.packets two.1;
      filled = λ s h. filled_told s (none_told is_empty_service c.services s two.2 h);
    }

pub sound_found : (c : Configuration) → IsConfiguration c → IsSound c → first_fault c ≡ None
sound_found c is sound =
    all_none (first_overlap c.subs) (has_orphan c) (has_address_twice c.packets) (list_any is_empty_service c.services)
    (apart_found c.subs is.subs_ascend is.subs_placed sound.apart)
    (orphans_found c (record { components = sound.carried; packets = sound.placed }))
    (twice_none c.packets is.packets_ascend sound.addressed)
    (filled_found c sound.filled)

-- ---- two sub-channels that share a capacity unit

none_or_some : (o : Option ConfigFault) → (o ≡ None) ⊎ (is_some o ≡ true)
none_or_some None = inl refl
none_or_some (Some fault) = inr refl

pub stays_first : (one other : Option ConfigFault) → is_some one ≡ true → one ≡ first_of_two one other
stays_first None other e = absurd (false≢true e)
stays_first (Some fault) other e = refl

either_some : (one other : Option ConfigFault) → is_some (first_of_two one other) ≡ true → (is_some one ≡ true)
    ⊎ (is_some other ≡ true)
either_some None other e = inr e
either_some (Some fault) other e = inl refl

with_some_by : (a b : Sub) (bs : List Sub) (t : Bool) → overlaps a b ≡ t
    → is_some (cond t (Some (Overlap a.id b.id)) (overlap_with a bs)) ≡ true
    → (is_some (overlap_with a bs) ≡ true → (y : Sub) × Contains bs y × (overlaps a y ≡ true)) → (y : Sub)
    × Contains (b ∷ bs) y × (overlaps a y ≡ true)
with_some_by a b bs true is e rest = (b, contains_first b bs, is)
with_some_by a b bs false is e rest = let found = rest e in (found.0, contains_later b bs found.0 found.1, found.2)

with_some : (a : Sub) (bs : List Sub) → is_some (overlap_with a bs) ≡ true → (b : Sub) × Contains bs b
    × (overlaps a b ≡ true)
with_some a [] e = absurd (false≢true e)
with_some a (b ∷ bs) e = with_some_by a b bs (overlaps a b) refl e (with_some a bs)

shared : (xs : List Sub) → IsAscending sub_key xs → AllByRecursion IsPlaced xs → is_some (first_overlap xs) ≡ true
    → (a b : Sub) × (unit : ℕ) × Contains xs a × Contains xs b × (a.id < b.id) × IsUnitOf a unit × IsUnitOf b unit
shared [] order placed e = absurd (false≢true e)
shared (a ∷ bs) order placed e =
    elim (either_some (overlap_with a bs) (first_overlap bs) e) [
      | inl here ↦
          let found = with_some a bs here in
          let unit = overlaps_told a found.0 placed.0 (each_contains IsPlaced bs found.0 placed.1 found.1) found.2 in (
            a,
            found.0,
            unit.0,
            contains_first a bs,
            contains_later a bs found.0 found.1,
            each_contains (λ (y : Sub). a.id < y.id) bs found.0 order.0 found.1,
            unit.1,
            unit.2,
          )
      | inr later ↦
          let found = shared bs order.1 placed.1 later in (
            found.0,
            found.1,
            found.2,
            contains_later a bs found.0 found.3,
            contains_later a bs found.1 found.4,
            found.5,
            found.6,
            found.7,
          )
    ]

pub crowded_told : (c : Configuration) → IsConfiguration c → is_some (first_overlap c.subs) ≡ true → IsCrowded c
crowded_told c is e =
    let found = shared c.subs is.subs_ascend is.subs_placed e in
    record {
      first = found.0;
      second = found.1;
      unit = found.2;
      has_first = found.3;
      has_second = found.4;
      differ = λ same. omega arith;
      of_first = found.6;
      of_second = found.7;
    }

pub crowded_found : (c : Configuration) → IsCrowded c → is_some (first_overlap c.subs) ≡ true
crowded_found c h =
    elim (none_or_some (first_overlap c.subs)) [
      | inl none ↦ absurd (h.differ
          (apart_told c.subs none h.first h.second h.unit h.has_first h.has_second h.of_first h.of_second))
      | inr some ↦ some
    ]

pub not_crowded : (c : Configuration) → IsConfiguration c → (IsCrowded c → ⊥) → first_overlap c.subs ≡ None
not_crowded c is h =
    elim (none_or_some (first_overlap c.subs)) [
      | inl none ↦ none
      | inr some ↦ absurd (h (crowded_told c is some))
    ]

with_any_by : (t : Bool) (fault : ConfigFault) (rest : Option ConfigFault) (u : Bool) → is_some rest ≡ u
    → is_some (cond t (Some fault) rest) ≡ (t || u)
with_any_by true fault rest u e = refl
with_any_by false fault rest u e = e

with_any : (a : Sub) (bs : List Sub) → is_some (overlap_with a bs) ≡ list_any (overlaps a) bs
with_any a [] = refl
with_any a (b ∷ bs) = with_any_by (overlaps a b) (Overlap a.id b.id) (overlap_with a bs) (list_any (overlaps a) bs)
    (with_any a bs)

first_any_by : (one other : Option ConfigFault) (t u : Bool) → is_some one ≡ t → is_some other ≡ u
    → is_some (first_of_two one other) ≡ (t || u)
first_any_by None other t u e f = f ∙ ap (λ (b : Bool). b || u) e
first_any_by (Some fault) other t u e f = ap (λ (b : Bool). b || u) e

pub first_any : (xs : List Sub) → is_some (first_overlap xs) ≡ is_crowded xs
first_any [] = refl
first_any (a ∷ bs) = first_any_by _ _ _ _ (with_any a bs) (first_any bs)

-- a look-up finds a member exactly if there is one
has_found_by : {T : Type 0} (t : Bool) (x : T) (rest : Option T) (u : Bool) → is_some rest ≡ u
    → is_some (cond t (Some x) rest) ≡ (t || u)
has_found_by true x rest u e = refl
has_found_by false x rest u e = e

pub has_found : {T : Type 0} (key : T → ℕ) (k : ℕ) (xs : List T) → is_some (entry_at key k xs) ≡ has_entry key k xs
has_found key k [] = refl
has_found key k (x ∷ xs) = has_found_by (key x == k) x (entry_at key k xs) (has_entry key k xs) (has_found key k xs)
