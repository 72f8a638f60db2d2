-- An edit of a configuration without a fault results in a configuration.
use Rattle.mux_config.proofs.Words.{[], ◌%◌, ◌++◌, ◌+◌, ◌<◌, ◌==◌, ◌||◌, ◌∙◌, ◌∷◌, ◌≡◌, ◌≢◌, ◌≤◌, AddComponent}
use Rattle.mux_config.proofs.Words.{AddPacket, AddService, AddSub, AllByRecursion, AreDifferent, BadAddress, BadRate}
use Rattle.mux_config.proofs.Words.{Bool, Carrier, Component, Configuration, DropComponent, DropPacket, DropService}
use Rattle.mux_config.proofs.Words.{DropSub, EditsKeep, Err, IdAbsent, IdUsed, IsAddressed, IsAscending, IsComponent}
use Rattle.mux_config.proofs.Words.{IsConfiguration, IsPlaced, IsService, IsSid, IsSize, List, MoveSub, None}
use Rattle.mux_config.proofs.Words.{NotMultiple, Ok, Option, Packet, PastEnd, PastMultiplex, Profile, RateSub, Service}
use Rattle.mux_config.proofs.Words.{Sid, Some, Sub, TableFull, TooManyComponents, ZeroRate, absent_or}
use Rattle.mux_config.proofs.Words.{add_component_fault, add_packet_fault, add_service_fault, add_sub_fault, ap, arith}
use Rattle.mux_config.proofs.Words.{ascends_changed, ascends_with, ascends_without, at_rate, at_start, carrier_of}
use Rattle.mux_config.proofs.Words.{cases_eq, cases_lt, changed_at, component_added, component_dropped, component_fault}
use Rattle.mux_config.proofs.Words.{component_limit, cond, drop_component_fault, each_at, each_changed, each_pushed}
use Rattle.mux_config.proofs.Words.{each_weaker, each_with, each_without, entry_at, eq-eqb, eqb-false, eqb-true, false}
use Rattle.mux_config.proofs.Words.{false≢true, filter, has_bad_address, has_bad_rate, has_entry, inl, inr, is_past_end}
use Rattle.mux_config.proofs.Words.{is_same_carrier, is_some, le-ltb, leb, leb-false, length, length-append, length-map}
use Rattle.mux_config.proofs.Words.{list_any, lt-ltb, ltb, ltb-false, move_sub_fault, names, ne_eqb, not, packet_added}
use Rattle.mux_config.proofs.Words.{packet_dropped, packet_key, placing_fault, rate_step, rate_sub_fault, refl, remove}
use Rattle.mux_config.proofs.Words.{service_added, service_at, service_dropped, service_key, sid_key, size_of_sub}
use Rattle.mux_config.proofs.Words.{size_or_fault, slice_get, sub_added, sub_at, sub_dropped, sub_key, sub_moved}
use Rattle.mux_config.proofs.Words.{sub_rated, subst, suc, sym, table_size, true, with_component, with_entry}
use Rattle.mux_config.proofs.Words.{with_entry_changed, without_carrier, without_entry, zero, ℕ}
use Rattle.std.specs.Option.{option_map}
use Rattle.std.specs.Result.{is_err}
use Rattle.mux_config.specs.declared.fault.EditFault.{EditFault}
use Rattle.mux_types.specs.declared.parts.Carrier.TheVariants.{Sub as BySub, Packet as ByPacket}
use Rattle.std.proofs.lemmas.Bool.{or_parts, false_from_ne_true, true_from_ne_false}
use Rattle.mux_config.proofs.PartLaws.{different_pushed}

-- ---- tests

some_none : {T : Type 0} {P : Type 0} (x : T) → Some x ≡ None → P
some_none x e = absurd (cc)

-- no fault: the test is false, and there is none after it
pub passed : (t : Bool) (fault : EditFault) (rest : Option EditFault) → cond t (Some fault) rest ≡ None → (t ≡ false)
    × (rest ≡ None)
passed true fault rest e = some_none fault e
passed false fault rest e = (refl, e)

pub there : {T : Type 0} (o : Option T) (fault : T → Option EditFault) → absent_or o fault ≡ None → (x : T)
    × (o ≡ Some x) × (fault x ≡ None)
there None fault e = some_none IdAbsent e
there (Some x) fault e = (x, refl, e)

-- ---- the member with a key

absent_by : {T : Type 0} (key : T → ℕ) (k : ℕ) (x : T) (xs : List T) (t : Bool) → (t || has_entry key k xs) ≡ false
    → (has_entry key k xs ≡ false → entry_at key k xs ≡ None) → cond t (Some x) (entry_at key k xs) ≡ None
absent_by key k x xs true e rest = absurd (false≢true (sym e))
absent_by key k x xs false e rest = rest e

pub absent_told : {T : Type 0} (key : T → ℕ) (k : ℕ) (xs : List T) → has_entry key k xs ≡ false
    → entry_at key k xs ≡ None
absent_told key k [] e = refl
absent_told key k (x ∷ xs) e = absent_by key k x xs (key x == k) e (absent_told key k xs)

same_by : {T : Type 0} (key : T → ℕ) (k : ℕ) (x : T) (xs : List T) (t : Bool) → (o : Option T)
    → cond t (Some x) (entry_at key k xs) ≡ o → (has_entry key k xs ≡ true → (y : T) × (entry_at key k xs ≡ Some y))
    → (t || has_entry key k xs) ≡ true → (y : T) × (o ≡ Some y)
same_by key k x xs true o is rest e = (x, sym is)
same_by key k x xs false o is rest e = let found = rest e in (found.0, sym is ∙ found.1)

-- a set has a member with a key exactly if one is found
pub entry_found : {T : Type 0} (key : T → ℕ) (k : ℕ) (xs : List T) → has_entry key k xs ≡ true → (x : T)
    × (entry_at key k xs ≡ Some x)
entry_found key k [] e = absurd (false≢true e)
entry_found key k (x ∷ xs) e = same_by key k x xs (key x == k) (entry_at key k (x ∷ xs)) refl (entry_found key k xs) e

pub present : {T : Type 0} (key : T → ℕ) (k : ℕ) (xs : List T) (x : T) → entry_at key k xs ≡ Some x
    → has_entry key k xs ≡ true
present key k xs x e = true_from_ne_false (has_entry key k xs)
    (λ none. let wrong : Some x ≡ None = sym e ∙ absent_told key k xs none in some_none x wrong)

pub absent_found : {T : Type 0} (key : T → ℕ) (k : ℕ) (xs : List T) → entry_at key k xs ≡ None
    → has_entry key k xs ≡ false
absent_found key k xs e = false_from_ne_true (has_entry key k xs)
    (λ some. let found = entry_found key k xs some in let wrong : Some found.0 ≡ None = sym found.1 ∙ e in
    some_none found.0 wrong)

-- a look-up finds a member exactly if the set has its key
pub is_found : {T : Type 0} (key : T → ℕ) (k : ℕ) (xs : List T) (o : Option T) → o ≡ entry_at key k xs
    → is_some o ≡ has_entry key k xs
is_found key k xs None e = sym (absent_found key k xs (sym e))
is_found key k xs (Some x) e = sym (present key k xs x (sym e))

-- and so does one that borrows it
pub is_found_lent : {R T : Type 0} (now : R → T) (key : T → ℕ) (k : ℕ) (xs : List T) (o : Option R)
    → option_map now o ≡ entry_at key k xs → is_some o ≡ has_entry key k xs
is_found_lent now key k xs None e = sym (absent_found key k xs (sym e))
is_found_lent now key k xs (Some r) e = sym (present key k xs (now r) (sym e))

key_by : {T : Type 0} (key : T → ℕ) (k : ℕ) (x y : T) (rest : Option T) (t : Bool) → (t ≡ true → key x ≡ k)
    → cond t (Some x) rest ≡ Some y → (rest ≡ Some y → key y ≡ k) → key y ≡ k
key_by key k x y rest true here e later = let same : x ≡ y = cc in sym (ap key same) ∙ here refl
key_by key k x y rest false here e later = later e

pub entry_key : {T : Type 0} (key : T → ℕ) (k : ℕ) (xs : List T) (y : T) → entry_at key k xs ≡ Some y → key y ≡ k
entry_key key k [] y e = some_none y (sym e)
entry_key key k (x ∷ xs) y e = key_by key k x y _ _ (eqb-true (key x) k) e (entry_key key k xs y)

holds_by : {T : Type 0} (P : T → Type 0) (x y : T) (rest : Option T) (t : Bool) → P x → cond t (Some x) rest ≡ Some y
    → (rest ≡ Some y → P y) → P y
holds_by P x y rest true h e later = let same : x ≡ y = cc in subst P same h
holds_by P x y rest false h e later = later e

pub entry_holds : {T : Type 0} (P : T → Type 0) (key : T → ℕ) (k : ℕ) (xs : List T) (y : T) → AllByRecursion P xs
    → entry_at key k xs ≡ Some y → P y
entry_holds P key k [] y h e = some_none y (sym e)
entry_holds P key k (x ∷ xs) y h e =
    holds_by P x y (entry_at key k xs) (key x == k) h.0 e (entry_holds P key k xs y h.1)

-- ---- a set with one member changed

unchanged : {T : Type 0} (key : T → ℕ) (k : ℕ) (change : T → T) (y : T) (xs : List T) → key y ≡ k
    → AllByRecursion (λ x. k < key x) xs → with_entry_changed key y xs ≡ changed_at key k change xs
unchanged key k change y [] same above = refl
unchanged key k change y (x ∷ xs) same above =
    let one : key x == key y ≡ false = ne_eqb (key x) (key y) (λ e. let h = above.0 in omega (arith, h)) in
    let two : key x == k ≡ false = ne_eqb (key x) k (λ e. let h = above.0 in omega (arith, h)) in
    rw (one, two) (ap (λ zs. x ∷ zs) (unchanged key k change y xs same above.1))

-- the changed member in place of the one with its key
pub changed_here : {T : Type 0} (key : T → ℕ) (k : ℕ) (change : T → T) (xs : List T) (x : T) → IsAscending key xs
    → entry_at key k xs ≡ Some x → key (change x) ≡ k → with_entry_changed key (change x) xs
    ≡ changed_at key k change xs
changed_here key k change [] x up e same = some_none x (sym e)
changed_here key k change (y ∷ ys) x up e same =
    elim (cases_eq (key y) k) [
      | inl here ↦
          let two : key y == k ≡ true = eq-eqb (key y) k here in
          let tail = unchanged key k change (change x) ys same
          (each_weaker (λ z. key y < key z) (λ z. k < key z) (λ z h. omega (arith, h, here)) ys up.0) in
          rw ((eq-eqb (key y) (key (change x)) (here ∙ sym same)), two) (cc)
      | inr other ↦
          let two : key y == k ≡ false = ne_eqb (key y) k other in
          let later = sym (ap (λ (t : Bool). cond t (Some y) (entry_at key k ys)) two) ∙ e in
          let tail = changed_here key k change ys x up.1 later same in
          rw ((ne_eqb (key y) (key (change x)) (λ h. other (h ∙ same))), two) (ap (λ zs. y ∷ zs) tail)
    ]

-- ---- lengths

pub length_with : {T : Type 0} (key : T → ℕ) (y : T) (xs : List T) → length (with_entry key y xs) ≡ suc (length xs)
length_with key y [] = refl
length_with key y (x ∷ xs) =
    elim (cases_lt (key y) (key x)) [
      | inl lt ↦ rw (lt-ltb _ _ lt) refl
      | inr ge ↦ rw (le-ltb _ _ ge) (ap suc (length_with key y xs))
    ]

filtered_by : {T : Type 0} (test : T → Bool) (x : T) (xs : List T) (t : Bool) → length (filter test xs) ≤ length xs
    → length (cond t (x ∷ filter test xs) (filter test xs)) ≤ suc (length xs)
filtered_by test x xs true h = omega arith
filtered_by test x xs false h = omega arith

pub length_filtered : {T : Type 0} (test : T → Bool) (xs : List T) → length (filter test xs) ≤ length xs
length_filtered test [] = omega arith
length_filtered test (x ∷ xs) = filtered_by test x xs (test x) (length_filtered test xs)

kept_by : {T : Type 0} (P : T → Type 0) (test : T → Bool) (x : T) (xs : List T) (t : Bool) → P x
    → AllByRecursion P (filter test xs) → AllByRecursion P (cond t (x ∷ filter test xs) (filter test xs))
kept_by P test x xs true h rest = (h, rest)
kept_by P test x xs false h rest = rest

pub each_filtered : {T : Type 0} (P : T → Type 0) (test : T → Bool) (xs : List T) → AllByRecursion P xs
    → AllByRecursion P (filter test xs)
each_filtered P test [] h = tt
each_filtered P test (x ∷ xs) h = kept_by P test x xs (test x) h.0 (each_filtered P test xs h.1)

-- ascending keys in a range are at most as many as its numbers
bounded : {T : Type 0} (key : T → ℕ) (xs : List T) (low high : ℕ) → IsAscending key xs
    → AllByRecursion (λ x. low ≤ key x) xs → AllByRecursion (λ x. key x < high) xs → low ≤ high → low + length xs ≤ high
bounded key [] low high up from to le = omega arith
bounded key (x ∷ xs) low high up from to le =
    let rest = bounded key xs (suc (key x)) high up.1
    (each_weaker (λ z. key x < key z) (λ z. suc (key x) ≤ key z) (λ z h. omega arith) xs up.0) to.1 (omega arith) in
    omega (arith, rest)

each_any : {T : Type 0} (key : T → ℕ) (xs : List T) → AllByRecursion (λ x. 0 ≤ key x) xs
each_any key [] = tt
each_any key (x ∷ xs) = (omega arith, each_any key xs)

-- ---- the three sets

pub record IsSet {T : Type 0} (P : T → Type 0) (key : T → ℕ) (xs : List T) : Type 0 where
  pub ascends : IsAscending key xs
  pub each : AllByRecursion P xs
  pub few : length xs ≤ 64

pub subs_set : (c : Configuration) → IsConfiguration c → IsSet IsPlaced sub_key c.subs
subs_set c h = record { ascends = h.subs_ascend; each = h.subs_placed; few = h.subs_few }

pub services_set : (c : Configuration) → IsConfiguration c → IsSet IsService service_key c.services
services_set c h = record { ascends = h.services_ascend; each = h.services_formed; few = h.services_few }

pub packets_set : (c : Configuration) → IsConfiguration c → IsSet IsAddressed packet_key c.packets
packets_set c h = record { ascends = h.packets_ascend; each = h.packets_addressed; few = h.packets_few }

pub subs_keep : (c : Configuration) (xs : List Sub) → IsConfiguration c → IsSet IsPlaced sub_key xs
    → IsConfiguration (record c { subs = xs })
subs_keep c xs h k = record {
  subs_ascend = k.ascends;
  services_ascend = h.services_ascend;
  packets_ascend = h.packets_ascend;
  subs_placed = k.each;
  services_formed = h.services_formed;
  packets_addressed = h.packets_addressed;
  subs_few = k.few;
  services_few = h.services_few;
  packets_few = h.packets_few;
}

pub services_keep : (c : Configuration) (xs : List Service) → IsConfiguration c → IsSet IsService service_key xs
    → IsConfiguration (record c { services = xs })
services_keep c xs h k = record {
  subs_ascend = h.subs_ascend;
  services_ascend = k.ascends;
  packets_ascend = h.packets_ascend;
  subs_placed = h.subs_placed;
  services_formed = k.each;
  packets_addressed = h.packets_addressed;
  subs_few = h.subs_few;
  services_few = k.few;
  packets_few = h.packets_few;
}

pub packets_keep : (c : Configuration) (xs : List Packet) → IsConfiguration c → IsSet IsAddressed packet_key xs
    → IsConfiguration (record c { packets = xs })
packets_keep c xs h k = record {
  subs_ascend = h.subs_ascend;
  services_ascend = h.services_ascend;
  packets_ascend = k.ascends;
  subs_placed = h.subs_placed;
  services_formed = h.services_formed;
  packets_addressed = k.each;
  subs_few = h.subs_few;
  services_few = h.services_few;
  packets_few = k.few;
}

pub set_with : {T : Type 0} (P : T → Type 0) (key : T → ℕ) (y : T) (xs : List T) → IsSet P key xs
    → entry_at key (key y) xs ≡ None → P y → length xs < 64 → IsSet P key (with_entry key y xs)
set_with P key y xs h absent holds room = record {
  ascends = ascends_with key y xs h.ascends absent;
  each = each_with P key y xs holds h.each;
  few = omega (arith, length_with key y xs);
}

pub set_without : {T : Type 0} (P : T → Type 0) (key : T → ℕ) (k : ℕ) (xs : List T) → IsSet P key xs
    → IsSet P key (without_entry key k xs)
set_without P key k xs h = record {
  ascends = ascends_without key k xs h.ascends;
  each = each_without P key k xs h.each;
  few = let shorter = length_filtered (λ x. not (key x == k)) xs in omega (arith, shorter, h.few);
}

pub set_changed : {T : Type 0} (P : T → Type 0) (key : T → ℕ) (k : ℕ) (change : T → T) (xs : List T) (x : T)
    → IsSet P key xs → entry_at key k xs ≡ Some x → key (change x) ≡ k → P (change x)
    → IsSet P key (changed_at key k change xs)
set_changed P key k change xs x h found same holds =
    subst (IsSet P key) (changed_here key k change xs x h.ascends found same) (record {
      ascends = ascends_changed key (change x) xs h.ascends;
      each = each_changed P key (change x) (λ z _ _. holds) xs h.each;
      few = omega (arith, h.few, length-map xs (λ z. cond (key z == key (change x)) (change x) z));
    })

-- ---- sub-channels

three_tests : (a b c : Bool) (n : ℕ)
    → is_err (cond a (Err ZeroRate) (cond b (Err NotMultiple) (cond c (Err PastMultiplex) (Ok n)))) ≡ false
    → (a ≡ false) × (b ≡ false) × (c ≡ false)
three_tests false false false n e = (refl, refl, refl)
three_tests _ _ _ n e = absurd (false≢true (sym e))

pub sized : (p : Profile) (kbits : ℕ) → is_err (size_or_fault p kbits) ≡ false → IsSize p kbits (table_size p kbits)
sized p kbits e =
    let tests = three_tests (kbits == 0) (ltb 0 (kbits % rate_step p.set)) (ltb 864 (table_size p kbits))
    (table_size p kbits) e in
    record {
      positive = let some = eqb-false kbits 0 tests.0 in omega (arith, some);
      multiple = let none = ltb-false 0 (kbits % rate_step p.set) tests.1 in omega (arith, none);
      from_table = refl;
      within = ltb-false 864 (table_size p kbits) tests.2;
    }

pub placed : (s : Sub) → s.id < 64 → 1 ≤ s.protection.level → s.protection.level ≤ 4 → placing_fault s ≡ None
    → IsPlaced s
placed s named from to e =
    let rate = passed (has_bad_rate s) BadRate (cond (is_past_end s) (Some PastEnd) None) e in
    record {
      named = named;
      from_one = from;
      to_four = to;
      sized = sized s.protection s.kbits rate.0;
      ends = ltb-false 864 (s.start + size_of_sub s) (passed (is_past_end s) PastEnd None rate.1).0;
    }

each_named : (xs : List Sub) → AllByRecursion IsPlaced xs → AllByRecursion (λ s. sub_key s < 64) xs
each_named xs h = each_weaker IsPlaced (λ s. sub_key s < 64) (λ s k. k.named) xs h

-- if an identifier is free, there is room for a sub-channel
pub sub_room : (c : Configuration) (s : Sub) → IsConfiguration c → s.id < 64 → entry_at sub_key s.id c.subs ≡ None
    → length c.subs < 64
sub_room c s h named absent =
    let more = with_entry sub_key s c.subs in
    let up = ascends_with sub_key s c.subs h.subs_ascend absent in
    let within = each_with (λ x. sub_key x < 64) sub_key s c.subs named (each_named c.subs h.subs_placed) in
    let count = bounded sub_key more 0 64 up (each_any sub_key more) within (omega arith) in
    omega (arith, count, length_with sub_key s c.subs)

-- what an insertion requires
pub add_sub_fits : (s : Sub) (c : Configuration) → s.id < 64 → IsConfiguration c → add_sub_fault s c ≡ None
    → (entry_at sub_key s.id c.subs ≡ None) × (length c.subs < 64)
add_sub_fits s c named h e =
    let parts = passed (has_entry sub_key s.id c.subs) IdUsed (placing_fault s) e in
    let absent = absent_told sub_key s.id c.subs parts.0 in
    (absent, sub_room c s h named absent)

pub add_sub_keeps : (s : Sub) (c : Configuration) → s.id < 64 → 1 ≤ s.protection.level → s.protection.level ≤ 4
    → IsConfiguration c → add_sub_fault s c ≡ None → IsConfiguration (sub_added s c)
add_sub_keeps s c named from to h e =
    let parts = passed (has_entry sub_key s.id c.subs) IdUsed (placing_fault s) e in
    let absent = absent_told sub_key s.id c.subs parts.0 in
    subs_keep c (with_entry sub_key s c.subs) h
    (set_with IsPlaced sub_key s c.subs (subs_set c h) absent (placed s named from to parts.1)
    (sub_room c s h named absent))

pub drop_sub_keeps : (id : ℕ) (c : Configuration) → IsConfiguration c → IsConfiguration (sub_dropped id c)
drop_sub_keeps id c h = subs_keep c _ h (set_without _ _ id _ (subs_set c h))

pub moved_placed : (start : ℕ) (s : Sub) → IsPlaced s → is_past_end (at_start start s) ≡ false
    → IsPlaced (at_start start s)
moved_placed start s h e = record {
  named = h.named;
  from_one = h.from_one;
  to_four = h.to_four;
  sized = h.sized;
  ends = ltb-false 864 (start + size_of_sub s) e;
}

pub move_sub_keeps : (id start : ℕ) (c : Configuration) → IsConfiguration c → move_sub_fault id start c ≡ None
    → IsConfiguration (sub_moved id start c)
move_sub_keeps id start c h e =
    let found = there (sub_at id c) (λ s. cond (is_past_end (at_start start s)) (Some PastEnd) None) e in
    let s = found.0 in
    let was : IsPlaced s = entry_holds IsPlaced sub_key id c.subs s h.subs_placed found.1 in
    let parts = passed (is_past_end (at_start start s)) PastEnd None found.2 in
    subs_keep c (changed_at sub_key id (at_start start) c.subs) h
    (set_changed IsPlaced sub_key id (at_start start) c.subs s (subs_set c h) found.1
    (entry_key sub_key id c.subs s found.1) (moved_placed start s was parts.0))

pub rate_sub_keeps : (id kbits : ℕ) (c : Configuration) → IsConfiguration c → rate_sub_fault id kbits c ≡ None
    → IsConfiguration (sub_rated id kbits c)
rate_sub_keeps id kbits c h e =
    let found = there (sub_at id c) (λ s. placing_fault (at_rate kbits s)) e in
    let s = found.0 in
    let was : IsPlaced s = entry_holds IsPlaced sub_key id c.subs s h.subs_placed found.1 in
    subs_keep c (changed_at sub_key id (at_rate kbits) c.subs) h
    (set_changed IsPlaced sub_key id (at_rate kbits) c.subs s (subs_set c h) found.1
    (entry_key sub_key id c.subs s found.1) (placed (at_rate kbits s) was.named was.from_one was.to_four found.2))

-- ---- services

pub add_service_fits : (sid : Sid) (c : Configuration) → add_service_fault sid c ≡ None
    → (entry_at service_key (sid_key sid) c.services ≡ None) × (length c.services < 64)
add_service_fits sid c e =
    let one = passed (has_entry service_key (sid_key sid) c.services) IdUsed
    (cond (leb 64 (length c.services)) (Some TableFull) None) e in
    let two = passed (leb 64 (length c.services)) TableFull None one.1 in
    (absent_told service_key (sid_key sid) c.services one.0, leb-false 64 (length c.services) two.0)

pub add_service_keeps : (sid : Sid) (c : Configuration) → IsSid sid → IsConfiguration c → add_service_fault sid c ≡ None
    → IsConfiguration (service_added sid c)
add_service_keeps sid c named h e =
    let one = passed (has_entry service_key (sid_key sid) c.services) IdUsed
    (cond (leb 64 (length c.services)) (Some TableFull) None) e in
    let two = passed (leb 64 (length c.services)) TableFull None one.1 in
    let fresh : Service = record { sid = sid; components = [] } in
    services_keep c (with_entry service_key fresh c.services) h
    (set_with IsService service_key fresh c.services (services_set c h)
    (absent_told service_key (sid_key sid) c.services one.0)
    (record { named = named; within = tt; carriers = tt; few = omega arith }) (leb-false 64 (length c.services) two.0))

pub drop_service_keeps : (sid : Sid) (c : Configuration) → IsConfiguration c → IsConfiguration (service_dropped sid c)
drop_service_keeps sid c h = services_keep c _ h (set_without _ _ _ _ (services_set c h))

-- ---- components

same_itself : (a : Carrier) → is_same_carrier a a ≡ true
same_itself (BySub n) = eq-eqb n n refl
same_itself (ByPacket n) = eq-eqb n n refl

different_by : (test : Component → Bool) (m : Component) (ms : List Component) (t : Bool)
    → AllByRecursion (λ d. carrier_of m ≢ carrier_of d) (filter test ms) → AreDifferent (filter test ms)
    → AreDifferent (cond t (m ∷ filter test ms) (filter test ms))
different_by test m ms true h rest = (h, rest)
different_by test m ms false h rest = rest

different_filtered : (test : Component → Bool) (ms : List Component) → AreDifferent ms → AreDifferent (filter test ms)
different_filtered test [] h = tt
different_filtered test (m ∷ ms) h =
    different_by test m ms (test m) (each_filtered (λ d. carrier_of m ≢ carrier_of d) test ms h.0)
    (different_filtered test ms h.1)

-- the length of a list after one more
pushed_length : {T : Type 0} (xs : List T) (x : T) → length (xs ++ x ∷ []) ≡ length xs + 1
pushed_length xs x = length-append xs (x ∷ [])

pub grown : (m : Component) (s : Service) → IsComponent m → IsService s
    → list_any (names (carrier_of m)) s.components ≡ false → leb (component_limit s.sid) (length s.components) ≡ false
    → IsService (with_component m s)
grown m s within h free room = record {
  named = h.named;
  within = each_pushed IsComponent s.components m h.within within;
  carriers = different_pushed s.components m h.carriers free;
  few = let less = leb-false (component_limit s.sid) (length s.components) room in
      omega (arith, less, pushed_length s.components m);
}

pub shrunk : (carrier : Carrier) (s : Service) → IsService s → IsService (without_carrier carrier s)
shrunk carrier s h = record {
  named = h.named;
  within = each_filtered IsComponent (λ m. not (names carrier m)) s.components h.within;
  carriers = different_filtered (λ m. not (names carrier m)) s.components h.carriers;
  few = let shorter = length_filtered (λ m. not (names carrier m)) s.components in omega (arith, shorter, h.few);
}

-- a service that accepts one more component has room for it
pub component_fits : (m : Component) (s : Service) → IsComponent m → IsService s → component_fault m s ≡ None
    → (length s.components < component_limit s.sid) × IsService (with_component m s)
component_fits m s within h e =
    let one = passed (list_any (names (carrier_of m)) s.components) IdUsed
    (cond (leb (component_limit s.sid) (length s.components)) (Some TooManyComponents) None) e in
    let two = passed (leb (component_limit s.sid) (length s.components)) TooManyComponents None one.1 in
    (leb-false (component_limit s.sid) (length s.components) two.0, grown m s within h one.0 two.0)

pub add_component_keeps : (sid : Sid) (m : Component) (c : Configuration) → IsComponent m → IsConfiguration c
    → add_component_fault sid m c ≡ None → IsConfiguration (component_added sid m c)
add_component_keeps sid m c within h e =
    let found = there (service_at sid c) (component_fault m) e in
    let s = found.0 in
    let was : IsService s = entry_holds IsService service_key (sid_key sid) c.services s h.services_formed found.1 in
    let fits = component_fits m s within was found.2 in
    services_keep c _ h (set_changed _ _ _ _ _ s (services_set c h) found.1 (entry_key _ _ _ s found.1) fits.1)

pub drop_component_keeps : (sid : Sid) (carrier : Carrier) (c : Configuration) → IsConfiguration c
    → drop_component_fault sid carrier c ≡ None → IsConfiguration (component_dropped sid carrier c)
drop_component_keeps sid carrier c h e =
    let found = there (service_at sid c) (λ s. cond (list_any (names carrier) s.components) None (Some IdAbsent)) e in
    let s = found.0 in
    let was : IsService s = entry_holds IsService service_key (sid_key sid) c.services s h.services_formed found.1 in
    services_keep c (changed_at service_key (sid_key sid) (without_carrier carrier) c.services) h
    (set_changed IsService service_key (sid_key sid) (without_carrier carrier) c.services s (services_set c h) found.1
    (entry_key service_key (sid_key sid) c.services s found.1) (shrunk carrier s was))

-- carriers that the test finds the same are equal
pub carrier_same : (a b : Carrier) → is_same_carrier a b ≡ true → a ≡ b
carrier_same (BySub m) (BySub n) e = ap BySub (eqb-true m n e)
carrier_same (ByPacket m) (ByPacket n) e = ap ByPacket (eqb-true m n e)
carrier_same _ _ e = absurd (false≢true e)

named_not : (carrier : Carrier) (m : Component) → (carrier_of m ≢ carrier) → names carrier m ≡ false
named_not carrier m differ = false_from_ne_true (names carrier m) (λ e. differ (carrier_same (carrier_of m) carrier e))

-- if no component has the carrier, all stay
all_stay : (carrier : Carrier) (ms : List Component) → AllByRecursion (λ m. carrier_of m ≢ carrier) ms
    → filter (λ m. not (names carrier m)) ms ≡ ms
all_stay carrier [] h = refl
all_stay carrier (m ∷ ms) h = rw (named_not carrier m h.0) (ap (λ ns. m ∷ ns) (all_stay carrier ms h.1))

pub stay_told : (carrier : Carrier) (ms : List Component) → list_any (names carrier) ms ≡ false
    → filter (λ m. not (names carrier m)) ms ≡ ms
stay_told carrier [] e = refl
stay_told carrier (m ∷ ms) e =
    let parts = or_parts (names carrier m) (list_any (names carrier) ms) e in
    rw parts.0 (ap (λ ns. m ∷ ns) (stay_told carrier ms parts.1))

-- the others close up
pub closed_up : (carrier : Carrier) (ms : List Component) (i : ℕ) (m : Component) → AreDifferent ms
    → slice_get ms i ≡ Some m → carrier_of m ≡ carrier → remove ms i ≡ filter (λ n. not (names carrier n)) ms
closed_up carrier [] i m h at is = some_none m (sym at)
closed_up carrier (n ∷ ns) zero m h at is =
    let same : n ≡ m = cc in
    let here : carrier_of n ≡ carrier = ap carrier_of same ∙ is in
    let named : names carrier n ≡ true =
    subst (λ (a : Carrier). is_same_carrier a carrier ≡ true) (sym here) (same_itself carrier) in
    let stay = all_stay carrier ns
    (each_weaker (λ d. carrier_of n ≢ carrier_of d) (λ d. carrier_of d ≢ carrier)
    (λ d differ e. differ (here ∙ sym e)) ns h.0) in
    rw named (sym stay)
closed_up carrier (n ∷ ns) (suc i) m h at is =
    let other : carrier_of n ≢ carrier = λ e. each_at (λ d. carrier_of n ≢ carrier_of d) ns i m h.0 at (e ∙ sym is) in
    rw (named_not carrier n other) (ap (λ xs. n ∷ xs) (closed_up carrier ns i m h.1 at is))

-- ---- packet components

either_number : (p : Packet) → has_bad_address p ≡ false → (1 ≤ p.address) × (p.address ≤ 1023)
either_number p e =
    let parts = or_parts (p.address == 0) (ltb 1023 p.address) e in
    (omega (arith, eqb-false p.address 0 parts.0), ltb-false 1023 p.address parts.1)

pub add_packet_fits : (p : Packet) (c : Configuration) → add_packet_fault p c ≡ None
    → (entry_at packet_key p.scid c.packets ≡ None) × (length c.packets < 64)
add_packet_fits p c e =
    let one = passed (has_entry packet_key p.scid c.packets) IdUsed
    (cond (has_bad_address p) (Some BadAddress) (cond (leb 64 (length c.packets)) (Some TableFull) None)) e in
    let two = passed (has_bad_address p) BadAddress (cond (leb 64 (length c.packets)) (Some TableFull) None) one.1 in
    let three = passed (leb 64 (length c.packets)) TableFull None two.1 in
    (absent_told packet_key p.scid c.packets one.0, leb-false 64 (length c.packets) three.0)

pub add_packet_keeps : (p : Packet) (c : Configuration) → p.scid < 4096 → p.ty < 64 → p.sub < 64 → IsConfiguration c
    → add_packet_fault p c ≡ None → IsConfiguration (packet_added p c)
add_packet_keeps p c named typed carried h e =
    let one = passed (has_entry packet_key p.scid c.packets) IdUsed
    (cond (has_bad_address p) (Some BadAddress) (cond (leb 64 (length c.packets)) (Some TableFull) None)) e in
    let two = passed (has_bad_address p) BadAddress (cond (leb 64 (length c.packets)) (Some TableFull) None) one.1 in
    let address = either_number p two.0 in
    packets_keep c (with_entry packet_key p c.packets) h
    (set_with IsAddressed packet_key p c.packets (packets_set c h) (absent_told packet_key p.scid c.packets one.0)
    (record { named = named; typed = typed; carried = carried; from_one = address.0; to_last = address.1 })
    (leb-false 64 (length c.packets) (passed (leb 64 (length c.packets)) TableFull None two.1).0))

pub drop_packet_keeps : (scid : ℕ) (c : Configuration) → IsConfiguration c → IsConfiguration (packet_dropped scid c)
drop_packet_keeps scid c h = packets_keep c _ h (set_without _ _ scid _ (packets_set c h))

-- ---- all ten

pub edits_keep : EditsKeep
edits_keep (AddSub s) c within h e = add_sub_keeps s c within.0 within.1 within.2 h e
edits_keep (DropSub id) c within h e = drop_sub_keeps id c h
edits_keep (MoveSub id start) c within h e = move_sub_keeps id start c h e
edits_keep (RateSub id kbits) c within h e = rate_sub_keeps id kbits c h e
edits_keep (AddService sid) c within h e = add_service_keeps sid c within h e
edits_keep (DropService sid) c within h e = drop_service_keeps sid c h
edits_keep (AddComponent sid m) c within h e = add_component_keeps sid m c within h e
edits_keep (DropComponent sid carrier) c within h e = drop_component_keeps sid carrier c h e
edits_keep (AddPacket p) c within h e = add_packet_keeps p c within.0 within.1 within.2 h e
edits_keep (DropPacket scid) c within h e = drop_packet_keeps scid c h
