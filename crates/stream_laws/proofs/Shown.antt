-- Pictures that show configurations; their lists have entries of their kinds.
use Rattle.stream_laws.proofs.Words.{[], ◌&&◌, ◌++◌, ◌+◌, ◌<◌, ◌==◌, ◌∙◌, ◌∷◌, ◌≡◌, ◌≤◌, AllByRecursion, Bool}
use Rattle.stream_laws.proofs.Words.{ChangeIsUnique, Configuration, Contains, Contains-append_cases, Ended, Entry}
use Rattle.stream_laws.proofs.Words.{HaveSameMembers, IsAddressed, IsAscending, IsChange, IsConfiguration, IsPlaced}
use Rattle.stream_laws.proofs.Words.{IsService, IsTrue, IsWithin, Item, List, Listening, Moment, Pictured, Raw, Said}
use Rattle.stream_laws.proofs.Words.{ShowsEach, Some, SpellingIdentifies, Sub, agree, agree_same, agree_self}
use Rattle.stream_laws.proofs.Words.{all_append, and_from, ap, append_assoc, are_same, arith, bits_of, blank}
use Rattle.stream_laws.proofs.Words.{change_between, change_of, cond, contains_cases, contains_none, each_contains}
use Rattle.stream_laws.proofs.Words.{each_kept, ensemble_of_item, entry_at, entry_like, eq-eqb, eqb-false, eqb-true}
use Rattle.stream_laws.proofs.Words.{ext_of, false, false≢true, has_same_services, has_same_subs, heard_as}
use Rattle.stream_laws.proofs.Words.{identifier_of, inl, inr, is_ensemble, kept, listener_after, map, mapped_to, ne_eqb}
use Rattle.stream_laws.proofs.Words.{not, packet_entry, packet_identified, packet_key, packet_within, raw_entry, refl}
use Rattle.stream_laws.proofs.Words.{service_entries, service_entry, service_identified, service_key, service_within}
use Rattle.stream_laws.proofs.Words.{shows_each, sub_entries, sub_entry, sub_identified, sub_key, sub_within, subst}
use Rattle.stream_laws.proofs.Words.{sym, true, ℕ}
use Rattle.mux_types.specs.declared.parts.Service.{Service}
use Rattle.mux_types.specs.declared.parts.Packet.{Packet}
use Rattle.mux_types.specs.Sameness.{is_same_list, is_same_sub, is_same_service, is_same_packet}
use Rattle.mux_config.proofs.Same.{list_same, sub_same, service_same, packet_same}
use Rattle.mux_config.proofs.FactSets.{same_members}
use Rattle.fib_reader.specs.Picture.{IsPictured, IsSubOf, Shows}
use Rattle.stream_laws.proofs.Clean.{IsClean, all_left}
use Rattle.stream_laws.proofs.Pictures.{picture_with}
use Rattle.stream_laws.proofs.Kept.{with_member, after_member, after_heard, first_holds, second_holds}
use Rattle.stream_laws.proofs.Tracking.{IsFormed}

-- ---- the lists of a picture have entries of their kinds

pub record HasKinds (p : Pictured) : Type 0 where
  pub subs : AllByRecursion (λ r. r.ext ≡ 1) p.subs
  pub services : AllByRecursion (λ r. r.ext ≡ 2) p.services
  pub packets : AllByRecursion (λ r. r.ext ≡ 3) p.packets

none : HasKinds blank
none = record { subs = tt; services = tt; packets = tt }

kinds_with : (raw : Raw) (p : Pictured) → 0 < raw.ext → raw.ext < 4 → HasKinds p → HasKinds (picture_with raw p)
kinds_with raw p some few h = elim (raw.ext == 1) as (λ t. (raw.ext == 1) ≡ t
    → HasKinds (cond t (record p { subs = kept raw p.subs })
    (cond (raw.ext == 2) (record p { services = kept raw p.services }) (record p { packets = kept raw p.packets })))) [
      | true ↦ λ is. record {
        subs = each_kept (λ r. r.ext ≡ 1) raw p.subs (eqb-true raw.ext 1 is) h.subs;
        services = h.services;
        packets = h.packets;
      }
      | false ↦ λ is. elim (raw.ext == 2) as (λ t. (raw.ext == 2) ≡ t
          → HasKinds (cond t (record p { services = kept raw p.services })
          (record p { packets = kept raw p.packets }))) [
            | true ↦ λ two. record {
              subs = h.subs;
              services = each_kept (λ r. r.ext ≡ 2) raw p.services (eqb-true raw.ext 2 two) h.services;
              packets = h.packets;
            }
            | false ↦ λ two.
                let three : raw.ext ≡ 3 = omega (arith, some, few, eqb-false raw.ext 1 is, eqb-false raw.ext 2 two) in
                record {
                  subs = h.subs;
                  services = h.services;
                  packets = each_kept (λ r. r.ext ≡ 3) raw p.packets three h.packets;
                }
          ] refl
    ] refl

pub record AreKinds (l : Listening) : Type 0 where
  pub current : HasKinds l.current
  pub next : HasKinds l.next

member_kinds : (t n : Bool) (raw : Raw) (l : Listening) → 0 < raw.ext → raw.ext < 4 → AreKinds l
    → AreKinds (cond t (with_member n raw l) l)
member_kinds true true raw l some few h = record { current = h.current; next = kinds_with raw l.next some few h.next }
member_kinds true false raw l some few h =
    record { current = kinds_with raw l.current some few h.current; next = h.next }
member_kinds false n raw l some few h = h

ensemble_kinds : (b f : Bool) (i : Item) (l : Listening) → AreKinds l → AreKinds (heard_as b f (ensemble_of_item i) l)
ensemble_kinds true true i l h = record { current = h.next; next = none }
ensemble_kinds true false i l h = record { current = h.next; next = none }
ensemble_kinds false true i l h = record { current = h.current; next = h.next }
ensemble_kinds false false i l h = record { current = h.current; next = h.next }

entry_kinds : (step period : ℕ) (past : List Moment) (i : Item) (b : Bool) → is_ensemble i ≡ b
    → IsClean step period (Said i ∷ past) → i.raw.ext < 4 → AreKinds (listener_after past)
    → AreKinds (listener_after (Said i ∷ past))
entry_kinds step period past i true e c few h =
    subst AreKinds (sym (after_heard step _ past i _ _ c e refl refl)) (ensemble_kinds _ _ i _ h)
entry_kinds step period past i false e c few h =
    let some : 0 < i.raw.ext = omega (arith, eqb-false i.raw.ext 0 e) in
    subst AreKinds (sym (after_member step _ past i c e)) (member_kinds _ _ i.raw _ some few h)

pub all_kinds : (step period : ℕ) (past : List Moment) → IsClean step period past → IsFormed past
    → AreKinds (listener_after past)
all_kinds step period [] c w = record { current = none; next = none }
all_kinds step period (Said i ∷ past) c w = entry_kinds step _ past i _ refl c w.0 (all_kinds step period past c.2 w.2)
all_kinds step period (Ended count ∷ past) c w = all_kinds step period past c w

-- ---- the entries of each kind

-- a sub-channel of a configuration has one of 64 identifiers
abbrev IsSmall : Raw → Type 0
IsSmall raw = raw.ext ≡ 1 → identifier_of raw < 64

small_subs : (ss : List Sub) → AllByRecursion IsPlaced ss → AllByRecursion IsSmall (map raw_entry (map sub_entry ss))
small_subs [] all = tt
small_subs (s ∷ ss) all = (
  (λ e. (let is = sub_identified s all.0 in let named = all.0.named in
      omega (arith, is, named))),
  small_subs ss all.1,
)

others : {T : Type 0} (f : T → Entry) (xs : List T) → ((x : T) → (raw_entry (f x)).ext ≡ 1 → ⊥)
    → AllByRecursion IsSmall (map raw_entry (map f xs))
others f [] not_so = tt
others f (x ∷ xs) not_so = ((λ e. absurd (not_so x e)), others f xs not_so)

maps : (xs ys : List Entry) → map raw_entry (xs ++ ys) ≡ map raw_entry xs ++ map raw_entry ys
maps [] ys = refl
maps (x ∷ xs) ys = ap (λ zs. raw_entry x ∷ zs) (maps xs ys)

small_entries : (c : Configuration) → IsConfiguration c
    → AllByRecursion IsSmall (map raw_entry (sub_entries c ++ service_entries c))
small_entries c is =
    subst (AllByRecursion IsSmall) (sym (maps (sub_entries c) (service_entries c)))
    (all_append IsSmall (map raw_entry (sub_entries c)) (map raw_entry (service_entries c))
    (small_subs c.subs is.subs_placed)
    (subst (AllByRecursion IsSmall) (sym (maps (map service_entry c.services) (map packet_entry c.packets)))
    (all_append IsSmall (map raw_entry (map service_entry c.services)) (map raw_entry (map packet_entry c.packets))
    (others service_entry c.services (λ x e. omega (arith, e)))
    (others packet_entry c.packets (λ x e. omega (arith, e))))))

subs_of : (rs : List Raw) → AllByRecursion (λ r. r.ext ≡ 1) rs → AllByRecursion IsSmall rs → AllByRecursion IsSubOf rs
subs_of [] ext small = tt
subs_of (r ∷ rs) ext small = ((ext.0, small.0 ext.0), subs_of rs ext.1 small.1)

pub shows_kinds : (p : Pictured) (c : Configuration) → HasKinds p → IsConfiguration c → Shows p c → ShowsEach p c
shows_kinds p c k is shows =
    let all : AllByRecursion IsSmall (p.subs ++ (p.services ++ p.packets)) =
    subst (AllByRecursion IsSmall) (sym shows ∙ append_assoc p.subs p.services p.packets) (small_entries c is) in
    let pictured : IsPictured p =
    record {
      subs = subs_of p.subs k.subs (all_left IsSmall p.subs (p.services ++ p.packets) all);
      services = k.services;
      packets = k.packets;
    } in
    shows_each p c pictured shows

-- ---- its entries are found

found_of : {T : Type 0} (key : T → ℕ) (f : T → Raw) (P : T → Type 0) (xs : List T) (y : T)
    → ((x : T) → P x → identifier_of (f x) ≡ key x) → AllByRecursion P xs → IsAscending key xs → Contains xs y
    → entry_at identifier_of (identifier_of (f y)) (map f xs) ≡ Some (f y)
found_of key f P [] y same all up h = absurd (contains_none y h)
found_of key f P (x ∷ xs) y same all up h = elim (contains_cases x xs y h) [
  | inl is ↦ ap (λ t. cond t (Some (f x)) (entry_at identifier_of (identifier_of (f y)) (map f xs)))
      (eq-eqb (identifier_of (f x)) (identifier_of (f y)) (ap (λ z. identifier_of (f z)) is)) ∙ ap (λ z. Some (f z)) is
  | inr later ↦ (
      let less : key x < key y = each_contains (λ z. key x < key z) xs y up.0 later in
      let two : identifier_of (f y) ≡ key y = same y (each_contains P xs y all.1 later) in
      ap (λ t. cond t (Some (f x)) (entry_at identifier_of (identifier_of (f y)) (map f xs)))
      (ne_eqb (identifier_of (f x)) (identifier_of (f y)) (λ e. omega (arith, less, two, e)))
      ∙ found_of key f P xs y same all.1 up.1 later
      )
]

pub record IsEntryOf (p : Pictured) (e : Entry) : Type 0 where
  pub found : entry_like (raw_entry e) p ≡ Some (raw_entry e)
  pub some : 1 ≤ ext_of e
  pub small : ext_of e < 4
  pub within : IsWithin e

sub_shown : (p : Pictured) (c : Configuration) → IsConfiguration c → ShowsEach p c → (s : Sub) → Contains c.subs s
    → IsEntryOf p (sub_entry s)
sub_shown p c is h s inside = record {
  found = ap (entry_at identifier_of (identifier_of (raw_entry (sub_entry s)))) (sym h.subs)
      ∙ found_of sub_key (λ x. raw_entry (sub_entry x)) IsPlaced c.subs s sub_identified is.subs_placed is.subs_ascend
      inside;
  some = omega arith;
  small = omega arith;
  within = sub_within s (each_contains IsPlaced c.subs s is.subs_placed inside);
}

service_shown : (p : Pictured) (c : Configuration) → IsConfiguration c → ShowsEach p c → (s : Service)
    → Contains c.services s → IsEntryOf p (service_entry s)
service_shown p c is h s inside = record {
  found = ap (entry_at identifier_of (identifier_of (raw_entry (service_entry s)))) (sym h.services)
      ∙ found_of service_key (λ x. raw_entry (service_entry x)) IsService c.services s service_identified
      is.services_formed is.services_ascend inside;
  some = omega arith;
  small = omega arith;
  within = service_within s (each_contains IsService c.services s is.services_formed inside);
}

packet_shown : (p : Pictured) (c : Configuration) → IsConfiguration c → ShowsEach p c → (s : Packet)
    → Contains c.packets s → IsEntryOf p (packet_entry s)
packet_shown p c is h s inside = record {
  found = ap (entry_at identifier_of (identifier_of (raw_entry (packet_entry s)))) (sym h.packets)
      ∙ found_of packet_key (λ x. raw_entry (packet_entry x)) IsAddressed c.packets s packet_identified
      is.packets_addressed is.packets_ascend inside;
  some = omega arith;
  small = omega arith;
  within = packet_within s (each_contains IsAddressed c.packets s is.packets_addressed inside);
}

pub entry_shown : (p : Pictured) (c : Configuration) → IsConfiguration c → ShowsEach p c → (e : Entry)
    → Contains (sub_entries c ++ service_entries c) e → IsEntryOf p e
entry_shown p c is h e inside = elim (Contains-append_cases (sub_entries c) (service_entries c) e inside) [
  | inl sub ↦ (let there = mapped_to sub_entry c.subs e sub in
      subst (IsEntryOf p) there.2 (sub_shown p c is h there.0 there.1))
  | inr rest ↦ elim (Contains-append_cases (map service_entry c.services) (map packet_entry c.packets) e rest) [
    | inl service ↦ (let there = mapped_to service_entry c.services e service in
        subst (IsEntryOf p) there.2 (service_shown p c is h there.0 there.1))
    | inr packet ↦ (let there = mapped_to packet_entry c.packets e packet in
        subst (IsEntryOf p) there.2 (packet_shown p c is h there.0 there.1))
  ]
]

-- ---- the flags of a change

same_lists : (xs ys : List Raw) → are_same xs ys ≡ true → xs ≡ ys
same_lists [] [] e = refl
same_lists (x ∷ xs) (y ∷ ys) e =
    let tail : xs ≡ ys = same_lists xs ys (second_holds (agree x y) (are_same xs ys) e) in
    ap (λ z. z ∷ xs) (agree_same x y (first_holds (agree x y) (are_same xs ys) e)) ∙ ap (λ zs. y ∷ zs) tail
same_lists _ _ e = absurd (false≢true e)

same_itself : (xs : List Raw) → are_same xs xs ≡ true
same_itself [] = refl
same_itself (x ∷ xs) = ap (λ b. b && are_same xs xs) (agree_self x) ∙ same_itself xs

same_equal : (xs ys : List Raw) → xs ≡ ys → are_same xs ys ≡ true
same_equal xs ys e = ap (are_same xs) (sym e) ∙ same_itself xs

bools_equal : (a b : Bool) → (a ≡ true → b ≡ true) → (b ≡ true → a ≡ true) → a ≡ b
bools_equal true false f g = sym (f refl)
bools_equal false true f g = g refl
bools_equal _ _ f g = refl

-- the bytes of entries determine their contents
entries_told : {T : Type 0} (f : T → Entry) (P : T → Type 0) (xs ys : List T) → SpellingIdentifies
    → ((x : T) → P x → IsWithin (f x)) → AllByRecursion P xs → AllByRecursion P ys
    → map (λ x. raw_entry (f x)) xs ≡ map (λ x. raw_entry (f x)) ys → map f xs ≡ map f ys
entries_told f P [] [] tells within all other e = refl
entries_told f P (x ∷ xs) (y ∷ ys) tells within all other e =
    let heads : raw_entry (f x) ≡ raw_entry (f y) = cc in
    let one : f x ≡ f y = tells (f x) (f y) (within x all.0) (within y other.0) (ap (λ (r : Raw). r.ext) heads)
    (ap (λ (r : Raw). r.long) heads) (ap (λ (r : Raw). r.bytes) heads) in
    ap (λ z. z ∷ map f xs) one ∙ ap (λ zs. f y ∷ zs) (entries_told f P xs ys tells within all.1 other.1 cc)
entries_told f P _ _ tells within all other e = absurd cc

is_no_other : {T : Type 0} (xs ys : List T) (b : Bool) → (IsTrue (not b) → (HaveSameMembers xs ys → ⊥)) → xs ≡ ys
    → b ≡ true
is_no_other xs ys true h e = refl
is_no_other xs ys false h e = absurd (h refl (same_members e))

flipped : (b : Bool) (n : ℕ) → cond b 0 n ≡ cond (not b) n 0
flipped true n = refl
flipped false n = refl

subs_same : SpellingIdentifies → ChangeIsUnique → (p q : Pictured) (c d : Configuration) → IsConfiguration c
    → IsConfiguration d → ShowsEach p c → ShowsEach q d → are_same p.subs q.subs ≡ has_same_subs c d
subs_same tells change p q c d is_c is_d h k =
    let right : IsChange c d (change_of c d) = (change c d (change_of c d) is_c is_d).1 refl in
    bools_equal (are_same p.subs q.subs) (has_same_subs c d)
    (λ e. is_no_other (sub_entries c) (sub_entries d) (has_same_subs c d) right.subs.0
    (entries_told sub_entry IsPlaced c.subs d.subs tells sub_within is_c.subs_placed is_d.subs_placed
    (h.subs ∙ same_lists p.subs q.subs e ∙ sym k.subs)))
    (λ e. same_equal p.subs q.subs
    (sym h.subs ∙ ap (map (λ s. raw_entry (sub_entry s))) (list_same is_same_sub sub_same c.subs d.subs e)
    ∙ k.subs))

services_same : SpellingIdentifies → ChangeIsUnique → (p q : Pictured) (c d : Configuration) → IsConfiguration c
    → IsConfiguration d → ShowsEach p c → ShowsEach q d
    → (are_same p.services q.services && are_same p.packets q.packets) ≡ has_same_services c d
services_same tells change p q c d is_c is_d h k =
    let right : IsChange c d (change_of c d) = (change c d (change_of c d) is_c is_d).1 refl in
    bools_equal (are_same p.services q.services && are_same p.packets q.packets) (has_same_services c d)
    (λ e.
    let one : map service_entry c.services ≡ map service_entry d.services =
    entries_told service_entry IsService c.services d.services tells service_within is_c.services_formed
    is_d.services_formed
    (h.services ∙ same_lists p.services q.services (first_holds (are_same p.services q.services) _ e)
    ∙ sym k.services) in
    let two : map packet_entry c.packets ≡ map packet_entry d.packets = entries_told _ _ _ _ tells packet_within
    is_c.packets_addressed is_d.packets_addressed (h.packets ∙ same_lists _ _ (second_holds _ _ e) ∙ sym k.packets) in
    is_no_other (service_entries c) (service_entries d) (has_same_services c d) right.services.0
    (ap (λ xs. xs ++ map packet_entry c.packets) one ∙ ap (λ ys. map service_entry d.services ++ ys) two))
    (λ e. and_from (are_same p.services q.services) (are_same p.packets q.packets)
    (same_equal p.services q.services
    (sym h.services ∙ ap (map (λ s. raw_entry (service_entry s)))
    (list_same is_same_service service_same c.services d.services
    (first_holds (is_same_list is_same_service c.services d.services) _ e)) ∙ k.services))
    (same_equal p.packets q.packets
    (sym h.packets ∙ ap (map (λ s. raw_entry (packet_entry s)))
    (list_same is_same_packet packet_same c.packets d.packets
    (second_holds (is_same_list is_same_service c.services d.services) _ e)) ∙ k.packets)))

pub flags_of_change : SpellingIdentifies → ChangeIsUnique → (p q : Pictured) (c d : Configuration) → IsConfiguration c
    → IsConfiguration d → ShowsEach p c → ShowsEach q d → change_between p q ≡ bits_of (change_of c d)
flags_of_change tells change p q c d is_c is_d h k =
    ap (λ b. cond b 0 1 + cond (are_same p.services q.services && are_same p.packets q.packets) 0 2)
    (subs_same tells change p q c d is_c is_d h k)
    ∙ ap (λ b. cond (has_same_subs c d) 0 1 + cond b 0 2) (services_same tells change p q c d is_c is_d h k)
    ∙ ap (λ n. n + cond (has_same_services c d) 0 2) (flipped (has_same_subs c d) 1)
    ∙ ap (λ n. cond (not (has_same_subs c d)) 1 0 + n) (flipped (has_same_services c d) 2)
