-- Pictures that show a configuration.
use Rattle.fib_reader.proofs.Words.{[], ◌++◌, ◌<◌, ◌∙◌, ◌∷◌, ◌≡◌, ◌≢◌, ◌≤◌, AllByRecursion, Configuration}
use Rattle.fib_reader.proofs.Words.{FactsIdentify, IsAddressed, IsAscending, IsConfiguration, IsPictured, IsPlaced}
use Rattle.fib_reader.proofs.Words.{IsService, IsSubOf, IsWithin, List, Pictured, Raw, Shows, SpellingIdentifies, ap}
use Rattle.fib_reader.proofs.Words.{append_assoc, arith, false, identifier_of, length, length-map, map, map-append}
use Rattle.fib_reader.proofs.Words.{marked, packet_entry, packet_key, raw_entry, refl, service_entries, service_entry}
use Rattle.fib_reader.proofs.Words.{service_key, sub_entries, sub_entry, sub_key, subst, sym, ℕ}
use Rattle.mux_types.specs.declared.entry.Entry.{Entry}
use Rattle.fib_reader.proofs.FromEntries.{sub_within, service_within, packet_within, sub_identified, service_identified}
use Rattle.fib_reader.proofs.FromEntries.{packet_identified}

-- entries of one extension come before those of others
split_off :
    (n : ℕ) (xs xs' ys ys' : List Raw) → AllByRecursion (λ r. r.ext ≡ n) xs → AllByRecursion (λ r. r.ext ≡ n) ys
    → AllByRecursion (λ r. r.ext ≢ n) xs'
    → AllByRecursion (λ r. r.ext ≢ n) ys' → xs ++ xs' ≡ ys ++ ys' → (xs ≡ ys) × (xs' ≡ ys')
split_off n [] xs' [] ys' p q p' q' h = (refl, h)
split_off n [] xs' (y ∷ ys) ys' p q p' q' h =
    absurd ((subst (AllByRecursion (λ r. r.ext ≢ n)) h p').0 q.0)
split_off n (x ∷ xs) xs' [] ys' p q p' q' h =
    absurd ((subst (AllByRecursion (λ r. r.ext ≢ n)) (sym h) q').0 p.0)
split_off n (x ∷ xs) xs' (y ∷ ys) ys' p q p' q' h =
    let heads : x ≡ y = (cc) in
    let more = split_off n xs xs' ys ys' p.1 q.1 p' q' (cc) in
    (rw (heads, more.0) refl, more.1)

each_raw : {T : Type 0} (P : Raw → Type 0) (f : T → Entry) (xs : List T) → ((x : T) → P (raw_entry (f x)))
    → AllByRecursion P (map raw_entry (map f xs))
each_raw P f [] all = tt
each_raw P f (x ∷ xs) all = (all x, each_raw P f xs all)

each_both : (P : Raw → Type 0) (xs ys : List Raw) → AllByRecursion P xs → AllByRecursion P ys
    → AllByRecursion P (xs ++ ys)
each_both P [] ys p q = q
each_both P (x ∷ xs) ys p q = (p.0, each_both P xs ys p.1 q)

each_turned : (P Q : Raw → Type 0) (xs : List Raw) → ((x : Raw) → P x → Q x) → AllByRecursion P xs → AllByRecursion Q xs
each_turned P Q [] f all = tt
each_turned P Q (x ∷ xs) f all = (f x all.0, each_turned P Q xs f all.1)

-- so what a picture shows can be stated list by list
pub record ShowsEach (p : Pictured) (c : Configuration) : Type 0 where
  pub subs : map (λ s. raw_entry (sub_entry s)) c.subs ≡ p.subs
  pub services : map (λ s. raw_entry (service_entry s)) c.services ≡ p.services
  pub packets : map (λ s. raw_entry (packet_entry s)) c.packets ≡ p.packets

twice : {T : Type 0} (f : T → Entry) (xs : List T) → map raw_entry (map f xs) ≡ map (λ x. raw_entry (f x)) xs
twice f [] = refl
twice f (x ∷ xs) = rw (twice f xs) refl

all_said : (c : Configuration) → map raw_entry (sub_entries c ++ service_entries c)
    ≡ map raw_entry (map sub_entry c.subs)
    ++ (map raw_entry (map service_entry c.services) ++ map raw_entry (map packet_entry c.packets))
all_said c =
    rw (← map-append raw_entry (map service_entry c.services) (map packet_entry c.packets))
    (map-append raw_entry (map sub_entry c.subs) (map service_entry c.services ++ map packet_entry c.packets))

other_than : (m n : ℕ) → m ≢ n → (r : Raw) → r.ext ≡ m → r.ext ≢ n
other_than m n apart r is same = apart (sym is ∙ same)

pub shows_each : (p : Pictured) (c : Configuration) → IsPictured p → Shows p c → ShowsEach p c
shows_each p c is shows =
    let parts = sym (append_assoc p.subs p.services p.packets) ∙ shows ∙ all_said c in
    let subs = each_turned IsSubOf (λ r. r.ext ≡ 1) p.subs (λ r h. h.0) is.subs in
    let rest : AllByRecursion (λ r. r.ext ≢ 1) (p.services ++ p.packets) =
    each_both (λ r. r.ext ≢ 1) p.services p.packets
    (each_turned (λ r. r.ext ≡ 2) (λ r. r.ext ≢ 1) p.services (other_than 2 1 (λ e. omega arith)) is.services)
    (each_turned (λ r. r.ext ≡ 3) (λ r. r.ext ≢ 1) p.packets (other_than 3 1 (λ e. omega arith)) is.packets) in
    let packets : AllByRecursion (λ r. r.ext ≢ 2) p.packets =
    each_turned (λ r. r.ext ≡ 3) (λ r. r.ext ≢ 2) p.packets (other_than 3 2 (λ e. omega arith)) is.packets in
    let said_rest : AllByRecursion (λ r. r.ext ≢ 1) (map raw_entry (map service_entry c.services)
    ++ map raw_entry (map packet_entry c.packets)) =
    each_both (λ r. r.ext ≢ 1) (map raw_entry (map service_entry c.services))
    (map raw_entry (map packet_entry c.packets))
    (each_raw (λ r. r.ext ≢ 1) service_entry c.services (λ x e. omega arith))
    (each_raw (λ r. r.ext ≢ 1) packet_entry c.packets (λ x e. omega arith)) in
    let one = split_off 1 p.subs (p.services ++ p.packets) (map raw_entry (map sub_entry c.subs)) _ subs
    (each_raw (λ r. r.ext ≡ 1) sub_entry c.subs (λ x. refl)) rest said_rest parts in
    let two = split_off 2 p.services p.packets (map raw_entry (map service_entry c.services)) _ is.services
    (each_raw (λ r. r.ext ≡ 2) _ _ (λ x. refl)) packets (each_raw (λ r. r.ext ≢ 2) _ _ (λ x e. omega arith)) one.1 in
    record {
      subs = sym (twice sub_entry c.subs) ∙ sym one.0;
      services = sym (twice service_entry c.services) ∙ sym two.0;
      packets = sym (twice packet_entry c.packets) ∙ sym two.1;
    }

pub each_shows : (p : Pictured) (c : Configuration) → ShowsEach p c → Shows p c
each_shows p c h =
    append_assoc p.subs p.services p.packets
    ∙ ap (λ t. t ++ (p.services ++ p.packets)) (sym (twice sub_entry c.subs ∙ h.subs))
    ∙ ap (λ t. map raw_entry (map sub_entry c.subs) ++ (t ++ p.packets))
    (sym (twice service_entry c.services ∙ h.services))
    ∙ ap (λ t. map raw_entry (map sub_entry c.subs) ++ (map raw_entry (map service_entry c.services) ++ t))
    (sym (twice packet_entry c.packets ∙ h.packets))
    ∙ sym (all_said c)

-- ---- members of ascending entries ascend

keys_above :
    {T : Type 0} (key : T → ℕ) (f : T → Raw) (P : T → Type 0) (xs : List T) (n : ℕ)
    → ((y : T) → P y → identifier_of (f y) ≡ key y) → AllByRecursion P xs
    → AllByRecursion (λ raw. n < identifier_of raw) (map f xs)
    → AllByRecursion (λ y. n < key y) xs
keys_above key f P [] n same all above = tt
keys_above key f P (y ∷ ys) n same all above = (rw (← same y all.0) above.0, keys_above key f P ys n same all.1 above.1)

members_ascend :
    {T : Type 0} (key : T → ℕ) (f : T → Raw) (P : T → Type 0) (xs : List T)
    → ((y : T) → P y → identifier_of (f y) ≡ key y) → AllByRecursion P xs → IsAscending identifier_of (map f xs)
    → IsAscending key xs
members_ascend key f P [] same all up = tt
members_ascend key f P (x ∷ xs) same all up = (
  subst (λ (n : ℕ). AllByRecursion (λ y. n < key y) xs) (same x all.0)
      (keys_above key f P xs (identifier_of (f x)) same all.1 up.0),
  members_ascend key f P xs same all.1 up.1,
)

pub makes_configuration :
    (p : Pictured) (c : Configuration) → ShowsEach p c → AllByRecursion IsPlaced c.subs
    → AllByRecursion IsService c.services → AllByRecursion IsAddressed c.packets
    → IsAscending identifier_of p.subs → IsAscending identifier_of p.services → IsAscending identifier_of p.packets
    → length p.subs ≤ 64 → length p.services ≤ 64 → length p.packets ≤ 64 → IsConfiguration c
makes_configuration p c h placed formed addressed up_s up_v up_p few_s few_v few_p =
    let n_s = sym (length-map c.subs (λ s. raw_entry (sub_entry s))) ∙ ap length h.subs in
    let n_v = sym (length-map c.services (λ s. raw_entry (service_entry s))) ∙ ap length h.services in
    let n_p = sym (length-map c.packets (λ s. raw_entry (packet_entry s))) ∙ ap length h.packets in
    record {
      subs_ascend = members_ascend sub_key (λ s. raw_entry (sub_entry s)) IsPlaced c.subs sub_identified placed
          (subst (IsAscending identifier_of) (sym h.subs) up_s);
      services_ascend = members_ascend service_key (λ s. raw_entry (service_entry s)) IsService c.services
          service_identified formed (subst (IsAscending identifier_of) (sym h.services) up_v);
      packets_ascend = members_ascend packet_key (λ s. raw_entry (packet_entry s)) IsAddressed c.packets
          packet_identified addressed (subst (IsAscending identifier_of) (sym h.packets) up_p);
      subs_placed = placed;
      services_formed = formed;
      packets_addressed = addressed;
      subs_few = omega arith;
      services_few = omega arith;
      packets_few = omega arith;
    }

-- ---- a picture shows one configuration

entries_within : {T : Type 0} (f : T → Entry) (P : T → Type 0) (xs : List T) → ((x : T) → P x → IsWithin (f x))
    → AllByRecursion P xs → AllByRecursion IsWithin (map f xs)
entries_within f P [] within all = tt
entries_within f P (x ∷ xs) within all = (within x all.0, entries_within f P xs within all.1)

within_both : (xs ys : List Entry) → AllByRecursion IsWithin xs → AllByRecursion IsWithin ys
    → AllByRecursion IsWithin (xs ++ ys)
within_both [] ys p q = q
within_both (x ∷ xs) ys p q = (p.0, within_both xs ys p.1 q)

facts_within : (c : Configuration) → IsConfiguration c → AllByRecursion IsWithin (sub_entries c ++ service_entries c)
facts_within c h =
    within_both (map sub_entry c.subs) (map service_entry c.services ++ map packet_entry c.packets)
    (entries_within sub_entry IsPlaced c.subs sub_within h.subs_placed)
    (within_both (map service_entry c.services) (map packet_entry c.packets)
    (entries_within service_entry IsService c.services service_within h.services_formed)
    (entries_within packet_entry IsAddressed c.packets packet_within h.packets_addressed))

same_entries :
    (xs ys : List Entry) → SpellingIdentifies → AllByRecursion IsWithin xs → AllByRecursion IsWithin ys
    → map raw_entry xs ≡ map raw_entry ys → xs ≡ ys
same_entries [] [] tells p q h = refl
same_entries (x ∷ xs) (y ∷ ys) tells p q h =
    let heads : raw_entry x ≡ raw_entry y = (cc) in
    let one : x ≡ y = tells x y p.0 q.0 (ap (λ r. r.ext) heads) (ap (λ r. r.long) heads) (ap (λ r. r.bytes) heads) in
    rw (one, same_entries xs ys tells p.1 q.1 (cc)) refl
same_entries _ _ tells p q h = absurd (cc)

pub shows_one :
    (p : Pictured) (c d : Configuration) → SpellingIdentifies → FactsIdentify → IsConfiguration c → IsConfiguration d
    → Shows p c → Shows p d → c ≡ d
shows_one p c d spelling facts is_c is_d p_c p_d =
    let entries : sub_entries c ++ service_entries c ≡ sub_entries d ++ service_entries d =
    same_entries (sub_entries c ++ service_entries c) (sub_entries d ++ service_entries d) spelling
    (facts_within c is_c) (facts_within d is_d) (sym p_c ∙ p_d) in
    facts c d false is_c is_d (ap (map (marked false)) entries)
