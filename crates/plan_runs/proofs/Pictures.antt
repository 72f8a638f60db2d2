-- Pictures with a part of a configuration's entries.
use Rattle.plan_runs.proofs.Words.{[], ◌++◌, ◌<◌, ◌==◌, ◌∙◌, ◌∷◌, ◌≡◌, ◌≤◌, ◌⊎◌, AllByRecursion, Bool, Configuration}
use Rattle.plan_runs.proofs.Words.{Contains, Entry, IsAddressed, IsAscending, IsConfiguration, IsPlaced, IsService}
use Rattle.plan_runs.proofs.Words.{List, Marked, None, Option, Pictured, Raw, Shows, Some, ap, arith, blank, cond}
use Rattle.plan_runs.proofs.Words.{ext_of, has_room, identifier_of, inl, inr, kept, length, length-map, map, marked}
use Rattle.plan_runs.proofs.Words.{packet_entry, packet_key, pictured, raw_entry, refl, service_entries, service_entry}
use Rattle.plan_runs.proofs.Words.{service_key, sub_entries, sub_entry, sub_key, subst, suc, sym, zero, ℕ}
use Rattle.fib_reader.proofs.FromEntries.{sub_identified, service_identified, packet_identified}
use Rattle.fib_reader.proofs.Shown.{ShowsEach, each_shows}
use Rattle.plan_runs.proofs.Parts.{In, each_in, IsPart, Also, part_takes, part_weaker, part_empty, part_whole}

-- the picture with all entries of a configuration
abbrev pub whole_of : Configuration → Pictured
whole_of c = record {
  subs = map (λ s. raw_entry (sub_entry s)) c.subs;
  services = map (λ s. raw_entry (service_entry s)) c.services;
  packets = map (λ s. raw_entry (packet_entry s)) c.packets;
}

pub record IsSet (full : Pictured) : Type 0 where
  pub subs : AllByRecursion (λ r. r.ext ≡ 1) full.subs
  pub services : AllByRecursion (λ r. r.ext ≡ 2) full.services
  pub packets : AllByRecursion (λ r. r.ext ≡ 3) full.packets
  pub subs_ascend : IsAscending identifier_of full.subs
  pub services_ascend : IsAscending identifier_of full.services
  pub packets_ascend : IsAscending identifier_of full.packets
  pub subs_few : length full.subs ≤ 64
  pub services_few : length full.services ≤ 64
  pub packets_few : length full.packets ≤ 64

-- an entry of the picture
abbrev pub IsOf : Raw → Pictured → Type 0
IsOf raw full = ((raw.ext ≡ 1) × In raw full.subs)
    ⊎ (((raw.ext ≡ 2) × In raw full.services) ⊎ ((raw.ext ≡ 3) × In raw full.packets))

-- a part of the picture that has every entry with the property
pub record IsPartial (full : Pictured) (C : Raw → Type 0) (p : Pictured) : Type 0 where
  pub subs : IsPart full.subs C p.subs
  pub services : IsPart full.services C p.services
  pub packets : IsPart full.packets C p.packets

pub record IsGrown (full : Pictured) (C : Raw → Type 0) (raw : Raw) (p : Pictured) : Type 0 where
  pub after : Pictured
  pub is : pictured raw p ≡ Some after
  pub partial : IsPartial full (Also C raw) after

abbrev with_subs : Pictured → List Raw → Pictured
with_subs p xs = record { subs = xs; services = p.services; packets = p.packets }

abbrev with_services : Pictured → List Raw → Pictured
with_services p xs = record { subs = p.subs; services = xs; packets = p.packets }

abbrev with_packets : Pictured → List Raw → Pictured
with_packets p xs = record { subs = p.subs; services = p.services; packets = xs }

abbrev by_ext : ℕ → Option Pictured → Option Pictured → Option Pictured → Option Pictured
by_ext n a b c = cond (n == 1) a (cond (n == 2) b c)

-- an entry of another extension is not in this list
others : (m n : ℕ) (C : Raw → Type 0) (raw : Raw) (full : List Raw) → raw.ext ≡ m → (m ≡ n → ⊥)
    → AllByRecursion (λ r. r.ext ≡ n) full
    → (x : Raw) → In x full → Also C raw x → C x
others m n C raw full is apart all x inside (inl old) = old
others m n C raw full is apart all x inside (inr same) =
    absurd (apart (sym is ∙ ap (λ (r : Raw). r.ext) same ∙ (each_in (λ (r : Raw). r.ext ≡ n) full x all inside)))

pub grows : (full : Pictured) (C : Raw → Type 0) (raw : Raw) (p : Pictured) → IsSet full → IsOf raw full
    → IsPartial full C p → IsGrown full C raw p
grows full C raw p set (inl (ext, inside)) h =
    let b : Option Pictured = cond (has_room raw p.services) (Some (with_services p (kept raw p.services))) None in
    let c : Option Pictured = cond (has_room raw p.packets) (Some (with_packets p (kept raw p.packets))) None in
    record {
      after = with_subs p (kept raw p.subs);
      is = ap (λ (n : ℕ). by_ext n (Some (with_subs p (kept raw p.subs))) b c) ext;
      partial = record {
        subs = (part_takes full.subs C raw p.subs set.subs_ascend set.subs_few inside h.subs).part_is;
        services = part_weaker full.services C (Also C raw) p.services
            (others 1 2 C raw full.services ext (λ e. omega (arith, e)) set.services) h.services;
        packets = part_weaker _ C _ _ (others 1 3 C raw full.packets ext (λ e. omega (arith, e)) set.packets) h.packets;
      };
    }
grows full C raw p set (inr (inl (ext, inside))) h =
    let a : Option Pictured = Some (with_subs p (kept raw p.subs)) in
    let s : Pictured = with_services p (kept raw p.services) in
    let b : Option Pictured = cond (has_room raw p.services) (Some s) None in
    let c : Option Pictured = cond (has_room raw p.packets) (Some (with_packets p (kept raw p.packets))) None in
    let taken = part_takes full.services C raw p.services set.services_ascend set.services_few inside h.services in
    record {
      after = s;
      is = ap (λ (n : ℕ). by_ext n a b c) ext ∙ ap (λ (t : Bool). cond t (Some s) None) taken.room;
      partial = record {
        subs = part_weaker _ C _ _ (others 2 1 C raw full.subs ext (λ e. omega (arith, e)) set.subs) h.subs;
        services = taken.part_is;
        packets = part_weaker full.packets C (Also C raw) p.packets
            (others 2 3 C raw full.packets ext (λ e. omega (arith, e)) set.packets) h.packets;
      };
    }
grows full C raw p set (inr (inr (ext, inside))) h =
    let a : Option Pictured = Some (with_subs p (kept raw p.subs)) in
    let b : Option Pictured = cond (has_room raw p.services) (Some (with_services p (kept raw p.services))) None in
    let s : Pictured = with_packets p (kept raw p.packets) in
    let c : Option Pictured = cond (has_room raw p.packets) (Some s) None in
    let taken = part_takes full.packets C raw p.packets set.packets_ascend set.packets_few inside h.packets in
    record {
      after = s;
      is = ap (λ (n : ℕ). by_ext n a b c) ext ∙ ap (λ (t : Bool). cond t (Some s) None) taken.room;
      partial = record {
        subs = part_weaker _ C _ p.subs (others 3 1 C raw full.subs ext (λ e. omega (arith, e)) set.subs) h.subs;
        services = part_weaker full.services C (Also C raw) p.services
            (others 3 2 C raw full.services ext (λ e. omega (arith, e)) set.services) h.services;
        packets = taken.part_is;
      };
    }

pub weaker : (full : Pictured) (C D : Raw → Type 0) (p : Pictured) → ((x : Raw) → D x → C x) → IsPartial full C p
    → IsPartial full D p
weaker full C D p f h = record {
  subs = part_weaker full.subs C D p.subs (λ x inside d. f x d) h.subs;
  services = part_weaker full.services C D p.services (λ x inside d. f x d) h.services;
  packets = part_weaker full.packets C D p.packets (λ x inside d. f x d) h.packets;
}

pub empty_is_partial : (full : Pictured) → IsPartial full (λ x. ⊥) blank
empty_is_partial full = record {
  subs = part_empty full.subs;
  services = part_empty full.services;
  packets = part_empty full.packets;
}

-- ---- the entries of a configuration

abbrev pub entries_of : Configuration → List Entry
entries_of c = sub_entries c ++ service_entries c

pub in_append : {T : Type 0} (x : T) (xs ys : List T) → In x (xs ++ ys) → In x xs ⊎ In x ys
in_append x [] ys h = inr h
in_append x (z ∷ zs) ys (inl same) = inl (inl same)
in_append x (z ∷ zs) ys (inr more) = elim (in_append x zs ys more) [ inl here ↦ inl (inr here) | inr there ↦ inr there ]

pub in_first : {T : Type 0} (x : T) (xs ys : List T) → In x xs → In x (xs ++ ys)
in_first x [] ys h = absurd h
in_first x (z ∷ zs) ys (inl same) = inl same
in_first x (z ∷ zs) ys (inr more) = inr (in_first x zs ys more)

pub in_second : {T : Type 0} (x : T) (xs ys : List T) → In x ys → In x (xs ++ ys)
in_second x [] ys h = h
in_second x (z ∷ zs) ys h = inr (in_second x zs ys h)

pub contains_in : {T : Type 0} (xs : List T) (x : T) → Contains xs x → In x xs
contains_in [] x h = absurd (omega (arith, h.1))
contains_in (y ∷ ys) x (zero, lt, is) = inl is
contains_in (y ∷ ys) x (suc k, lt, is) = inr (contains_in ys x (k, omega (arith, lt), is))

pub in_contains : {T : Type 0} (xs : List T) (x : T) → In x xs → Contains xs x
in_contains [] x h = absurd h
in_contains (y ∷ ys) x (inl same) = (0, omega arith, same)
in_contains (y ∷ ys) x (inr more) = let there = in_contains ys x more in (suc there.0, omega (arith, there.1), there.2)

said_in : {T : Type 0} (f : T → Entry) (xs : List T) (e : Entry) → In e (map f xs)
    → In (raw_entry e) (map (λ x. raw_entry (f x)) xs)
said_in f [] e h = absurd h
said_in f (x ∷ xs) e (inl same) = inl (ap raw_entry same)
said_in f (x ∷ xs) e (inr more) = inr (said_in f xs e more)

pub said_by : {T : Type 0} (f : T → Entry) (xs : List T) (raw : Raw) → In raw (map (λ x. raw_entry (f x)) xs)
    → (e : Entry) × (raw_entry e ≡ raw) × In e (map f xs)
said_by f [] raw h = absurd h
said_by f (x ∷ xs) raw (inl same) = (f x, same, inl refl)
said_by f (x ∷ xs) raw (inr more) = let there = said_by f xs raw more in (there.0, there.1, inr there.2)

ext_in : {T : Type 0} (f : T → Entry) (n : ℕ) (xs : List T) (e : Entry) → ((x : T) → ext_of (f x) ≡ n) → In e (map f xs)
    → ext_of e ≡ n
ext_in f n [] e all h = absurd h
ext_in f n (x ∷ xs) e all (inl same) = sym (ap ext_of same) ∙ all x
ext_in f n (x ∷ xs) e all (inr more) = ext_in f n xs e all more

pub entry_is_of : (c : Configuration) (e : Entry) → In e (entries_of c) → IsOf (raw_entry e) (whole_of c)
entry_is_of c e h =
    elim (in_append e (sub_entries c) (service_entries c) h) [
      | inl sub ↦ inl (ext_in sub_entry 1 c.subs e (λ x. refl) sub, said_in sub_entry c.subs e sub)
      | inr rest ↦ elim (in_append e (map service_entry c.services) (map packet_entry c.packets) rest) [
        | inl service ↦ inr (inl (
          ext_in service_entry 2 c.services e (λ x. refl) service,
          said_in service_entry c.services e service,
        ))
        | inr packet ↦ inr (inr (
          ext_in packet_entry 3 c.packets e (λ x. refl) packet,
          said_in packet_entry c.packets e packet,
        ))
      ]
    ]

-- a fact is an entry with the C/N flag
pub fact_in : (flag : Bool) (es : List Entry) (m : Marked) → In m (map (marked flag) es) → (flag ≡ m.next)
    × In m.entry es
fact_in flag [] m h = absurd h
fact_in flag (e ∷ es) m (inl same) = (ap (λ (x : Marked). x.next) same, inl (ap (λ (x : Marked). x.entry) same))
fact_in flag (e ∷ es) m (inr more) = let there = fact_in flag es m more in (there.0, inr there.1)

pub in_fact : (flag : Bool) (es : List Entry) (e : Entry) → In e es → In (marked flag e) (map (marked flag) es)
in_fact flag [] e h = absurd h
in_fact flag (x ∷ xs) e (inl same) = inl (ap (marked flag) same)
in_fact flag (x ∷ xs) e (inr more) = inr (in_fact flag xs e more)

-- ---- the picture of a configuration has each entry once

each_said : {T : Type 0} (f : T → Raw) (n : ℕ) (xs : List T) → ((x : T) → (f x).ext ≡ n)
    → AllByRecursion (λ (r : Raw). r.ext ≡ n) (map f xs)
each_said f n [] all = tt
each_said f n (x ∷ xs) all = (all x, each_said f n xs all)

above_said : {T : Type 0} (key : T → ℕ) (f : T → Raw) (P : T → Type 0) (k : ℕ) (xs : List T)
    → ((x : T) → P x → identifier_of (f x) ≡ key x) → AllByRecursion P xs → AllByRecursion (λ y. k < key y) xs
    → AllByRecursion (λ (r : Raw). k < identifier_of r) (map f xs)
above_said key f P k [] same all up = tt
above_said key f P k (x ∷ xs) same all up =
    (subst (λ (n : ℕ). k < n) (sym (same x all.0)) up.0, above_said key f P k xs same all.1 up.1)

ascends_said : {T : Type 0} (key : T → ℕ) (f : T → Raw) (P : T → Type 0) (xs : List T)
    → ((x : T) → P x → identifier_of (f x) ≡ key x) → AllByRecursion P xs → IsAscending key xs
    → IsAscending identifier_of (map f xs)
ascends_said key f P [] same all up = tt
ascends_said key f P (x ∷ xs) same all up = (
  subst (λ (n : ℕ). AllByRecursion (λ (r : Raw). n < identifier_of r) (map f xs)) (sym (same x all.0))
      (above_said key f P (key x) xs same all.1 up.0),
  ascends_said key f P xs same all.1 up.1,
)

pub whole_is_set : (c : Configuration) → IsConfiguration c → IsSet (whole_of c)
whole_is_set c h =
    let subs = length-map c.subs (λ s. raw_entry (sub_entry s)) in
    let services = length-map c.services (λ s. raw_entry (service_entry s)) in
    let packets = length-map c.packets (λ s. raw_entry (packet_entry s)) in
    record {
      subs = each_said (λ s. raw_entry (sub_entry s)) 1 c.subs (λ x. refl);
      services = each_said (λ s. raw_entry (service_entry s)) 2 c.services (λ x. refl);
      packets = each_said (λ s. raw_entry (packet_entry s)) 3 c.packets (λ x. refl);
      subs_ascend = ascends_said sub_key (λ s. raw_entry (sub_entry s)) IsPlaced c.subs sub_identified h.subs_placed
          h.subs_ascend;
      services_ascend = ascends_said service_key (λ s. raw_entry (service_entry s)) IsService c.services
          service_identified h.services_formed h.services_ascend;
      packets_ascend = ascends_said packet_key (λ s. raw_entry (packet_entry s)) IsAddressed c.packets packet_identified
          h.packets_addressed h.packets_ascend;
      subs_few = omega (arith, subs, h.subs_few);
      services_few = omega (arith, services, h.services_few);
      packets_few = omega (arith, packets, h.packets_few);
    }

-- ---- a picture with all entries

abbrev pub HasAll : Configuration → (Raw → Type 0) → Type 0
HasAll c C = (e : Entry) → In e (entries_of c) → C (raw_entry e)

pub each_whole : (c : Configuration) (C : Raw → Type 0) (p : Pictured) → IsPartial (whole_of c) C p → HasAll c C
    → ShowsEach p c
each_whole c C p h all = record {
  subs = part_whole (whole_of c).subs C p.subs h.subs (λ x inside.
      let there = said_by sub_entry c.subs x inside in
      subst C there.1 (all there.0 (in_first there.0 (sub_entries c) (service_entries c) there.2)));
  services = part_whole (whole_of c).services C p.services h.services (λ x inside.
      let there = said_by service_entry c.services x inside in
      subst C there.1 (all there.0
      (in_second there.0 (sub_entries c) (service_entries c)
      (in_first there.0 (map service_entry c.services) (map packet_entry c.packets) there.2))));
  packets = part_whole (whole_of c).packets C p.packets h.packets (λ x inside.
      let there = said_by packet_entry c.packets x inside in
      subst C there.1 (all there.0
      (in_second there.0 (sub_entries c) (service_entries c)
      (in_second there.0 (map service_entry c.services) (map packet_entry c.packets) there.2))));
}

pub all_shown : (c : Configuration) (C : Raw → Type 0) (p : Pictured) → IsPartial (whole_of c) C p → HasAll c C
    → Shows p c
all_shown c C p h all = each_shows p c (each_whole c C p h all)
