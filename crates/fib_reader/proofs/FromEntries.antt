-- The entries that describe members of a configuration.
use Rattle.fib_reader.proofs.Words.{[], ◌<◌, ◌∙◌, ◌∷◌, ◌≡◌, ◌≤◌, AllByRecursion, Bool, Component, IsAddressed}
use Rattle.fib_reader.proofs.Words.{IsAscending, IsComponent, IsComponentEntry, IsPlaced, IsService, IsSid, IsWithin}
use Rattle.fib_reader.proofs.Words.{List, Raw, Sound, SpellingIdentifies, Stream, ap, arith, component_entries}
use Rattle.fib_reader.proofs.Words.{component_entry, component_limit, false, get_or, identifier_of, length, length-map}
use Rattle.fib_reader.proofs.Words.{map, option_of, packet_entry, packet_key, raw_entry, refl, service_entry}
use Rattle.fib_reader.proofs.Words.{service_key, sid_key, sub_entry, sub_key, suc, sym, take, true, zero, ℕ}
use Rattle.mux_eep.specs.declared.sizes.EepSet.{EepSet}
use Rattle.mux_eep.specs.declared.sizes.EepSet.TheVariants.{A, B}
use Rattle.mux_types.specs.declared.parts.Sub.{Sub}
use Rattle.mux_types.specs.declared.parts.Service.{Service}
use Rattle.mux_types.specs.declared.parts.Packet.{Packet}
use Rattle.mux_types.specs.declared.entry.Entry.{Entry}
use Rattle.mux_types.specs.declared.numbers.Sid.{Sid}
use Rattle.mux_types.specs.declared.numbers.Sid.TheVariants.{Short, Long}
use Rattle.mux_types.specs.declared.parts.Component.TheVariants.{Packet as InPackets}
use Rattle.fib_reader.proofs.Components.{length_component_entries}

few_options : (s : EepSet) → option_of s < 8
few_options A = omega arith
few_options B = omega arith

pub sub_within : (s : Sub) → IsPlaced s → IsWithin (sub_entry s)
sub_within s h =
    record {
      id = h.named;
      start = omega arith;
      option = few_options s.protection.set;
      level = omega arith;
      size = omega arith;
    }

pub sub_identified : (s : Sub) → IsPlaced s → identifier_of (raw_entry (sub_entry s)) ≡ sub_key s
sub_identified s h =
    omega arith

component_within : (primary : Bool) (c : Component) → IsComponent c → IsComponentEntry (component_entry primary c)
component_within primary (Sound ty sub) h = h
component_within primary (Stream ty sub) h = h
component_within primary (InPackets scid) h = h

others_within : (cs : List Component) → AllByRecursion IsComponent cs
    → AllByRecursion IsComponentEntry (map (component_entry false) cs)
others_within [] h = tt
others_within (c ∷ cs) h = (component_within false c h.0, others_within cs h.1)

components_within : (cs : List Component) → AllByRecursion IsComponent cs
    → AllByRecursion IsComponentEntry (component_entries cs)
components_within [] h = tt
components_within (c ∷ cs) h = (component_within true c h.0, others_within cs h.1)

few_components : (sid : Sid) (n : ℕ) → n ≤ component_limit sid → n ≤ 15
few_components (Short k) n h = omega arith
few_components (Long k) n h = omega arith

pub service_within : (s : Service) → IsService s → IsWithin (service_entry s)
service_within s h =
    let few : length s.components ≤ 15 = few_components s.sid (length s.components) h.few in
    let same : length (component_entries s.components) ≡ length s.components = length_component_entries s.components in
    record {
      sid = h.named;
      ca_id = omega arith;
      few = omega arith;
      components = components_within s.components h.within;
    }

identified : (sid : Sid) (components : List Component) → IsSid sid
    → identifier_of (raw_entry (service_entry (record { sid = sid; components = components }))) ≡ sid_key sid
identified (Short n) components h = omega arith
identified (Long n) components h = omega arith

pub service_identified : (s : Service) → IsService s → identifier_of (raw_entry (service_entry s)) ≡ service_key s
service_identified s h = identified s.sid s.components h.named

pub packet_within : (p : Packet) → IsAddressed p → IsWithin (packet_entry p)
packet_within p h =
    record { scid = h.named; rfa = omega arith; ty = h.typed; sub = h.carried; address = omega arith; ca_org = tt }

pub packet_identified : (p : Packet) → IsAddressed p → identifier_of (raw_entry (packet_entry p)) ≡ packet_key p
packet_identified p h = let named = h.named in omega arith

-- ---- members in the order of their entries

each_at : (P : Raw → Type 0) (xs : List Raw) (i : ℕ) (d : Raw) → AllByRecursion P xs → i < length xs → P (get_or xs i d)
each_at P [] i d all inside = absurd (omega arith)
each_at P (x ∷ xs) zero d all inside = all.0
each_at P (x ∷ xs) (suc j) d all inside = each_at P xs j d all.1 (omega arith)

ascending_front :
    (kept : List Raw) (i : ℕ) (d : Raw) → IsAscending identifier_of kept → i < length kept
    → AllByRecursion (λ raw. identifier_of raw < identifier_of (get_or kept i d)) (take i kept)
ascending_front [] i d up inside = absurd (omega arith)
ascending_front (k ∷ ks) zero d up inside = tt
ascending_front (k ∷ ks) (suc j) d up inside = (
  each_at (λ raw. identifier_of k < identifier_of raw) ks j d up.0 (omega arith),
  ascending_front ks j d up.1 (omega arith),
)

keys_below :
    {T : Type 0} (key : T → ℕ) (f : T → Raw) (P : T → Type 0) (table : List T) (n : ℕ)
    → ((y : T) → P y → identifier_of (f y) ≡ key y) → AllByRecursion P table
    → AllByRecursion (λ raw. identifier_of raw < n) (map f table)
    → AllByRecursion (λ y. key y < n) table
keys_below key f P [] n same all below = tt
keys_below key f P (y ∷ ys) n same all below = (rw (← same y all.0) below.0, keys_below key f P ys n same all.1 below.1)

pub above_all :
    {T : Type 0} (key : T → ℕ) (f : T → Raw) (P : T → Type 0) (table : List T) (kept : List Raw) (i : ℕ) (x : T)
    (raw : Raw)
    → ((y : T) → P y → identifier_of (f y) ≡ key y) → AllByRecursion P table → P x → map f table ≡ take i kept
    → i < length kept
    → raw ≡ get_or kept i raw → f x ≡ raw → IsAscending identifier_of kept → AllByRecursion (λ y. key y < key x) table
above_all key f P table kept i x raw same all one so_far inside is says up =
    let front : AllByRecursion (λ r. identifier_of r < identifier_of (get_or kept i raw)) (map f table) =
    rw so_far (ascending_front kept i raw up inside) in
    keys_below key f P table (key x) same all (rw (← (ap identifier_of (sym (says ∙ is)) ∙ same x one)) front)

-- if members describe all entries, one describes each
member_at :
    {T : Type 0} (f : T → Raw) (P : T → Type 0) (xs : List T) (i : ℕ) (d : Raw) → AllByRecursion P xs → i < length xs
    → (x : T) × P x × (f x ≡ get_or (map f xs) i d)
member_at f P [] i d all inside = absurd (omega arith)
member_at f P (x ∷ xs) zero d all inside = (x, all.0, refl)
member_at f P (x ∷ xs) (suc j) d all inside = member_at f P xs j d all.1 (omega arith)

pub none_says :
    {T : Type 0} (entry_of : T → Entry) (P : T → Type 0) (xs : List T) (kept : List Raw) (i : ℕ) (raw : Raw) (e : Entry)
    → SpellingIdentifies → ((x : T) → P x → IsWithin (entry_of x)) → ((x : T) → P x → entry_of x ≡ e → ⊥)
    → AllByRecursion P xs → map (λ x. raw_entry (entry_of x)) xs ≡ kept → i < length kept → raw ≡ get_or kept i raw
    → raw ≡ raw_entry e → IsWithin e → ⊥
none_says entry_of P xs kept i raw e tells within none all says inside is spelled fits =
    let size : length xs ≡ length kept = sym (length-map xs (λ x. raw_entry (entry_of x))) ∙ ap length says in
    let one = member_at (λ x. raw_entry (entry_of x)) P xs i raw all (omega arith) in
    let same = one.2 ∙ ap (λ rs. get_or rs i raw) says ∙ sym is ∙ spelled in
    none one.0 one.1
    (tells (entry_of one.0) e (within one.0 one.1) fits (ap (λ r. r.ext) same) (ap (λ r. r.long) same)
    (ap (λ r. r.bytes) same))
