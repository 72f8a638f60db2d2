-- The entries that configurations have; a picture of such entries shows a configuration.
use Rattle.script_config.proofs.Words.{[], ◌++◌, ◌∙◌, ◌∷◌, ◌≡◌, AllByRecursion, AreSaid, Configuration}
use Rattle.script_config.proofs.Words.{EnsembleInformation, Entry, IsAddressed, IsConfiguration, IsFirstUnsaid, IsKept}
use Rattle.script_config.proofs.Words.{IsPlaced, IsSaid, IsService, IsSubOf, IsWithin, List, Packet, Pictured, Raw}
use Rattle.script_config.proofs.Words.{Service, Shows, Sub, all_entries, ap, append_assoc, arith, inl, inr, map}
use Rattle.script_config.proofs.Words.{map-append, packet_entry, raw_entry, refl, service_entry, sub_entry, subst, suc}
use Rattle.script_config.proofs.Words.{sym, zero, ℕ}
use Rattle.std.specs.Prelude.{◌⊎◌, Contains}
use Rattle.std.proofs.lemmas.List.Elements.{Contains-append_cases}
use Rattle.mux_types.specs.declared.entry.SubEntry.{SubEntry}
use Rattle.mux_types.specs.declared.entry.ShortEntry.{ShortEntry}
use Rattle.mux_types.specs.declared.entry.ServiceEntry.{ServiceEntry}
use Rattle.mux_types.specs.declared.entry.PacketEntry.{PacketEntry}
use Rattle.fib_codec.specs.Spelling.{SpellingIdentifies}
use Rattle.fib_reader.proofs.FromEntries.{packet_within, service_within, sub_within}
use Rattle.fib_reader.proofs.Shown.{ShowsEach, each_shows, makes_configuration}
use Rattle.mux_types.specs.declared.entry.Entry.TheVariants.{Ensemble as EnsembleOf, Packet as PacketOf}
use Rattle.mux_types.specs.declared.entry.Entry.TheVariants.{Service as ServiceOf, Short as ShortOf, Sub as SubOf}

-- ---- the member that an entry describes

abbrev OfSub : Raw → Type 0
OfSub raw = (s : Sub) × IsPlaced s × (raw_entry (sub_entry s) ≡ raw)

abbrev OfService : Raw → Type 0
OfService raw = (s : Service) × IsService s × (raw_entry (service_entry s) ≡ raw)

abbrev OfPacket : Raw → Type 0
OfPacket raw = (p : Packet) × IsAddressed p × (raw_entry (packet_entry p) ≡ raw)

abbrev OfMember : Raw → Type 0
OfMember raw = OfSub raw ⊎ (OfService raw ⊎ OfPacket raw)

from_member : {T : Type 0} (P : T → Type 0) (f : T → Entry) (xs : List T) (raw : Raw) → AllByRecursion P xs
    → Contains (map raw_entry (map f xs)) raw → (x : T) × P x × (raw_entry (f x) ≡ raw)
from_member P f [] raw all (i, lt, e) = absurd (omega (arith, lt))
from_member P f (x ∷ xs) raw all (zero, lt, e) = (x, all.0, e)
from_member P f (x ∷ xs) raw all (suc j, lt, e) = from_member P f xs raw all.1 (j, omega (arith, lt), e)

said_by : (raw : Raw) → IsSaid raw → OfMember raw
said_by raw (c, is, has) =
    let parts = map-append raw_entry (map sub_entry c.subs)
    (map service_entry c.services ++ map packet_entry c.packets) in
    let more = map-append raw_entry (map service_entry c.services) (map packet_entry c.packets) in
    elim (Contains-append_cases _ _ raw (subst (λ (rs : List Raw). Contains rs raw) parts has)) [
      | inl sub ↦ inl (from_member IsPlaced sub_entry c.subs raw is.subs_placed sub)
      | inr other ↦ elim (Contains-append_cases _ _ raw (subst (λ (rs : List Raw). Contains rs raw) more other)) [
        | inl service ↦ inr (inl (from_member IsService service_entry c.services raw is.services_formed service))
        | inr packet ↦ inr (inr (from_member IsAddressed packet_entry c.packets raw is.packets_addressed packet))
      ]
    ]

-- ---- a configuration with just that member has the entry

pub sub_said : (e : SubEntry) (s : Sub) → IsPlaced s → sub_entry s ≡ SubOf e → IsSaid (raw_entry (SubOf e))
sub_said e s placed is = (
  record { subs = s ∷ []; services = []; packets = [] },
  record {
    subs_ascend = (tt, tt);
    services_ascend = tt;
    packets_ascend = tt;
    subs_placed = (placed, tt);
    services_formed = tt;
    packets_addressed = tt;
    subs_few = omega arith;
    services_few = omega arith;
    packets_few = omega arith;
  },
  (0, omega arith, ap raw_entry is),
)

pub service_said : (e : ServiceEntry) (s : Service) → IsService s → service_entry s ≡ ServiceOf e
    → IsSaid (raw_entry (ServiceOf e))
service_said e s formed is = (
  record { subs = []; services = s ∷ []; packets = [] },
  record {
    subs_ascend = tt;
    services_ascend = (tt, tt);
    packets_ascend = tt;
    subs_placed = tt;
    services_formed = (formed, tt);
    packets_addressed = tt;
    subs_few = omega arith;
    services_few = omega arith;
    packets_few = omega arith;
  },
  (0, omega arith, ap raw_entry is),
)

pub packet_said : (e : PacketEntry) (p : Packet) → IsAddressed p → packet_entry p ≡ PacketOf e
    → IsSaid (raw_entry (PacketOf e))
packet_said e p addressed is = (
  record { subs = []; services = []; packets = p ∷ [] },
  record {
    subs_ascend = tt;
    services_ascend = tt;
    packets_ascend = (tt, tt);
    subs_placed = tt;
    services_formed = tt;
    packets_addressed = (addressed, tt);
    subs_few = omega arith;
    services_few = omega arith;
    packets_few = omega arith;
  },
  (0, omega arith, ap raw_entry is),
)

-- ---- no configuration has an entry that describes no member

same_entry : SpellingIdentifies → (d e : Entry) → IsWithin d → IsWithin e → raw_entry d ≡ raw_entry e → d ≡ e
same_entry tells d e one other is =
    tells d e one other (ap (λ r. r.ext) is) (ap (λ r. r.long) is) (ap (λ r. r.bytes) is)

pub unsaid : SpellingIdentifies → (e : Entry) → IsWithin e → ((s : Sub) → IsPlaced s → sub_entry s ≡ e → ⊥)
    → ((s : Service) → IsService s → service_entry s ≡ e → ⊥)
    → ((p : Packet) → IsAddressed p → packet_entry p ≡ e → ⊥) → IsSaid (raw_entry e) → ⊥
unsaid tells e within no_sub no_service no_packet said =
    elim (said_by (raw_entry e) said) [
      | inl sub ↦ no_sub sub.0 sub.1 (same_entry tells (sub_entry sub.0) e (sub_within sub.0 sub.1) within sub.2)
      | inr (inl service) ↦ no_service service.0 service.1
          (same_entry tells (service_entry service.0) e (service_within service.0 service.1) within service.2)
      | inr (inr packet) ↦ no_packet packet.0 packet.1
          (same_entry tells (packet_entry packet.0) e (packet_within packet.0 packet.1) within packet.2)
    ]

pub neither_said : SpellingIdentifies → (e : Entry) → IsWithin e → ((x : EnsembleInformation) × (e ≡ EnsembleOf x))
    ⊎ ((x : ShortEntry) × (e ≡ ShortOf x)) → IsSaid (raw_entry e) → ⊥
neither_said tells e within (inl (x, is)) said =
    unsaid tells e within (λ s h at. absurd (cc (at, is))) (λ s h at. absurd (cc (at, is)))
    (λ p h at. absurd (cc (at, is))) said
neither_said tells e within (inr (x, is)) said =
    unsaid tells e within (λ s h at. absurd (cc (at, is))) (λ s h at. absurd (cc (at, is)))
    (λ p h at. absurd (cc (at, is))) said

-- ---- entry by entry

-- the rest of the entries decides for all of them
pub record SoFarSaid (rest whole : List Raw) : Type 0 where
  pub all : AreSaid rest → AreSaid whole
  pub first : (raw : Raw) → IsFirstUnsaid rest raw → IsFirstUnsaid whole raw

-- ---- a picture all of whose entries configurations have shows a configuration

apart : (xs ys : List Raw) → AreSaid (xs ++ ys) → AreSaid xs × AreSaid ys
apart [] ys h = (tt, h)
apart (x ∷ xs) ys h = let more = apart xs ys h.1 in ((h.0, more.0), more.1)

gather : {T : Type 0} (ext : ℕ) (P : T → Type 0) (f : T → Raw) (xs : List Raw)
    → ((raw : Raw) → raw.ext ≡ ext → OfMember raw → (x : T) × P x × (f x ≡ raw))
    → AllByRecursion (λ r. r.ext ≡ ext) xs → AreSaid xs → (ys : List T) × AllByRecursion P ys × (map f ys ≡ xs)
gather ext P f [] one all said = ([], tt, refl)
gather ext P f (x ∷ xs) one all said =
    let first = one x all.0 (said_by x said.0) in
    let others = gather ext P f xs one all.1 said.1 in (
      first.0 ∷ others.0,
      (first.1, others.1),
      ap (λ (r : Raw). r ∷ map f others.0) first.2
          ∙ ap (λ (rs : List Raw). x ∷ rs) others.2,
    )

one_sub : (raw : Raw) → raw.ext ≡ 1 → OfMember raw → OfSub raw
one_sub raw is (inl sub) = sub
one_sub raw is (inr (inl service)) = let other : raw.ext ≡ 2 = ap (λ r. r.ext) (sym service.2) in
    absurd (omega (arith, is, other))
one_sub raw is (inr (inr packet)) = let other : raw.ext ≡ 3 = ap (λ r. r.ext) (sym packet.2) in
    absurd (omega (arith, is, other))

one_service : (raw : Raw) → raw.ext ≡ 2 → OfMember raw → OfService raw
one_service raw is (inl sub) = let other : raw.ext ≡ 1 = ap (λ r. r.ext) (sym sub.2) in
    absurd (omega (arith, is, other))
one_service raw is (inr (inl service)) = service
one_service raw is (inr (inr packet)) = let other : raw.ext ≡ 3 = ap (λ r. r.ext) (sym packet.2) in
    absurd (omega (arith, is, other))

one_packet : (raw : Raw) → raw.ext ≡ 3 → OfMember raw → OfPacket raw
one_packet raw is (inl sub) = let other : raw.ext ≡ 1 = ap (λ r. r.ext) (sym sub.2) in absurd (omega (arith, is, other))
one_packet raw is (inr (inl service)) = let other : raw.ext ≡ 2 = ap (λ r. r.ext) (sym service.2) in
    absurd (omega (arith, is, other))
one_packet raw is (inr (inr packet)) = packet

exts : (xs : List Raw) → AllByRecursion IsSubOf xs → AllByRecursion (λ r. r.ext ≡ 1) xs
exts [] h = tt
exts (x ∷ xs) h = (h.0.0, exts xs h.1)

pub shows_one : (p : Pictured) → IsKept p → AreSaid (all_entries p) → (c : Configuration) × IsConfiguration c
    × Shows p c
shows_one p kept said =
    let parts = apart p.subs (p.services ++ p.packets)
    (subst AreSaid (append_assoc p.subs p.services p.packets) said) in
    let others = apart p.services p.packets parts.1 in
    let subs = gather 1 IsPlaced (λ s. raw_entry (sub_entry s)) p.subs one_sub (exts p.subs kept.pictured.subs)
    parts.0 in
    let services = gather 2 IsService (λ s. raw_entry (service_entry s)) p.services one_service kept.pictured.services
    others.0 in
    let packets = gather 3 IsAddressed (λ s. raw_entry (packet_entry s)) p.packets one_packet kept.pictured.packets
    others.1 in
    let made : Configuration = record { subs = subs.0; services = services.0; packets = packets.0 } in
    let shown : ShowsEach p made = record { subs = subs.2; services = services.2; packets = packets.2 } in (
      made,
      makes_configuration p made shown subs.1 services.1 packets.1 kept.subs_ascend kept.services_ascend
          kept.packets_ascend kept.subs_few kept.services_few kept.packets_few,
      each_shows p made shown,
    )
