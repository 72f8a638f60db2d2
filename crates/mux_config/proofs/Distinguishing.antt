-- Entries distinguish configurations: if the facts are the same, so are the configurations.
use Rattle.mux_config.proofs.Words.{[], ◌++◌, ◌-◌, ◌∙◌, ◌∷◌, ◌≡◌, A, AllByRecursion, B, Bool, Component, Configuration}
use Rattle.mux_config.proofs.Words.{EepSet, Entry, FactsIdentify, IsConfiguration, IsPlaced, IsSize, List, Marked, None}
use Rattle.mux_config.proofs.Words.{OneRate, Packet, Profile, Service, Sound, Stream, Sub, ap, arith, component_entries}
use Rattle.mux_config.proofs.Words.{component_entry, false, false≢true, map, marked, option_of, packet_entry, refl}
use Rattle.mux_config.proofs.Words.{service_entries, service_entry, size_of_sub, sub_entries, sub_entry, subst, sym}
use Rattle.mux_config.proofs.Words.{true, ℕ}
use Rattle.mux_types.specs.declared.entry.SubEntry.{SubEntry}
use Rattle.mux_types.specs.declared.entry.ServiceEntry.{ServiceEntry}
use Rattle.mux_types.specs.declared.entry.PacketEntry.{PacketEntry}
use Rattle.mux_types.specs.declared.parts.Component.TheVariants.{Packet as InPackets}
use Rattle.mux_types.specs.declared.entry.Entry.TheVariants.{Sub as SubOf, Service as ServiceOf, Packet as PacketOf}

-- ---- lists

-- a function that distinguishes values distinguishes lists of them
pub lists_told : {T U : Type 0} (f : T → U) (P : T → Type 0) → ((a b : T) → P a → P b → f a ≡ f b → a ≡ b)
    → (xs ys : List T) → AllByRecursion P xs → AllByRecursion P ys → map f xs ≡ map f ys → xs ≡ ys
lists_told f P told [] [] h k e = refl
lists_told f P told (x ∷ xs) (y ∷ ys) h k e =
    let head : x ≡ y = told x y h.0 k.0 cc in
    let tail : xs ≡ ys = lists_told f P told xs ys h.1 k.1 cc in
    cc
lists_told f P told _ _ h k e = absurd (cc)

pub each_holds : {T : Type 0} (xs : List T) → AllByRecursion (λ (x : T). Unit {0}) xs
each_holds [] = tt
each_holds (x ∷ xs) = (tt, each_holds xs)

-- if a test is true for each element before a boundary and for none after it, the boundary is determined
pub parts_told : {T : Type 0} (test : T → Bool) (xs ys rs ts : List T) → AllByRecursion (λ x. test x ≡ true) xs
    → AllByRecursion (λ x. test x ≡ true) ys → AllByRecursion (λ x. test x ≡ false) rs
    → AllByRecursion (λ x. test x ≡ false) ts → xs ++ rs ≡ ys ++ ts → (xs ≡ ys) × (rs ≡ ts)
parts_told test [] [] rs ts h k i j e = (refl, e)
parts_told test [] (y ∷ ys) (r ∷ rs) ts h k i j e =
    let same : r ≡ y = cc in
    absurd (false≢true (sym i.0 ∙ ap test same ∙ k.0))
parts_told test (x ∷ xs) [] rs (t ∷ ts) h k i j e =
    let same : t ≡ x = cc in
    absurd (false≢true (sym j.0 ∙ ap test same ∙ h.0))
parts_told test (x ∷ xs) (y ∷ ys) rs ts h k i j e =
    let rest : xs ++ rs ≡ ys ++ ts = cc in
    let more = parts_told test xs ys rs ts h.1 k.1 i j rest in
    let front : x ∷ xs ≡ y ∷ ys = cc in
    (front, more.1)
parts_told test _ _ _ _ h k i j e = absurd (cc)

pub each_map : {T U : Type 0} (f : T → U) (P : U → Type 0) → ((x : T) → P (f x)) → (xs : List T)
    → AllByRecursion P (map f xs)
each_map f P holds [] = tt
each_map f P holds (x ∷ xs) = (holds x, each_map f P holds xs)

-- ---- one entry

pub set_told : (a b : EepSet) → option_of a ≡ option_of b → a ≡ b
set_told A B e = absurd (omega arith)
set_told B A e = absurd (omega arith)
set_told _ _ e = refl

-- the value of an entry of FIG 0/1, 0/2 and 0/3
abbrev sub_of : SubEntry → Entry → SubEntry
sub_of other (SubOf s) = s
sub_of other e = other

abbrev service_of : ServiceEntry → Entry → ServiceEntry
service_of other (ServiceOf s) = s
service_of other e = other

abbrev packet_of : PacketEntry → Entry → PacketEntry
packet_of other (PacketOf p) = p
packet_of other e = other

abbrev sub_value : Sub → SubEntry
sub_value s = record {
  id = s.id;
  start = s.start;
  option = option_of s.protection.set;
  level = s.protection.level - 1;
  size = size_of_sub s;
}

abbrev service_value : Service → ServiceEntry
service_value s = record { sid = s.sid; rfa = false; ca_id = 0; components = component_entries s.components }

abbrev packet_value : Packet → PacketEntry
packet_value p = record {
  scid = p.scid;
  rfa = 0;
  dg = p.dg;
  rfu = false;
  ty = p.ty;
  sub = p.sub;
  address = p.address;
  ca_org = None;
}

abbrev pub is_sub : Entry → Bool
is_sub (SubOf s) = true
is_sub e = false

abbrev pub is_service : Entry → Bool
is_service (ServiceOf s) = true
is_service e = false

pub sub_told : OneRate → (a b : Sub) → IsPlaced a → IsPlaced b → sub_entry a ≡ sub_entry b → a ≡ b
sub_told rates a b h k e =
    let same : sub_value a ≡ sub_value b = ap (sub_of (sub_value a)) e in
    let id : a.id ≡ b.id = ap (λ (x : SubEntry). x.id) same in
    let start : a.start ≡ b.start = ap (λ (x : SubEntry). x.start) same in
    let set : a.protection.set ≡ b.protection.set =
    set_told a.protection.set b.protection.set (ap (λ (x : SubEntry). x.option) same) in
    let sent : a.protection.level - 1 ≡ b.protection.level - 1 = ap (λ (x : SubEntry). x.level) same in
    let level : a.protection.level ≡ b.protection.level = omega (arith, h.from_one, k.from_one) in
    let size : size_of_sub a ≡ size_of_sub b = ap (λ (x : SubEntry). x.size) same in
    let profile : a.protection ≡ b.protection = λ i. record { set = set i; level = level i } in
    let other : IsSize b.protection a.kbits (size_of_sub b) =
    subst (λ (p : Profile). IsSize p a.kbits (size_of_sub b)) profile
    (subst (λ (n : ℕ). IsSize a.protection a.kbits n) size h.sized) in
    let kbits : a.kbits ≡ b.kbits = rates b.protection a.kbits b.kbits (size_of_sub b) other k.sized in
    λ i. record { id = id i; start = start i; protection = profile i; kbits = kbits i }

pub component_told : (primary : Bool) (m n : Component) → component_entry primary m ≡ component_entry primary n → m ≡ n
component_told primary (Sound ty sub) (Stream uy tub) e = absurd (cc)
component_told primary (Sound ty sub) (InPackets scid) e = absurd (cc)
component_told primary (Stream ty sub) (Sound uy tub) e = absurd (cc)
component_told primary (Stream ty sub) (InPackets scid) e = absurd (cc)
component_told primary (InPackets scid) (Sound uy tub) e = absurd (cc)
component_told primary (InPackets scid) (Stream uy tub) e = absurd (cc)
component_told primary _ _ e = cc

pub components_told : (ms ns : List Component) → component_entries ms ≡ component_entries ns → ms ≡ ns
components_told [] [] e = refl
components_told [] (n ∷ ns) e = absurd (cc)
components_told (m ∷ ms) [] e = absurd (cc)
components_told (m ∷ ms) (n ∷ ns) e =
    let head : m ≡ n = component_told true m n cc in
    let tail : ms ≡ ns = lists_told (component_entry false) (λ (x : Component). Unit {0})
    (λ x y _ _. component_told false x y) ms ns (each_holds ms) (each_holds ns) cc in
    cc

pub service_told : (a b : Service) → service_entry a ≡ service_entry b → a ≡ b
service_told a b e =
    let same : service_value a ≡ service_value b = ap (service_of (service_value a)) e in
    let sid : a.sid ≡ b.sid = ap (λ (x : ServiceEntry). x.sid) same in
    let components = components_told a.components b.components (ap (λ (x : ServiceEntry). x.components) same) in
    λ i. record { sid = sid i; components = components i }

pub packet_told : (a b : Packet) → packet_entry a ≡ packet_entry b → a ≡ b
packet_told a b e =
    let same : packet_value a ≡ packet_value b = ap (packet_of (packet_value a)) e in
    let scid : a.scid ≡ b.scid = ap (λ (x : PacketEntry). x.scid) same in
    let dg : a.dg ≡ b.dg = ap (λ (x : PacketEntry). x.dg) same in
    let ty : a.ty ≡ b.ty = ap (λ (x : PacketEntry). x.ty) same in
    let sub : a.sub ≡ b.sub = ap (λ (x : PacketEntry). x.sub) same in
    let address : a.address ≡ b.address = ap (λ (x : PacketEntry). x.address) same in
    λ i. record { scid = scid i; dg = dg i; ty = ty i; sub = sub i; address = address i }

-- ---- the entries of a configuration

pub subs_told : OneRate → (c d : Configuration) → IsConfiguration c → IsConfiguration d → sub_entries c ≡ sub_entries d
    → c.subs ≡ d.subs
subs_told rates c d h k e = lists_told sub_entry IsPlaced (sub_told rates) c.subs d.subs h.subs_placed k.subs_placed e

pub services_told : (c d : Configuration) → service_entries c ≡ service_entries d → (c.services ≡ d.services)
    × (c.packets ≡ d.packets)
services_told c d e =
    let parts = parts_told is_service (map service_entry c.services) (map service_entry d.services)
    (map packet_entry c.packets) (map packet_entry d.packets)
    (each_map service_entry (λ x. is_service x ≡ true) (λ s. refl) c.services)
    (each_map service_entry (λ x. is_service x ≡ true) (λ s. refl) d.services)
    (each_map packet_entry (λ x. is_service x ≡ false) (λ p. refl) c.packets)
    (each_map packet_entry (λ x. is_service x ≡ false) (λ p. refl) d.packets) e in (
      lists_told service_entry (λ (x : Service). Unit {0}) (λ x y _ _. service_told x y) c.services d.services
          (each_holds c.services) (each_holds d.services) parts.0,
      lists_told packet_entry (λ (x : Packet). Unit {0}) (λ x y _ _. packet_told x y) c.packets d.packets
          (each_holds c.packets) (each_holds d.packets) parts.1,
    )

pub each_join : {T : Type 0} (P : T → Type 0) (xs ys : List T) → AllByRecursion P xs → AllByRecursion P ys
    → AllByRecursion P (xs ++ ys)
each_join P [] ys h k = k
each_join P (x ∷ xs) ys h k = (h.0, each_join P xs ys h.1 k)

pub facts_told : OneRate → FactsIdentify
facts_told rates c d next h k e =
    let plain : (sub_entries c ++ service_entries c) ≡ (sub_entries d ++ service_entries d) =
    lists_told (marked next) (λ (x : Entry). Unit {0}) (λ x y _ _ same. ap (λ (m : Marked). m.entry) same)
    (sub_entries c ++ service_entries c) (sub_entries d ++ service_entries d) (each_holds _) (each_holds _) e in
    let parts = parts_told is_sub (sub_entries c) (sub_entries d) (service_entries c) (service_entries d)
    (each_map sub_entry (λ x. is_sub x ≡ true) (λ s. refl) c.subs)
    (each_map sub_entry (λ x. is_sub x ≡ true) (λ s. refl) d.subs)
    (each_join (λ x. is_sub x ≡ false) (map service_entry c.services) (map packet_entry c.packets)
    (each_map service_entry (λ x. is_sub x ≡ false) (λ s. refl) c.services)
    (each_map packet_entry (λ x. is_sub x ≡ false) (λ p. refl) c.packets))
    (each_join (λ x. is_sub x ≡ false) (map service_entry d.services) (map packet_entry d.packets)
    (each_map service_entry (λ x. is_sub x ≡ false) (λ s. refl) d.services)
    (each_map packet_entry (λ x. is_sub x ≡ false) (λ p. refl) d.packets))
    plain in
    let subs : c.subs ≡ d.subs = subs_told rates c d h k parts.0 in
    let rest = services_told c d parts.1 in
    let services : c.services ≡ d.services = rest.0 in
    let packets : c.packets ≡ d.packets = rest.1 in
    λ i. record { subs = subs i; services = services i; packets = packets i }
