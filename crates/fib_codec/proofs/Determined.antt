-- An entry is determined by its encoding.
use Rattle.fib_codec.proofs.Words.{[], ◌%◌, ◌*◌, ◌++◌, ◌+◌, ◌/◌, ◌<◌, ◌∷◌, ◌≡◌, AllByRecursion, Bool, ComponentEntry}
use Rattle.fib_codec.proofs.Words.{EnsembleInformation, Entry, IfSome, IsComponentEntry, IsEnsembleInformation}
use Rattle.fib_codec.proofs.Words.{IsPacketEntry, IsServiceEntry, IsShortEntry, IsSid, IsSubEntry, IsWithin, List, Long}
use Rattle.fib_codec.proofs.Words.{None, Option, Packet, PacketEntry, ServiceEntry, Short, ShortEntry, Sid, Some, Sound}
use Rattle.fib_codec.proofs.Words.{Stream, SubEntry, ap, ap₂, arith, big_bytes, bit_of, ca_org_bytes, component_u16}
use Rattle.fib_codec.proofs.Words.{components_bytes, ensemble_bytes, entry_bytes, ext_of, false, is_long_entry}
use Rattle.fib_codec.proofs.Words.{is_long_sid, is_some, length, occurrence_bytes, packet_bytes, refl, service_bytes}
use Rattle.fib_codec.proofs.Words.{short_bytes, sid_bytes, sub_bytes, true, ℕ}
use Rattle.mux_types.specs.declared.entry.ComponentEntry.TheVariants.{Other}
use Rattle.mux_types.specs.declared.entry.Entry.TheVariants.{Ensemble as EnsembleOf, Sub as SubOf, Short as ShortOf}
use Rattle.mux_types.specs.declared.entry.Entry.TheVariants.{Service as ServiceOf, Packet as PacketOf}
use Rattle.fib_codec.proofs.Finished.{bit_small}

same_bit : (a b : Bool) → bit_of a ≡ bit_of b → a ≡ b
same_bit true true h = refl
same_bit false false h = refl
same_bit true false h = absurd (omega arith)
same_bit false true h = absurd (omega arith)

-- a list that begins with the two bytes of a u16
word_front : (x y : ℕ) (xs ys : List ℕ) → x < 65536 → y < 65536 → big_bytes 2 x ++ xs ≡ big_bytes 2 y ++ ys → (x ≡ y)
    × (xs ≡ ys)
word_front x y xs ys p q h =
    let high : x / 256 % 256 ≡ y / 256 % 256 = cc in
    let low : x % 256 ≡ y % 256 = cc in
    ((omega arith), cc)

long_front : (x y : ℕ) (xs ys : List ℕ) → x < 4294967296 → y < 4294967296 → big_bytes 4 x ++ xs ≡ big_bytes 4 y ++ ys
    → (x ≡ y) × (xs ≡ ys)
long_front x y xs ys p q h =
    let first : x / 16777216 % 256 ≡ y / 16777216 % 256 = cc in
    let second : x / 65536 % 256 ≡ y / 65536 % 256 = cc in
    let third : x / 256 % 256 ≡ y / 256 % 256 = cc in
    let fourth : x % 256 ≡ y % 256 = cc in
    (omega arith, cc)

-- ---- ensemble information
same_occurrence : (o p : Option ℕ) → occurrence_bytes o ≡ occurrence_bytes p → o ≡ p
same_occurrence None None h = refl
same_occurrence (Some o) (Some p) h = let e : o ≡ p = cc in ap (λ n. Some n) e
same_occurrence _ _ h = cc

pub ensemble_told : (e f : EnsembleInformation) → IsEnsembleInformation e → IsEnsembleInformation f
    → ensemble_bytes e ≡ ensemble_bytes f → e ≡ f
ensemble_told e f h k same =
    let x = e.change * 64 + bit_of e.al * 32 + e.count / 250 in
    let y = f.change * 64 + bit_of f.al * 32 + f.count / 250 in
    let front = word_front e.eid f.eid (x ∷ e.count % 250 ∷ occurrence_bytes e.occurrence)
    (y ∷ f.count % 250 ∷ occurrence_bytes f.occurrence) h.eid k.eid same in
    let third : x ≡ y = cc in
    let fourth : e.count % 250 ≡ f.count % 250 = cc in
    let eid : e.eid ≡ f.eid = front.0 in
    let change : e.change ≡ f.change = omega (arith, third, h.count, k.count, bit_small e.al, bit_small f.al) in
    let al = same_bit e.al f.al (omega (arith, third, h.count, k.count, bit_small e.al, bit_small f.al)) in
    let count : e.count ≡ f.count = omega (arith, third, fourth, h.count, k.count, bit_small e.al, bit_small f.al) in
    let occurrence : e.occurrence ≡ f.occurrence = same_occurrence e.occurrence f.occurrence cc in
    λ i. record { eid = eid i; change = change i; al = al i; count = count i; occurrence = occurrence i }

-- ---- sub-channels
pub sub_told : (s t : SubEntry) → IsSubEntry s → IsSubEntry t → sub_bytes s ≡ sub_bytes t → s ≡ t
sub_told s t h k same =
    let front = word_front (s.id * 1024 + s.start) (t.id * 1024 + t.start)
    (big_bytes 2 (32768 + s.option * 4096 + s.level * 1024 + s.size))
    (big_bytes 2 (32768 + t.option * 4096 + t.level * 1024 + t.size)) (omega (arith, h.id, h.start))
    (omega (arith, k.id, k.start)) same in
    let back = word_front (32768 + s.option * 4096 + s.level * 1024 + s.size)
    (32768 + t.option * 4096 + t.level * 1024 + t.size) [] [] (omega (arith, h.option, h.level, h.size))
    (omega (arith, k.option, k.level, k.size)) front.1 in
    let id : s.id ≡ t.id = omega (arith, front.0, h.start, k.start) in
    let start : s.start ≡ t.start = omega (arith, front.0, h.start, k.start) in
    let option : s.option ≡ t.option = omega (arith, back.0, h.level, h.size, k.level, k.size) in
    let level : s.level ≡ t.level = omega (arith, back.0, h.level, h.size, k.level, k.size) in
    let size : s.size ≡ t.size = omega (arith, back.0, h.level, h.size, k.level, k.size) in
    λ i. record { id = id i; start = start i; option = option i; level = level i; size = size i }

pub short_told : (s t : ShortEntry) → IsShortEntry s → IsShortEntry t → short_bytes s ≡ short_bytes t → s ≡ t
short_told s t h k same =
    let x = bit_of s.switch * 64 + s.table in
    let y = bit_of t.switch * 64 + t.table in
    let front = word_front (s.id * 1024 + s.start) (t.id * 1024 + t.start) (x ∷ []) (y ∷ [])
    (omega (arith, h.id, h.start)) (omega (arith, k.id, k.start)) same in
    let last : x ≡ y = cc in
    let id : s.id ≡ t.id = omega (arith, front.0, h.start, k.start) in
    let start : s.start ≡ t.start = omega (arith, front.0, h.start, k.start) in
    let switch : s.switch ≡ t.switch = same_bit s.switch t.switch (omega (arith, last, h.table, k.table)) in
    let table : s.table ≡ t.table = omega (arith, last, h.table, k.table, bit_small s.switch, bit_small t.switch) in
    λ i. record { id = id i; start = start i; switch = switch i; table = table i }

-- ---- services
sid_told : (s t : Sid) (xs ys : List ℕ) → IsSid s → IsSid t → is_long_sid s ≡ is_long_sid t → sid_bytes s
    ++ xs ≡ sid_bytes t ++ ys
    → (s ≡ t) × (xs ≡ ys)
sid_told (Short n) (Short m) xs ys h k e same =
    let both = word_front n m xs ys h k same in
    (rw (both.0) refl, both.1)
sid_told (Long n) (Long m) xs ys h k e same =
    let both = long_front n m xs ys h k same in
    (rw (both.0) refl, both.1)
sid_told _ _ xs ys h k e same = cc

-- the P/S and CA flags are the two lowest bits
flags_told : (x y : ℕ) (p c q d : Bool) → x * 4 + bit_of p * 2 + bit_of c ≡ y * 4 + bit_of q * 2 + bit_of d → (x ≡ y)
    × (p ≡ q) × (c ≡ d)
flags_told x y p c q d h =
    let a = bit_small p in
    let b = bit_small c in
    let e = bit_small q in
    let f = bit_small d in
    (omega (arith, a, b, e, f), same_bit p q (omega (arith, a, b, e, f)), same_bit c d (omega (arith, a, b, e, f)))

fields_told : (ty sub ty' sub' : ℕ) (p c q d : Bool) → sub < 64 → sub' < 64
    → ty * 256 + sub * 4 + bit_of p * 2 + bit_of c ≡ ty' * 256 + sub' * 4 + bit_of q * 2 + bit_of d
    → (ty ≡ ty') × (sub ≡ sub') × (p ≡ q) × (c ≡ d)
fields_told ty sub ty' sub' p c q d h k same =
    let flags = flags_told (ty * 64 + sub) (ty' * 64 + sub') p c q d (omega arith) in
    (omega (arith, flags.0), omega (arith, flags.0), flags.1, flags.2)

component_told : (a b : ComponentEntry) → IsComponentEntry a → IsComponentEntry b → component_u16 a ≡ component_u16 b
    → a ≡ b
component_told (Sound ty sub p c) (Sound ty' sub' p' c') h k same =
    let all = fields_told ty sub ty' sub' p c p' c' h.1 k.1 (omega arith) in
    let t = all.0 in let s = all.1 in let f = all.2 in let g = all.3 in cc
component_told (Sound ty sub p c) (Stream ty' sub' p' c') h k same =
    absurd (omega (arith, bit_small p, bit_small c, h.0, h.1, bit_small p', bit_small c', k.0, k.1))
component_told (Sound ty sub p c) (Other b') h k same = absurd (omega (arith, bit_small p, bit_small c, h.0, h.1))
component_told (Sound ty sub p c) (Packet id' p' c') h k same =
    absurd (omega (arith, bit_small p, bit_small c, h.0, h.1, bit_small p', bit_small c'))
component_told (Stream ty sub p c) (Sound ty' sub' p' c') h k same =
    absurd (omega (arith, bit_small p, bit_small c, h.0, h.1, bit_small p', bit_small c', k.0, k.1))
component_told (Stream ty sub p c) (Stream ty' sub' p' c') h k same =
    let all = fields_told ty sub ty' sub' p c p' c' h.1 k.1 (omega arith) in
    let t = all.0 in let s = all.1 in let f = all.2 in let g = all.3 in cc
component_told (Stream ty sub p c) (Other b') h k same = absurd (omega (arith, bit_small p, bit_small c, h.0, h.1))
component_told (Stream ty sub p c) (Packet id' p' c') h k same =
    absurd (omega (arith, bit_small p, bit_small c, h.0, h.1, bit_small p', bit_small c'))
component_told (Other b) (Sound ty' sub' p' c') h k same = absurd (omega (arith, bit_small p', bit_small c', k.0, k.1))
component_told (Other b) (Stream ty' sub' p' c') h k same = absurd (omega (arith, bit_small p', bit_small c', k.0, k.1))
component_told (Other b) (Other b') h k same = let e : b ≡ b' = omega arith in ap (λ n. Other n) e
component_told (Other b) (Packet id' p' c') h k same = absurd (omega (arith, bit_small p', bit_small c'))
component_told (Packet id p c) (Sound ty' sub' p' c') h k same =
    absurd (omega (arith, bit_small p, bit_small c, bit_small p', bit_small c', k.0, k.1))
component_told (Packet id p c) (Stream ty' sub' p' c') h k same =
    absurd (omega (arith, bit_small p, bit_small c, bit_small p', bit_small c', k.0, k.1))
component_told (Packet id p c) (Other b') h k same = absurd (omega (arith, bit_small p, bit_small c))
component_told (Packet id p c) (Packet id' p' c') h k same =
    let all = flags_told id id' p c p' c' (omega arith) in
    let t = all.0 in let f = all.1 in let g = all.2 in cc

component_below : (c : ComponentEntry) → IsComponentEntry c → component_u16 c < 65536
component_below (Sound ty sub p c) h = omega (arith, h.0, h.1, bit_small p, bit_small c)
component_below (Stream ty sub p c) h = omega (arith, h.0, h.1, bit_small p, bit_small c)
component_below (Other b) h = omega arith
component_below (Packet id p c) h = omega (arith, bit_small p, bit_small c)

components_told : (cs ds : List ComponentEntry) → AllByRecursion IsComponentEntry cs
    → AllByRecursion IsComponentEntry ds → components_bytes cs ≡ components_bytes ds → cs ≡ ds
components_told [] [] h k same = refl
components_told (c ∷ cs) (d ∷ ds) h k same =
    let both = word_front (component_u16 c) (component_u16 d) (components_bytes cs) (components_bytes ds)
    (component_below c h.0) (component_below d k.0) same in
    ap₂ (λ x xs. x ∷ xs) (component_told c d h.0 k.0 both.0) (components_told cs ds h.1 k.1 both.1)
components_told _ _ h k same = cc

pub service_told : (s t : ServiceEntry) → IsServiceEntry s → IsServiceEntry t → is_long_sid s.sid ≡ is_long_sid t.sid
    → service_bytes s ≡ service_bytes t → s ≡ t
service_told s t h k long same =
    let x = bit_of s.rfa * 128 + s.ca_id * 16 + length s.components in
    let y = bit_of t.rfa * 128 + t.ca_id * 16 + length t.components in
    let front = sid_told s.sid t.sid (x ∷ components_bytes s.components) (y ∷ components_bytes t.components) h.sid k.sid
    long same in
    let sid : s.sid ≡ t.sid = front.0 in
    let middle : x ≡ y = cc in
    let components = components_told s.components t.components h.components k.components cc in
    let rfa : s.rfa ≡ t.rfa = same_bit s.rfa t.rfa (omega (arith, middle, h.ca_id, k.ca_id, h.few, k.few)) in
    let ca_id : s.ca_id ≡ t.ca_id = omega (arith, middle, h.ca_id, k.ca_id, h.few, k.few) in
    λ i. record { sid = sid i; rfa = rfa i; ca_id = ca_id i; components = components i }

-- ---- packet components
same_ca_org : (o p : Option ℕ) → (IfSome o (λ n. n < 65536)) → (IfSome p (λ n. n < 65536))
    → ca_org_bytes o ≡ ca_org_bytes p → o ≡ p
same_ca_org None None h k same = refl
same_ca_org (Some o) (Some p) h k same = let both = word_front o p [] [] h k same in ap (λ n. Some n) both.0
same_ca_org _ _ h k same = cc

pub packet_told : (p q : PacketEntry) → IsPacketEntry p → IsPacketEntry q → packet_bytes p ≡ packet_bytes q → p ≡ q
packet_told p q h k same =
    let b = bit_small (is_some q.ca_org) in
    let y = q.scid * 16 + q.rfa * 2 + bit_of (is_some q.ca_org) in
    let third = bit_of p.dg * 128 + bit_of p.rfu * 64 + p.ty in
    let third' = bit_of q.dg * 128 + bit_of q.rfu * 64 + q.ty in
    let front = word_front (p.scid * 16 + p.rfa * 2 + bit_of (is_some p.ca_org)) y
    (third ∷ big_bytes 2 (p.sub * 1024 + p.address) ++ ca_org_bytes p.ca_org)
    (third' ∷ big_bytes 2 (q.sub * 1024 + q.address) ++ ca_org_bytes q.ca_org)
    (omega (arith, bit_small (is_some p.ca_org), h.scid, h.rfa)) (omega (arith, b, k.scid, k.rfa)) same in
    let middle : third ≡ third' = cc in
    let back = word_front (p.sub * 1024 + p.address) (q.sub * 1024 + q.address) (ca_org_bytes p.ca_org)
    (ca_org_bytes q.ca_org)
    (omega (arith, h.sub, h.address)) (omega (arith, k.sub, k.address)) cc in
    let ca_org : p.ca_org ≡ q.ca_org = same_ca_org p.ca_org q.ca_org h.ca_org k.ca_org back.1 in
    let scid : p.scid ≡ q.scid = omega (arith, front.0, h.rfa, k.rfa, bit_small (is_some p.ca_org), b) in
    let rfa : p.rfa ≡ q.rfa = omega (arith, front.0, h.rfa, k.rfa, bit_small (is_some p.ca_org), b) in
    let d' = bit_small q.rfu in
    let dg : p.dg ≡ q.dg = same_bit p.dg q.dg (omega (arith, middle, bit_small p.rfu, d', h.ty, k.ty)) in
    let rfu : p.rfu ≡ q.rfu = same_bit p.rfu q.rfu (omega (arith, middle, bit_small p.rfu, d', h.ty, k.ty)) in
    let ty : p.ty ≡ q.ty = omega (arith, middle, bit_small p.rfu, d', h.ty, k.ty) in
    let sub : p.sub ≡ q.sub = omega (arith, back.0, h.address, k.address) in
    let address : p.address ≡ q.address = omega (arith, back.0, h.address, k.address) in
    λ i. record {
      scid = scid i;
      rfa = rfa i;
      dg = dg i;
      rfu = rfu i;
      ty = ty i;
      sub = sub i;
      address = address i;
      ca_org = ca_org i;
    }

-- ---- entries

pub entry_told : (e f : Entry) → IsWithin e → IsWithin f → ext_of e ≡ ext_of f → is_long_entry e ≡ is_long_entry f
    → entry_bytes e ≡ entry_bytes f → e ≡ f
entry_told (EnsembleOf e) (EnsembleOf f) h k ext long same = rw (ensemble_told e f h k same) refl
entry_told (EnsembleOf e) (SubOf t) h k ext long same = absurd (omega arith)
entry_told (EnsembleOf e) (ShortOf t) h k ext long same = absurd (omega arith)
entry_told (EnsembleOf e) (ServiceOf t) h k ext long same = absurd (omega arith)
entry_told (EnsembleOf e) (PacketOf q) h k ext long same = absurd (omega arith)
entry_told (SubOf s) (EnsembleOf f) h k ext long same = absurd (omega arith)
entry_told (SubOf s) (SubOf t) h k ext long same = rw (sub_told s t h k same) refl
entry_told (SubOf s) (ShortOf t) h k ext long same = cc
entry_told (SubOf s) (ServiceOf t) h k ext long same = absurd (omega arith)
entry_told (SubOf s) (PacketOf q) h k ext long same = absurd (omega arith)
entry_told (ShortOf s) (EnsembleOf f) h k ext long same = absurd (omega arith)
entry_told (ShortOf s) (SubOf t) h k ext long same = cc
entry_told (ShortOf s) (ShortOf t) h k ext long same = rw (short_told s t h k same) refl
entry_told (ShortOf s) (ServiceOf t) h k ext long same = absurd (omega arith)
entry_told (ShortOf s) (PacketOf q) h k ext long same = absurd (omega arith)
entry_told (ServiceOf s) (EnsembleOf f) h k ext long same = absurd (omega arith)
entry_told (ServiceOf s) (SubOf t) h k ext long same = absurd (omega arith)
entry_told (ServiceOf s) (ShortOf t) h k ext long same = absurd (omega arith)
entry_told (ServiceOf s) (ServiceOf t) h k ext long same = rw (service_told s t h k long same) refl
entry_told (ServiceOf s) (PacketOf q) h k ext long same = absurd (omega arith)
entry_told (PacketOf p) (EnsembleOf f) h k ext long same = absurd (omega arith)
entry_told (PacketOf p) (SubOf t) h k ext long same = absurd (omega arith)
entry_told (PacketOf p) (ShortOf t) h k ext long same = absurd (omega arith)
entry_told (PacketOf p) (ServiceOf t) h k ext long same = absurd (omega arith)
entry_told (PacketOf p) (PacketOf q) h k ext long same = rw (packet_told p q h k same) refl
