-- A sub-channel, a service or a packet component that is read is the one that was encoded, and what is encoded is read
-- again.
use Rattle.mux_config.proofs.Words.{[], ◌%◌, ◌*◌, ◌++◌, ◌+◌, ◌/◌, ◌<◌, ◌∙◌, ◌∷◌, ◌≡◌, ◌≢◌, ◌≤◌, A, AllByRecursion}
use Rattle.mux_config.proofs.Words.{AreDifferent, B, Bool, Carrier, Component, EepFault, EepSet, Err, IsAddressed}
use Rattle.mux_config.proofs.Words.{IsComponent, IsPlaced, IsService, IsSize, List, NotMultiple, Ok, Order, Packet}
use Rattle.mux_config.proofs.Words.{PastMultiplex, Profile, Result, Service, Sub, ZeroRate, ap, append-nil}
use Rattle.mux_config.proofs.Words.{append_assoc, arith, byte_within, carrier_of, component_at, component_bytes}
use Rattle.mux_config.proofs.Words.{component_limit, cond, each_pushed, eqb, eqb-false, false, flag_at, flag_byte}
use Rattle.mux_config.proofs.Words.{flat_map, flat_map_more, is_same_carrier, le-ltb, le-mul_of_pos_right, length}
use Rattle.mux_config.proofs.Words.{length-append, list_any, ltb, ltb-false, names, ne_eqb, number_at, packet_record}
use Rattle.mux_config.proofs.Words.{place, protection_at, protection_bytes, rate_step, refl, service_record, sid_at}
use Rattle.mux_config.proofs.Words.{sid_field, sid_key, size_or_fault, size_or_field, sub_record, subst, suc, sym}
use Rattle.mux_config.proofs.Words.{table_size, true, u16_bytes, u16_in_range, units_of_step, w16, zero, ℕ}
use Rattle.mux_types.specs.declared.parts.Carrier.TheVariants.{Sub as BySub, Packet as ByPacket}
use Rattle.mux_config.specs.Reading.{read_sub, components_at, read_service, read_packet}
use Rattle.mux_config.proofs.FieldLaws.{IsBytes, Front, front_then, bind_ok, refuse_ok, ok_is, word_front, word_again}
use Rattle.mux_config.proofs.FieldLaws.{byte_within_front, byte_within_again, word_within_front, word_within_again}
use Rattle.mux_config.proofs.FieldLaws.{flag_front, flag_again, protection_front, protection_again, sid_front}
use Rattle.mux_config.proofs.FieldLaws.{sid_again, component_front, component_again}
use Rattle.std.proofs.lemmas.Bool.{or_parts}
use Rattle.mux_config.proofs.Rates.{units_positive}

-- ---- sizes

test_ok : (b : Bool) (d : EepFault) (r : Result ℕ EepFault) (n : ℕ) → cond b (Err d) r ≡ Ok n → (b ≡ false) × (r ≡ Ok n)
test_ok true d r n e = absurd cc
test_ok false d r n e = (refl, e)

size_is_ok : (at : ℕ) (r : Result ℕ EepFault) (n : ℕ) → size_or_field at r ≡ Ok n → r ≡ Ok n
size_is_ok at (Ok m) n e = cc
size_is_ok at (Err d) n e = absurd cc

same_size : (m n : ℕ) → (let r : Result ℕ EepFault = Ok m in r) ≡ Ok n → m ≡ n
same_size m n e = cc

pub size_ok : (p : Profile) (kbits n : ℕ) → size_or_fault p kbits ≡ Ok n → (n ≡ table_size p kbits)
    × IsSize p kbits (table_size p kbits)
size_ok p kbits n e =
    let past : Result ℕ EepFault = cond (ltb 864 (table_size p kbits)) (Err PastMultiplex) (Ok (table_size p kbits)) in
    let z = test_ok (eqb kbits 0) ZeroRate (cond (ltb 0 (kbits % rate_step p.set)) (Err NotMultiple) past) n e in
    let m = test_ok (ltb 0 (kbits % rate_step p.set)) NotMultiple past n z.1 in
    let w = test_ok (ltb 864 (table_size p kbits)) PastMultiplex (Ok (table_size p kbits)) n m.1 in
    let multiple : kbits % rate_step p.set ≤ 0 = ltb-false _ _ m.0 in (
      sym (same_size (table_size p kbits) n w.1),
      record {
        positive = omega (arith, eqb-false _ _ z.0);
        multiple = omega (arith, multiple);
        from_table = refl;
        within = ltb-false _ _ w.0;
      },
    )

pub size_again : (p : Profile) (kbits size : ℕ) → IsSize p kbits size → size_or_fault p kbits ≡ Ok (table_size p kbits)
size_again p kbits size h =
    let some : eqb kbits 0 ≡ false = ne_eqb _ _ (λ e. omega (arith, h.positive, e)) in
    let multiple : ltb 0 (kbits % rate_step p.set) ≡ false = le-ltb _ _ (omega (arith, h.multiple)) in
    let within : ltb 864 (table_size p kbits) ≡ false = le-ltb _ _ (omega (arith, h.within, h.from_table)) in
    rw (some, multiple, within) refl

rate_small : (set : EepSet) (level kbits : ℕ) → units_of_step set level * (kbits / rate_step set) ≤ 864 → kbits < 65536
rate_small A level kbits h = omega (arith, h, le-mul_of_pos_right (kbits / 8) (units_positive A level))
rate_small B level kbits h = omega (arith, h, le-mul_of_pos_right (kbits / 32) (units_positive B level))

-- ---- sub-channels

abbrev pub IsSubRead : (low : ℕ) (bytes : List ℕ) → Sub × List ℕ → Type 0
IsSubRead low bytes x = Front bytes (sub_record x.0) x.1 × (low ≤ x.0.id) × IsPlaced x.0

pub sub_front : (total low : ℕ) (bytes : List ℕ) (x : Sub × List ℕ) → IsBytes bytes → read_sub total low bytes ≡ Ok x
    → IsSubRead low bytes x
unfolding read_sub
sub_front total low bytes x fits e =
    let a = bind_ok (byte_within total 0 63 bytes) _ x e in
    let r = refuse_ok _ Order _ x a.2 in
    let b = bind_ok (number_at w16 a.0.1) _ x r.1 in
    let p = bind_ok (protection_at total b.0.1) _ x b.2 in
    let k = bind_ok (number_at w16 p.0.1) _ x p.2 in
    let z = bind_ok (size_or_field (place total p.0.1) (size_or_fault p.0.0 k.0.0)) _ x k.2 in
    let t = refuse_ok _ _ _ x z.2 in
    let fa = byte_within_front total 0 63 bytes a.0 fits a.1 in
    let fb = word_front a.0.1 b.0 fa.0.rest_fits b.1 in
    let fp = protection_front total b.0.1 p.0 fb.0.rest_fits p.1 in
    let fk = word_front p.0.1 k.0 fp.0.rest_fits k.1 in
    let s = size_ok p.0.0 k.0.0 z.0 (size_is_ok _ _ z.0 z.1) in
    let ends : b.0.0 + z.0 ≤ 864 = ltb-false _ _ t.0 in
    let made : Sub × List ℕ = (record { id = a.0.0; start = b.0.0; protection = p.0.0; kbits = k.0.0 }, k.0.1) in
    subst (IsSubRead low bytes) (ok_is made x t.1) (
      front_then bytes ((a.0.0 ∷ []) ++ u16_bytes b.0.0 ++ protection_bytes p.0.0) p.0.1 (u16_bytes k.0.0) k.0.1
          (front_then bytes ((a.0.0 ∷ []) ++ u16_bytes b.0.0) b.0.1 (protection_bytes p.0.0) p.0.1
          (front_then bytes (a.0.0 ∷ []) a.0.1 (u16_bytes b.0.0) b.0.1 fa.0 fb.0) fp.0) fk.0,
      (ltb-false _ _ r.0),
      record {
        named = omega (arith, fa.2);
        from_one = fp.1;
        to_four = fp.2;
        sized = s.1;
        ends = omega (arith, ends, s.0);
      },
    )

pub sub_again : (total low : ℕ) (s : Sub) (rest : List ℕ) → IsPlaced s → low ≤ s.id
    → read_sub total low (sub_record s ++ rest) ≡ Ok (s, rest)
unfolding read_sub
sub_again total low s rest h up =
    let small : s.kbits < 65536 = rate_small s.protection.set s.protection.level s.kbits h.sized.within in
    let ordered : ltb s.id low ≡ false = le-ltb _ _ up in
    let ends : ltb 864 (s.start + table_size s.protection s.kbits) ≡ false = le-ltb _ _ (omega (arith, h.ends)) in
    rw (
      byte_within_again total 0 63 s.id (u16_bytes s.start ++ protection_bytes s.protection ++ u16_bytes s.kbits
          ++ rest) (omega arith) (omega (arith, h.named)),
      ordered,
      word_again s.start (protection_bytes s.protection ++ u16_bytes s.kbits ++ rest) (omega (arith, h.ends)),
      protection_again total s.protection (u16_bytes s.kbits ++ rest) h.from_one h.to_four,
      word_again s.kbits rest small,
      size_again s.protection s.kbits _ h.sized,
      ends,
    ) refl

-- ---- carriers

carrier_differs : (a b : Carrier) → is_same_carrier a b ≡ false → a ≢ b
carrier_differs (BySub a) (BySub b) h e = eqb-false a b h (let same : a ≡ b = cc in same)
carrier_differs (ByPacket a) (ByPacket b) h e = eqb-false a b h (let same : a ≡ b = cc in same)
carrier_differs _ _ h e = absurd cc

carrier_other : (a b : Carrier) → a ≢ b → is_same_carrier a b ≡ false
carrier_other (BySub a) (BySub b) h = ne_eqb a b (λ e. h (ap (λ (n : ℕ). BySub n) e))
carrier_other (ByPacket a) (ByPacket b) h = ne_eqb a b (λ e. h (ap (λ (n : ℕ). ByPacket n) e))
carrier_other _ _ h = refl

pub different_pushed : (before : List Component) (c : Component) → AreDifferent before
    → list_any (names (carrier_of c)) before ≡ false → AreDifferent (before ++ c ∷ [])
different_pushed [] c all new = (tt, tt)
different_pushed (b ∷ bs) c all new =
    let n = or_parts (names (carrier_of c) b) (list_any (names (carrier_of c)) bs) new in (
      each_pushed (λ d. carrier_of b ≢ carrier_of d) bs c all.0 (carrier_differs (carrier_of b) (carrier_of c) n.0),
      different_pushed bs c all.1 n.1,
    )

each_middle : {T : Type 0} (P : T → Type 0) (xs : List T) (y : T) (ys : List T) → AllByRecursion P (xs ++ y ∷ ys) → P y
each_middle P [] y ys all = all.0
each_middle P (x ∷ xs) y ys all = each_middle P xs y ys all.1

different_named : (before : List Component) (c : Component) (more : List Component) → AreDifferent (before ++ c ∷ more)
    → list_any (names (carrier_of c)) before ≡ false
different_named [] c more all = refl
different_named (b ∷ bs) c more all =
    let other : names (carrier_of c) b ≡ false =
    carrier_other (carrier_of b) (carrier_of c) (each_middle (λ d. carrier_of b ≢ carrier_of d) bs c more all.0) in
    rw other (different_named bs c more all.1)

-- ---- components

pub flat_pushed : {T : Type 0} (f : T → List ℕ) (xs : List T) (x : T) → flat_map f (xs ++ x ∷ []) ≡ flat_map f xs ++ f x
flat_pushed f xs x = sym (flat_map_more f [] xs x)

abbrev pub IsComponentsRead : (before : List Component) (count : ℕ) (bytes : List ℕ) → List Component × List ℕ → Type 0
IsComponentsRead before count bytes x =
    (text : List ℕ) × Front bytes text x.1 × (flat_map component_bytes x.0 ≡ flat_map component_bytes before ++ text)
    × (length x.0 ≡ length before + count) × AreDifferent x.0 × AllByRecursion IsComponent x.0

pub components_front : (total : ℕ) (before : List Component) (count : ℕ) (bytes : List ℕ) (x : List Component × List ℕ)
    → IsBytes bytes → AreDifferent before → AllByRecursion IsComponent before
    → components_at total before count bytes ≡ Ok x → IsComponentsRead before count bytes x
unfolding components_at
components_front total before zero bytes x fits different within e =
    subst (IsComponentsRead before 0 bytes) (ok_is (before, bytes) x e) (
      [],
      record { parts = refl; rest_fits = fits },
      sym (append-nil (flat_map component_bytes before)),
      omega arith,
      different,
      within,
    )
components_front total before (suc count) bytes x fits different within e =
    let a = bind_ok (component_at total bytes) _ x e in
    let r = refuse_ok _ _ _ x a.2 in
    let f = component_front total bytes a.0 fits a.1 in
    let c = a.0.0 in
    let more = components_front total (before ++ c ∷ []) count a.0.1 x f.0.rest_fits
    (different_pushed before c different r.0) (each_pushed IsComponent before c within f.1) r.1 in
    let spelled : flat_map component_bytes x.0 ≡ flat_map component_bytes before ++ (component_bytes c ++ more.0) =
    more.2 ∙ ap (λ (t : List ℕ). t ++ more.0) (flat_pushed component_bytes before c)
    ∙ append_assoc (flat_map component_bytes before) (component_bytes c) more.0 in
    let one = length-append before (c ∷ []) in (
      component_bytes c ++ more.0,
      front_then bytes (component_bytes c) a.0.1 more.0 x.1 f.0 more.1,
      spelled,
      omega (arith, more.3, one),
      more.4,
      more.5,
    )

pub components_again : (total : ℕ) (before more : List Component) (rest : List ℕ) → AreDifferent (before ++ more)
    → AllByRecursion IsComponent more
    → components_at total before (length more) (flat_map component_bytes more ++ rest) ≡ Ok (before ++ more, rest)
unfolding components_at
components_again total before [] rest different within =
    ap (λ (cs : List Component). Ok (cs, rest)) (sym (append-nil before))
components_again total before (c ∷ cs) rest different within =
    let regrouped = append_assoc (component_bytes c) (flat_map component_bytes cs) rest in
    let moved : before ++ c ∷ [] ++ cs ≡ before ++ c ∷ cs = append_assoc before (c ∷ []) cs in
    let ih = components_again total (before ++ c ∷ []) cs rest (rw moved different) within.1 in
    ap (components_at total before (suc (length cs))) regrouped
    ∙ rw (component_again total c (flat_map component_bytes cs ++ rest) within.0, different_named before c cs different)
    (ih ∙ ap (λ (ds : List Component). Ok (ds, rest)) moved)

-- ---- services

abbrev pub IsServiceRead : (low : ℕ) (bytes : List ℕ) → Service × List ℕ → Type 0
IsServiceRead low bytes x = Front bytes (service_record x.0) x.1 × (low ≤ sid_key x.0.sid) × IsService x.0

pub service_front : (total low : ℕ) (bytes : List ℕ) (x : Service × List ℕ) → IsBytes bytes
    → read_service total low bytes ≡ Ok x → IsServiceRead low bytes x
unfolding read_service
service_front total low bytes x fits e =
    let a = bind_ok (sid_at total bytes) _ x e in
    let r = refuse_ok _ Order _ x a.2 in
    let n = bind_ok (byte_within total 0 (component_limit a.0.0) a.0.1) _ x r.1 in
    let m = bind_ok (components_at total [] n.0.0 n.0.1) _ x n.2 in
    let fa = sid_front total bytes a.0 fits a.1 in
    let fn = byte_within_front total 0 (component_limit a.0.0) a.0.1 n.0 fa.0.rest_fits n.1 in
    let fm = components_front total [] n.0.0 n.0.1 m.0 fn.0.rest_fits tt tt m.1 in
    let count : length m.0.0 ≡ n.0.0 = omega (arith, fm.3) in
    let both = front_then a.0.1 (n.0.0 ∷ []) n.0.1 fm.0 m.0.1 fn.0 fm.1 in
    subst (IsServiceRead low bytes) (ok_is (record { sid = a.0.0; components = m.0.0 }, m.0.1) x m.2) (
      rw (count, fm.2) (front_then bytes (sid_field a.0.0) a.0.1 (n.0.0 ∷ fm.0) m.0.1 fa.0 both),
      (ltb-false _ _ r.0),
      record {
        named = fa.1;
        within = fm.5;
        carriers = fm.4;
        few = omega (arith, count, fn.2);
      },
    )

pub service_again : (total low : ℕ) (s : Service) (rest : List ℕ) → IsService s → low ≤ sid_key s.sid
    → read_service total low (service_record s ++ rest) ≡ Ok (s, rest)
unfolding read_service
service_again total low s rest h up =
    let regrouped = append_assoc (sid_field s.sid) (length s.components ∷ flat_map component_bytes s.components) rest in
    ap (read_service total low) regrouped
    ∙ rw (
      sid_again total s.sid (length s.components ∷ (flat_map component_bytes s.components ++ rest)) h.named,
      (le-ltb _ _ up),
      byte_within_again total 0 (component_limit s.sid) (length s.components)
          (flat_map component_bytes s.components ++ rest) (omega arith) h.few,
      components_again total [] s.components rest h.carriers h.within,
    ) refl

-- ---- packet components

abbrev pub IsPacketRead : (low : ℕ) (bytes : List ℕ) → Packet × List ℕ → Type 0
IsPacketRead low bytes x = Front bytes (packet_record x.0) x.1 × (low ≤ x.0.scid) × IsAddressed x.0

pub packet_front : (total low : ℕ) (bytes : List ℕ) (x : Packet × List ℕ) → IsBytes bytes
    → read_packet total low bytes ≡ Ok x → IsPacketRead low bytes x
unfolding read_packet
packet_front total low bytes x fits e =
    let a = bind_ok (u16_in_range total 0 4095 bytes) _ x e in
    let r = refuse_ok _ Order _ x a.2 in
    let d = bind_ok (flag_at total a.0.1) _ x r.1 in
    let t = bind_ok (byte_within total 0 63 d.0.1) _ x d.2 in
    let s = bind_ok (byte_within total 0 63 t.0.1) _ x t.2 in
    let w = bind_ok (u16_in_range total 1 1023 s.0.1) _ x s.2 in
    let fa = word_within_front total 0 4095 bytes a.0 fits a.1 in
    let fd = flag_front total a.0.1 d.0 fa.0.rest_fits d.1 in
    let ft = byte_within_front total 0 63 d.0.1 t.0 fd.rest_fits t.1 in
    let fs = byte_within_front total 0 63 t.0.1 s.0 ft.0.rest_fits s.1 in
    let fw = word_within_front total 1 1023 s.0.1 w.0 fs.0.rest_fits w.1 in
    let up : low ≤ a.0.0 = ltb-false _ _ r.0 in
    let made : Packet × List ℕ =
    (record { scid = a.0.0; dg = d.0.0; ty = t.0.0; sub = s.0.0; address = w.0.0 }, w.0.1) in
    subst (IsPacketRead low bytes) (ok_is made x w.2) (
      front_then bytes (u16_bytes a.0.0) a.0.1 (flag_byte d.0.0 ∷ t.0.0 ∷ s.0.0 ∷ u16_bytes w.0.0) w.0.1 fa.0
          (front_then a.0.1 (flag_byte d.0.0 ∷ []) d.0.1 (t.0.0 ∷ s.0.0 ∷ u16_bytes w.0.0) w.0.1 fd
          (front_then d.0.1 (t.0.0 ∷ []) t.0.1 (s.0.0 ∷ u16_bytes w.0.0) w.0.1 ft.0
          (front_then t.0.1 (s.0.0 ∷ []) s.0.1 (u16_bytes w.0.0) w.0.1 fs.0 fw.0))),
      up,
      record {
        named = omega (arith, fa.2);
        typed = omega (arith, ft.2);
        carried = omega (arith, fs.2);
        from_one = fw.1;
        to_last = fw.2;
      },
    )

pub packet_again : (total low : ℕ) (p : Packet) (rest : List ℕ) → IsAddressed p → low ≤ p.scid
    → read_packet total low (packet_record p ++ rest) ≡ Ok (p, rest)
unfolding read_packet
packet_again total low p rest h up =
    rw (
      word_within_again total 0 4095 p.scid (flag_byte p.dg ∷ p.ty ∷ p.sub ∷ u16_bytes p.address ++ rest) (omega arith)
          (omega (arith, h.named)) (omega arith),
      (le-ltb _ _ up),
      flag_again total p.dg (p.ty ∷ p.sub ∷ u16_bytes p.address ++ rest),
      byte_within_again total 0 63 p.ty (p.sub ∷ u16_bytes p.address ++ rest) (omega arith) (omega (arith, h.typed)),
      byte_within_again total 0 63 p.sub (u16_bytes p.address ++ rest) (omega arith) (omega (arith, h.carried)),
      word_within_again total 1 1023 p.address rest h.from_one h.to_last (omega arith),
    ) refl
