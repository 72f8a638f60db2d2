-- A configuration record that is read is the one that was encoded, and what is encoded is read again, whatever follows
-- it.
use Rattle.mux_config.proofs.Words.{[], ◌++◌, ◌+◌, ◌-◌, ◌<◌, ◌∙◌, ◌∷◌, ◌≡◌, ◌≤◌, AllByRecursion, Configuration, Err}
use Rattle.mux_config.proofs.Words.{IfErr, IfOk, IsAddressed, IsAscending, IsConfiguration, IsPlaced, IsService, List}
use Rattle.mux_config.proofs.Words.{Ok, Reads, RecordFault, Result, ap, append-nil, append_assoc, arith, ascends_pushed}
use Rattle.mux_config.proofs.Words.{byte_within, config_at, config_bytes, drop, drop_at, each_pushed, each_weaker}
use Rattle.mux_config.proofs.Words.{flat_map, length, length-append, packet_key, packet_record, read_packet}
use Rattle.mux_config.proofs.Words.{read_service, read_sub, refl, service_key, service_record, sub_key, sub_record}
use Rattle.mux_config.proofs.Words.{subst, suc, sym, zero, ℕ}
use Rattle.mux_config.specs.Reading.{members_at, record_at}
use Rattle.mux_config.proofs.FieldLaws.{IsBytes, Front, front_then, bind_ok, ok_is, byte_within_front}
use Rattle.mux_config.proofs.FieldLaws.{byte_within_again}
use Rattle.mux_config.proofs.PartLaws.{flat_pushed, sub_front, sub_again, service_front, service_again, packet_front}
use Rattle.mux_config.proofs.PartLaws.{packet_again}

-- ---- the members of a set

module _ {T : Type 0} (key : T → ℕ) (text : T → List ℕ) (P : T → Type 0) (member_at : ℕ → List ℕ → Reads T) where
  -- the bytes read for a member are its encoding, its key is at least `low`, and it is a valid member
  abbrev pub ReadsMembers : Type 0
  ReadsMembers = (low : ℕ) (bytes : List ℕ) (x : T × List ℕ) → IsBytes bytes → member_at low bytes ≡ Ok x
      → Front bytes (text x.0) x.1 × (low ≤ key x.0) × P x.0

  abbrev pub ReadsAgain : Type 0
  ReadsAgain = (low : ℕ) (x : T) (rest : List ℕ) → P x → low ≤ key x → member_at low (text x ++ rest) ≡ Ok (x, rest)

  abbrev pub AreMembersRead : (before : List T) (count : ℕ) (bytes : List ℕ) → List T × List ℕ → Type 0
  AreMembersRead before count bytes x =
      (more : List ℕ) × Front bytes more x.1 × (flat_map text x.0 ≡ flat_map text before ++ more)
      × (length x.0 ≡ length before + count) × IsAscending key x.0 × AllByRecursion P x.0

  pub members_front : ReadsMembers → (low : ℕ) (before : List T) (count : ℕ) (bytes : List ℕ) (x : List T × List ℕ)
      → IsBytes bytes
      → IsAscending key before → AllByRecursion (λ y. key y < low) before → AllByRecursion P before
      → members_at key member_at low before count bytes ≡ Ok x → AreMembersRead before count bytes x
  unfolding members_at
  members_front law low before zero bytes x fits up below all e =
      let made : List T × List ℕ = (before, bytes) in
      subst (AreMembersRead before 0 bytes) (ok_is made x e)
      ([], record { parts = refl; rest_fits = fits }, sym (append-nil (flat_map text before)), omega arith, up, all)
  members_front law low before (suc count) bytes x fits up below all e =
      let a = bind_ok (member_at low bytes) _ x e in
      let f = law low bytes a.0 fits a.1 in
      let y = a.0.0 in
      let ordered = f.1 in
      let later : AllByRecursion (λ z. key z < key y + 1) (before ++ y ∷ []) =
      each_pushed (λ z. key z < key y + 1) before y
      (each_weaker (λ z. key z < low) (λ z. key z < key y + 1) (λ z h. omega (arith, h, ordered)) before below)
      (omega arith) in
      let ascending : IsAscending key (before ++ y ∷ []) =
      ascends_pushed key before y up
      (each_weaker (λ z. key z < low) (λ z. key z < key y) (λ z h. omega (arith, h, ordered)) before below) in
      let rest = members_front law (key y + 1) (before ++ y ∷ []) count a.0.1 x f.0.rest_fits ascending later
      (each_pushed P before y all f.2) a.2 in
      let spelled : flat_map text x.0 ≡ flat_map text before ++ (text y ++ rest.0) =
      rest.2 ∙ ap (λ (t : List ℕ). t ++ rest.0) (flat_pushed text before y)
      ∙ append_assoc (flat_map text before) (text y) rest.0 in
      let one = length-append before (y ∷ []) in (
        text y ++ rest.0,
        front_then bytes (text y) a.0.1 rest.0 x.1 f.0 rest.1,
        spelled,
        omega (arith, rest.3, one),
        rest.4,
        rest.5,
      )

  pub members_again : ReadsAgain → (low : ℕ) (before more : List T) (rest : List ℕ) → IsAscending key more
      → AllByRecursion (λ y. low ≤ key y) more → AllByRecursion P more
      → members_at key member_at low before (length more) (flat_map text more ++ rest) ≡ Ok (before ++ more, rest)
  unfolding members_at
  members_again law low before [] rest up above all = ap (λ (ys : List T). Ok (ys, rest)) (sym (append-nil before))
  members_again law low before (y ∷ ys) rest up above all =
      let moved : before ++ y ∷ [] ++ ys ≡ before ++ y ∷ ys = append_assoc before (y ∷ []) ys in
      let later = each_weaker (λ z. key y < key z) (λ z. key y + 1 ≤ key z) (λ z h. omega (arith, h)) ys up.0 in
      let ih = members_again law (key y + 1) (before ++ y ∷ []) ys rest up.1 later all.1 in
      ap (members_at key member_at low before (suc (length ys))) (append_assoc (text y) (flat_map text ys) rest)
      ∙ rw (law low y (flat_map text ys ++ rest) all.0 above.0) (ih ∙ ap (λ (zs : List T). Ok (zs, rest)) moved)

any_low : {T : Type 0} (key : T → ℕ) (xs : List T) → AllByRecursion (λ y. 0 ≤ key y) xs
any_low key [] = tt
any_low key (x ∷ xs) = (omega arith, any_low key xs)

-- ---- the record

abbrev pub IsRead : List ℕ → Configuration × List ℕ → Type 0
IsRead bytes x = Front bytes (config_bytes x.0) x.1 × IsConfiguration x.0

pub record_front : (total : ℕ) (bytes : List ℕ) (x : Configuration × List ℕ) → IsBytes bytes
    → record_at total bytes ≡ Ok x → IsRead bytes x
unfolding record_at
record_front total bytes x fits e =
    let a = bind_ok (byte_within total 0 64 bytes) _ x e in
    let b = bind_ok (byte_within total 0 64 a.0.1) _ x a.2 in
    let c = bind_ok (byte_within total 0 64 b.0.1) _ x b.2 in
    let s = bind_ok (members_at sub_key (read_sub total) 0 [] a.0.0 c.0.1) _ x c.2 in
    let v = bind_ok (members_at service_key (read_service total) 0 [] b.0.0 s.0.1) _ x s.2 in
    let p = bind_ok (members_at packet_key (read_packet total) 0 [] c.0.0 v.0.1) _ x v.2 in
    let fa = byte_within_front total 0 64 bytes a.0 fits a.1 in
    let fb = byte_within_front total 0 64 a.0.1 b.0 fa.0.rest_fits b.1 in
    let fc = byte_within_front total 0 64 b.0.1 c.0 fb.0.rest_fits c.1 in
    let fs = members_front sub_key sub_record IsPlaced (read_sub total) (sub_front total) 0 [] a.0.0 c.0.1 s.0
    fc.0.rest_fits tt tt tt s.1 in
    let fv = members_front service_key service_record IsService (read_service total) (service_front total) 0 [] b.0.0
    s.0.1 v.0 fs.1.rest_fits tt tt tt v.1 in
    let fp = members_front packet_key packet_record IsAddressed (read_packet total) (packet_front total) 0 [] c.0.0
    v.0.1 p.0 fv.1.rest_fits tt tt tt p.1 in
    let subs_count : length s.0.0 ≡ a.0.0 = omega (arith, fs.3) in
    let services_count : length v.0.0 ≡ b.0.0 = omega (arith, fv.3) in
    let packets_count : length p.0.0 ≡ c.0.0 = omega (arith, fp.3) in
    let counts : List ℕ = a.0.0 ∷ b.0.0 ∷ c.0.0 ∷ [] in
    let head : Front bytes counts c.0.1 =
    front_then bytes (a.0.0 ∷ []) a.0.1 (b.0.0 ∷ c.0.0 ∷ []) c.0.1 fa.0
    (front_then a.0.1 (b.0.0 ∷ []) b.0.1 (c.0.0 ∷ []) c.0.1 fb.0 fc.0) in
    let whole = front_then bytes (counts ++ fs.0 ++ fv.0) v.0.1 fp.0 p.0.1
    (front_then bytes (counts ++ fs.0) s.0.1 fv.0 v.0.1 (front_then bytes counts c.0.1 fs.0 s.0.1 head fs.1) fv.1)
    fp.1 in
    let made : Configuration × List ℕ = (record { subs = s.0.0; services = v.0.0; packets = p.0.0 }, p.0.1) in
    subst (IsRead bytes) (ok_is made x p.2) (
      rw (subs_count, services_count, packets_count, fs.2, fv.2, fp.2) whole,
      record {
        subs_ascend = fs.4;
        services_ascend = fv.4;
        packets_ascend = fp.4;
        subs_placed = fs.5;
        services_formed = fv.5;
        packets_addressed = fp.5;
        subs_few = omega (arith, subs_count, fa.2);
        services_few = omega (arith, services_count, fb.2);
        packets_few = omega (arith, packets_count, fc.2);
      },
    )

pub record_again : (total : ℕ) (c : Configuration) (rest : List ℕ) → IsConfiguration c
    → record_at total (config_bytes c ++ rest) ≡ Ok (c, rest)
unfolding record_at
record_again total c rest h =
    let subs = flat_map sub_record c.subs in
    let services = flat_map service_record c.services in
    let packets = flat_map packet_record c.packets in
    let regrouped = append_assoc (subs ++ services) packets rest ∙ append_assoc subs services (packets ++ rest) in
    ap (λ (t : List ℕ). record_at total ((length c.subs ∷ length c.services ∷ length c.packets ∷ []) ++ t)) regrouped
    ∙ rw (
      byte_within_again total 0 64 (length c.subs) (length c.services ∷ length c.packets
          ∷ (subs ++ (services ++ (packets ++ rest)))) (omega arith) h.subs_few,
      byte_within_again total 0 64 (length c.services) (length c.packets ∷ (subs ++ (services ++ (packets ++ rest))))
          (omega arith) h.services_few,
      byte_within_again total 0 64 (length c.packets) (subs ++ (services ++ (packets ++ rest))) (omega arith)
          h.packets_few,
      members_again sub_key sub_record IsPlaced (read_sub total) (sub_again total) 0 [] c.subs
          (services ++ (packets ++ rest)) h.subs_ascend (any_low sub_key c.subs) h.subs_placed,
      members_again service_key service_record IsService (read_service total) (service_again total) 0 [] c.services
          (packets ++ rest) h.services_ascend (any_low service_key c.services) h.services_formed,
      members_again packet_key packet_record IsAddressed (read_packet total) (packet_again total) 0 [] c.packets rest
          h.packets_ascend (any_low packet_key c.packets) h.packets_addressed,
    ) refl

-- ---- the result of a call

pub spelled_so : (bytes : List ℕ) (r : Result (Configuration × ℕ) RecordFault) → IsBytes bytes
    → IfOk r (λ f. config_at bytes ≡ Ok (f.0, drop f.1 bytes))
    → IfOk r (λ f. IsConfiguration f.0) × IfOk r (λ f. bytes ≡ config_bytes f.0 ++ drop f.1 bytes)
spelled_so bytes (Ok f) fits read = let front = record_front (length bytes) bytes (f.0, drop f.1 bytes) fits read in
    (front.1, front.0.parts)
spelled_so bytes (Err e) fits read = (tt, tt)

abbrev given : Configuration × List ℕ → Result (Configuration × List ℕ) RecordFault
given x = Ok x

abbrev answer : Configuration × ℕ → Result (Configuration × ℕ) RecordFault
answer x = Ok x

pub read_so : (bytes : List ℕ) (r : Result (Configuration × ℕ) RecordFault)
    → IfOk r (λ f. config_at bytes ≡ Ok (f.0, drop f.1 bytes)) → IfOk r (λ f. f.1 ≡ length (config_bytes f.0))
    → IfErr r (λ e. config_at bytes ≡ Err e) → (c : Configuration) (rest : List ℕ) → IsConfiguration c
    → bytes ≡ config_bytes c ++ rest → r ≡ Ok (c, length (config_bytes c))
read_so bytes (Ok f) read whole fault c rest h e =
    let again = ap config_at e ∙ record_again (length (config_bytes c ++ rest)) c rest h in
    let same : given (f.0, drop f.1 bytes) ≡ given (c, rest) = sym read ∙ again in
    let found : f.0 ≡ c = ap (λ (x : Configuration × List ℕ). x.0) (ok_is (f.0, drop f.1 bytes) (c, rest) same) in
    let size : f.1 ≡ length (config_bytes c) = whole ∙ ap (λ (d : Configuration). length (config_bytes d)) found in
    ap (λ (d : Configuration). answer (d, f.1)) found ∙ ap (λ (n : ℕ). answer (c, n)) size
read_so bytes (Err e) read whole fault c rest h same =
    let again = ap config_at same ∙ record_again (length (config_bytes c ++ rest)) c rest h in
    absurd cc

-- a reading that consumed the whole encoding leaves what follows it
pub left : (bytes : List ℕ) (x : Configuration × List ℕ) → IsBytes bytes → config_at bytes ≡ Ok x
    → (length bytes - length x.1 ≡ length (config_bytes x.0)) × (drop (length bytes - length x.1) bytes ≡ x.1)
    × IsConfiguration x.0
left bytes x fits e =
    let front = record_front (length bytes) bytes x fits e in
    let both = ap length front.0.parts ∙ length-append (config_bytes x.0) x.1 in
    let size : length bytes - length x.1 ≡ length (config_bytes x.0) = omega (arith, both) in (
      size,
      ap (λ (n : ℕ). drop n bytes) size ∙ ap (drop (length (config_bytes x.0))) front.0.parts
          ∙ drop_at (config_bytes x.0) x.1 (length (config_bytes x.0)) refl,
      front.1,
    )

-- ---- one reader after the other

-- the six readings of a record, each by a reader at the position where the previous one stopped
pub read_in_turn : (bytes b0 b1 b2 b3 b4 b5 b6 : List ℕ) (t0 t1 t2 t3 t4 t5 m n k : ℕ) (c : Configuration)
    → b0 ≡ bytes → t0 ≡ length bytes → t1 ≡ t0 → t2 ≡ t1 → t3 ≡ t2 → t4 ≡ t3 → t5 ≡ t4
    → byte_within t0 0 64 b0 ≡ Ok (m, b1) → byte_within t1 0 64 b1 ≡ Ok (n, b2) → byte_within t2 0 64 b2 ≡ Ok (k, b3)
    → members_at sub_key (read_sub t3) 0 [] m b3 ≡ Ok (c.subs, b4)
    → members_at service_key (read_service t4) 0 [] n b4 ≡ Ok (c.services, b5)
    → members_at packet_key (read_packet t5) 0 [] k b5 ≡ Ok (c.packets, b6)
    → config_at bytes ≡ Ok (c, b6)
unfolding record_at
read_in_turn bytes b0 b1 b2 b3 b4 b5 b6 t0 t1 t2 t3 t4 t5 m n k c start all s1 s2 s3 s4 s5 r1 r2 r3 r4 r5 r6 =
    let e1 : t1 ≡ length bytes = s1 ∙ all in
    let e2 : t2 ≡ length bytes = s2 ∙ e1 in
    let e3 : t3 ≡ length bytes = s3 ∙ e2 in
    let e4 : t4 ≡ length bytes = s4 ∙ e3 in
    let e5 : t5 ≡ length bytes = s5 ∙ e4 in
    let q1 : byte_within (length bytes) 0 64 bytes ≡ Ok (m, b1) =
    subst (λ (b : List ℕ). byte_within (length bytes) 0 64 b ≡ Ok (m, b1)) start
    (subst (λ (t : ℕ). byte_within t 0 64 b0 ≡ Ok (m, b1)) all r1) in
    let q2 : byte_within (length bytes) 0 64 b1 ≡ Ok (n, b2) =
    subst (λ (t : ℕ). byte_within t 0 64 b1 ≡ Ok (n, b2)) e1 r2 in
    let q3 : byte_within (length bytes) 0 64 b2 ≡ Ok (k, b3) =
    subst (λ (t : ℕ). byte_within t 0 64 b2 ≡ Ok (k, b3)) e2 r3 in
    let q4 : members_at sub_key (read_sub (length bytes)) 0 [] m b3 ≡ Ok (c.subs, b4) =
    subst (λ (t : ℕ). members_at sub_key (read_sub t) 0 [] m b3 ≡ Ok (c.subs, b4)) e3 r4 in
    let q5 : members_at service_key (read_service (length bytes)) 0 [] n b4 ≡ Ok (c.services, b5) =
    subst (λ (t : ℕ). members_at service_key (read_service t) 0 [] n b4 ≡ Ok (c.services, b5)) e4 r5 in
    let q6 : members_at packet_key (read_packet (length bytes)) 0 [] k b5 ≡ Ok (c.packets, b6) =
    subst (λ (t : ℕ). members_at packet_key (read_packet t) 0 [] k b5 ≡ Ok (c.packets, b6)) e5 r6 in
    rw (q1, q2, q3, q4, q5, q6) refl

-- what is written is read again, whatever follows it
pub written_again : (bytes : List ℕ) (c : Configuration) (rest : List ℕ) → IsConfiguration c → bytes ≡ config_bytes c
    → config_at (bytes ++ rest) ≡ Ok (c, rest)
written_again bytes c rest h e = ap (λ (b : List ℕ). config_at (b ++ rest)) e ∙ record_again _ c rest h
