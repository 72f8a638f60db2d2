-- Bytes that are an entry in the grammar encode an entry.
use Rattle.fib_codec.proofs.Words.{[], ◌%◌, ◌*◌, ◌++◌, ◌+◌, ◌/◌, ◌<◌, ◌∙◌, ◌∷◌, ◌≡◌, ◌⊎◌, AllByRecursion, Bool}
use Rattle.fib_codec.proofs.Words.{ComponentEntry, Head, IfSome, IsComponentEntry, IsCounted, IsEnsembleInformation}
use Rattle.fib_codec.proofs.Words.{IsEntry, IsPacketEntry, IsServiceEntry, IsShortEntry, IsSid, IsSubEntry, List, Long}
use Rattle.fib_codec.proofs.Words.{None, Option, Packet, PacketEntry, ServiceEntry, Short, ShortEntry, Sid, Some, Sound}
use Rattle.fib_codec.proofs.Words.{Stream, SubEntry, ap, ap₂, arith, big_bytes, bit_of, ca_org_bytes, component_u16}
use Rattle.fib_codec.proofs.Words.{components_bytes, cond, ensemble_bytes, ensemble_len, entry_len, eqb, eqb-true}
use Rattle.fib_codec.proofs.Words.{false, inl, inr, is_long_sid, is_some, length, occurrence_bytes, packet_len, refl}
use Rattle.fib_codec.proofs.Words.{service_len, sid_bytes, sub_len, suc, sym, true, zero, ℕ}
use Rattle.mux_types.specs.declared.entry.ComponentEntry.TheVariants.{Other}
use Rattle.fib_codec.specs.Laws.{IsByte, IsSpelled}
use Rattle.mux_types.specs.declared.entry.Entry.TheVariants.{Ensemble as EnsembleOf, Sub as SubOf, Short as ShortOf}
use Rattle.mux_types.specs.declared.entry.Entry.TheVariants.{Service as ServiceOf, Packet as PacketOf}

-- ---- numbers
-- a bit as a flag
flag_of : (n : ℕ) → n < 2 → bit_of (eqb n 1) ≡ n
flag_of (suc (suc n)) h = absurd (omega arith)
flag_of _ h = refl

two_ways : (n : ℕ) → n < 2 → (n ≡ 0) ⊎ (n ≡ 1)
two_ways zero h = inl refl
two_ways (suc zero) h = inr refl
two_ways (suc (suc n)) h = absurd (omega arith)

one_of_four : (n : ℕ) → n < 4 → (n ≡ 0) ⊎ (n ≡ 1) ⊎ (n ≡ 2) ⊎ (n ≡ 3)
one_of_four zero h = inl refl
one_of_four (suc zero) h = inr (inl refl)
one_of_four (suc (suc zero)) h = inr (inr (inl refl))
one_of_four (suc (suc (suc zero))) h = inr (inr (inr refl))
one_of_four (suc (suc (suc (suc n)))) h = absurd (omega arith)

-- the two bytes of a number
u16_bytes : (n high low : ℕ) → n ≡ high * 256 + low → high < 256 → low < 256 → big_bytes 2 n ≡ high ∷ low ∷ []
u16_bytes n high low e h l =
    ap₂ (λ x y. x ∷ y ∷ []) (omega arith) (omega arith)

long_bytes : (n a b c d : ℕ) → n ≡ a * 16777216 + b * 65536 + c * 256 + d → a < 256 → b < 256 → c < 256 → d < 256
    → big_bytes 4 n ≡ a ∷ b ∷ c ∷ d ∷ []
long_bytes n a b c d e p q r s =
    let first : n / 16777216 % 256 ≡ a = omega arith in
    let second : n / 65536 % 256 ≡ b = omega arith in
    let third : n / 256 % 256 ≡ c = omega arith in
    ap₂ (λ x y. x ∷ y ∷ n / 256 % 256 ∷ n % 256 ∷ []) first second ∙ ap₂ (λ x y. a ∷ b ∷ x ∷ y ∷ []) third (omega arith)

-- a choice of two lengths
chosen : (b : Bool) (n x y : ℕ) → n ≡ cond b x y → ((b ≡ true) × (n ≡ x)) ⊎ ((b ≡ false) × (n ≡ y))
chosen true n x y h = inl (refl, h)
chosen false n x y h = inr (refl, h)

-- ---- ensemble information
flagged : (n : ℕ) → eqb n 0 ≡ false → 0 < n
flagged zero h = absurd (cc)
flagged (suc n) h = omega arith

counted_number : (high low : ℕ) → high < 20 → low < 250 → (high * 250 + low < 5000) × ((high * 250 + low) / 250 ≡ high)
    × ((high * 250 + low) % 250 ≡ low)
counted_number high low h l = (omega arith, omega arith, omega arith)

-- the flags' byte of FIG 0/0 and its CIF count, recovered from the two bytes
counted : (a b c d : ℕ) (o : Option ℕ) → a < 256 → b < 256 → c < 256 → d < 250 → c % 32 < 20
    → ensemble_bytes (record {
      eid = a * 256 + b;
      change = c / 64;
      al = eqb (c / 32 % 2) 1;
      count = c % 32 * 250 + d;
      occurrence = o;
    })
    ≡ a ∷ b ∷ c ∷ d ∷ occurrence_bytes o
counted a b c d o p q r s high =
    let number = counted_number (c % 32) d high s in
    let flags = ap₂ (λ x y. c / 64 * 64 + x * 32 + y) (flag_of (c / 32 % 2) (omega arith)) number.1 ∙ (omega arith) in
    ap₂ (λ xs x. xs ++ x ∷ (c % 32 * 250 + d) % 250 ∷ occurrence_bytes o) (u16_bytes (a * 256 + b) a b refl p q) flags
    ∙ ap (λ x. a ∷ b ∷ c ∷ x ∷ occurrence_bytes o) number.2

ensemble_spelled : (head : Head) (bytes : List ℕ) → head.ext ≡ 0 → AllByRecursion IsByte bytes
    → length bytes ≡ ensemble_len bytes → IsCounted bytes
    → IsSpelled head bytes
ensemble_spelled head (a ∷ b ∷ c ∷ []) e all whole count =
    elim (chosen (eqb (c / 64) 0) 3 4 5 whole) [
      | inl both ↦ absurd (omega (arith, both.1))
      | inr both ↦ absurd (omega (arith, both.1))
    ]
ensemble_spelled head (a ∷ b ∷ c ∷ d ∷ []) e all whole count =
    elim (chosen (eqb (c / 64) 0) 4 4 5 whole) [
      | inl both ↦ (
          let within : IsEnsembleInformation
          (record {
            eid = a * 256 + b;
            change = c / 64;
            al = eqb (c / 32 % 2) 1;
            count = c % 32 * 250 + d;
            occurrence = None;
          }) =
          record {
            eid = omega (arith, all.0, all.1.0);
            change = omega (arith, all.1.1.0);
            count = (counted_number (c % 32) d count.0 count.1).0;
            flagged = (λ there. absurd cc, λ some. absurd (omega (arith, some, eqb-true (c / 64) 0 both.0)));
            occurrence = tt;
          } in (
            EnsembleOf (record {
              eid = a * 256 + b;
              change = c / 64;
              al = eqb (c / 32 % 2) 1;
              count = c % 32 * 250 + d;
              occurrence = None;
            }),
            e,
            within,
            counted a b c d None all.0 all.1.0 all.1.1.0 count.1 count.0,
          )
          )
      | inr both ↦ absurd (omega (arith, both.1))
    ]
ensemble_spelled head (a ∷ b ∷ c ∷ d ∷ o ∷ []) e all whole count =
    elim (chosen (eqb (c / 64) 0) 5 4 5 whole) [
      | inl both ↦ absurd (omega (arith, both.1))
      | inr both ↦ (
          let number = counted_number (c % 32) d count.0 count.1 in
          let within : IsEnsembleInformation
          (record {
            eid = a * 256 + b;
            change = c / 64;
            al = eqb (c / 32 % 2) 1;
            count = c % 32 * 250 + d;
            occurrence = Some o;
          }) =
          record {
            eid = omega (arith, all.0, all.1.0);
            change = omega (arith, all.1.1.0);
            count = number.0;
            flagged = (λ there. (flagged (c / 64) both.0), λ more. refl);
            occurrence = all.1.1.1.1.0;
          } in (
            EnsembleOf (record {
              eid = a * 256 + b;
              change = c / 64;
              al = eqb (c / 32 % 2) 1;
              count = c % 32 * 250 + d;
              occurrence = Some o;
            }),
            e,
            within,
            counted a b c d (Some o) all.0 all.1.0 all.1.1.0 count.1 count.0,
          )
          )
    ]
ensemble_spelled head (a ∷ b ∷ c ∷ d ∷ o ∷ p ∷ more) e all whole count =
    elim (chosen (eqb (c / 64) 0) (length (a ∷ b ∷ c ∷ d ∷ o ∷ p ∷ more)) 4 5 whole) [
      | inl both ↦ absurd (omega (arith, both.1))
      | inr both ↦ absurd (omega (arith, both.1))
    ]
ensemble_spelled head _ e all whole count = absurd (omega arith)

-- ---- sub-channels
place_of : (a b : ℕ) → a < 256 → b < 256
    → ((a * 256 + b) / 1024 < 64) × ((a * 256 + b) / 1024 * 1024 + (a * 256 + b) % 1024 ≡ a * 256 + b)
place_of a b p q = (omega arith, omega arith)

long_sub : (head : Head) (a b c d : ℕ) → head.ext ≡ 1 → a < 256 → b < 256 → c < 256 → d < 256 → c / 128 ≡ 1
    → IsSpelled head (a ∷ b ∷ c ∷ d ∷ [])
long_sub head a b c d e p q r s long =
    let place = a * 256 + b in
    let size = c * 256 + d in
    let entry : SubEntry = record {
      id = place / 1024;
      start = place % 1024;
      option = size / 4096 % 8;
      level = size / 1024 % 4;
      size = size % 1024;
    } in
    let within : IsSubEntry entry =
    record {
      id = (place_of a b p q).0;
      start = omega arith;
      option = omega arith;
      level = omega arith;
      size = omega arith;
    } in
    let there : place / 1024 * 1024 + place % 1024 ≡ place = (place_of a b p q).1 in
    (SubOf entry, e, within, ap₂ (λ xs ys. xs ++ ys) (u16_bytes _ a b there p q) (u16_bytes _ c d (omega arith) r s))

short_sub : (head : Head) (a b c : ℕ) → head.ext ≡ 1 → a < 256 → b < 256 → c < 128 → IsSpelled head (a ∷ b ∷ c ∷ [])
short_sub head a b c e p q r =
    let place = a * 256 + b in
    let entry : ShortEntry = record {
      id = place / 1024;
      start = place % 1024;
      switch = eqb (c / 64) 1;
      table = c % 64;
    } in
    let within : IsShortEntry entry = record { id = (place_of a b p q).0; start = omega arith; table = omega arith } in
    let there : place / 1024 * 1024 + place % 1024 ≡ place = (place_of a b p q).1 in
    let switch : bit_of (eqb (c / 64) 1) ≡ c / 64 = flag_of (c / 64) (omega arith) in
    (ShortOf entry, e, within, ap₂ (λ xs x. xs ++ x ∷ []) (u16_bytes _ a b there p q) (rw (switch) (omega arith)))

not_long : (c : ℕ) → c < 256 → eqb (c / 128) 1 ≡ false → c < 128
not_long c p h = elim (one_of_four (c / 128) (omega arith)) [
  | inl none ↦ omega (arith, none)
  | inr (inl one) ↦ (let yes : eqb (c / 128) 1 ≡ true = ap (λ n. eqb n 1) one in absurd cc)
  | inr (inr (inl two)) ↦ absurd (omega (arith, two))
  | inr (inr (inr three)) ↦ absurd (omega (arith, three))
]

sub_spelled : (head : Head) (bytes : List ℕ) → head.ext ≡ 1 → AllByRecursion IsByte bytes → length bytes ≡ sub_len bytes
    → IsSpelled head bytes
sub_spelled head (a ∷ b ∷ c ∷ []) e all whole =
    elim (chosen (eqb (c / 128) 1) 3 4 3 whole) [
      | inl both ↦ absurd (omega (arith, both.1))
      | inr both ↦ short_sub head a b c e all.0 all.1.0 (not_long c all.1.1.0 both.0)
    ]
sub_spelled head (a ∷ b ∷ c ∷ d ∷ []) e all whole =
    elim (chosen (eqb (c / 128) 1) 4 4 3 whole) [
      | inl both ↦ long_sub head a b c d e all.0 all.1.0 all.1.1.0 all.1.1.1.0 (eqb-true (c / 128) 1 both.0)
      | inr both ↦ absurd (omega (arith, both.1))
    ]
sub_spelled head (a ∷ b ∷ c ∷ d ∷ o ∷ more) e all whole =
    elim (chosen (eqb (c / 128) 1) (length (a ∷ b ∷ c ∷ d ∷ o ∷ more)) 4 3 whole) [
      | inl both ↦ absurd (omega (arith, both.1))
      | inr both ↦ absurd (omega (arith, both.1))
    ]
sub_spelled head _ e all whole = absurd (omega arith)

-- ---- services
flags_of : (low : ℕ) → low < 256
    → (bit_of (eqb (low / 2 % 2) 1) ≡ low / 2 % 2) × (bit_of (eqb (low % 2) 1) ≡ low % 2)
flags_of low h = (flag_of (low / 2 % 2) (omega arith), flag_of (low % 2) (omega arith))

-- a component: its bytes, and the kind given by the two highest bits
abbrev IsComponentOf : ℕ → ℕ → ComponentEntry → Type 0
IsComponentOf high low c = IsComponentEntry c × (component_u16 c ≡ high * 256 + low)

component_spelled : (high low : ℕ) → high < 256 → low < 256 → (c : ComponentEntry) × IsComponentOf high low c
component_spelled high low p q =
    let flags = flags_of low q in
    let primary = eqb (low / 2 % 2) 1 in
    let ca = eqb (low % 2) 1 in
    let whole : (top rest : ℕ) → top + rest ≡ high * 256 + low / 4 * 4
    → top + rest + low / 2 % 2 * 2 + low % 2 ≡ high * 256 + low = λ top rest same. omega (arith, same) in
    elim (one_of_four (high / 64) (omega arith)) [
      | inl none ↦ (
        Sound (high % 64) (low / 4) primary ca,
        (
          (omega arith, omega arith),
          ap₂ (λ x y. high % 64 * 256 + low / 4 * 4 + x * 2 + y) flags.0 flags.1
              ∙ whole (high % 64 * 256) (low / 4 * 4) (omega (arith, none)),
        ),
      )
      | inr (inl one) ↦ (
        Stream (high % 64) (low / 4) primary ca,
        (
          (omega arith, omega arith),
          ap₂ (λ x y. 16384 + high % 64 * 256 + low / 4 * 4 + x * 2 + y) flags.0 flags.1
              ∙ whole (16384 + high % 64 * 256) (low / 4 * 4) (omega (arith, one)),
        ),
      )
      | inr (inr (inl two)) ↦ (Other (high % 64 * 256 + low), (omega arith, omega (arith, two)))
      | inr (inr (inr three)) ↦ (
        Packet ((high % 64 * 256 + low) / 4) primary ca,
        (
          omega arith,
          ap₂ (λ x y. 49152 + (high % 64 * 256 + low) / 4 * 4 + x * 2 + y) flags.0 flags.1
              ∙ whole 49152 ((high % 64 * 256 + low) / 4 * 4) (omega (arith, three)),
        ),
      )
    ]

-- two bytes for each component
abbrev AreComponentsOf : ℕ → List ℕ → List ComponentEntry → Type 0
AreComponentsOf n bytes cs = (length cs ≡ n) × AllByRecursion IsComponentEntry cs × (components_bytes cs ≡ bytes)

components_spelled : (n : ℕ) (bytes : List ℕ) → AllByRecursion IsByte bytes → length bytes ≡ 2 * n
    → (cs : List ComponentEntry) × AreComponentsOf n bytes cs
components_spelled zero [] all whole = ([], (refl, tt, refl))
components_spelled (suc n) (a ∷ b ∷ bytes) all whole =
    let first = component_spelled a b all.0 all.1.0 in
    let rest = components_spelled n bytes all.1.1 (omega (arith, whole)) in
    let word = u16_bytes (component_u16 first.0) a b first.1.1 all.0 all.1.0 in
    (first.0 ∷ rest.0, (ap suc rest.1.0, (first.1.0, rest.1.1), ap₂ (λ xs ys. xs ++ ys) word rest.1.2))
components_spelled _ _ all whole = absurd (omega arith)

-- the byte with the number of components
count_byte : (f : ℕ) → f < 256 → bit_of (eqb (f / 128) 1) * 128 + f / 16 % 8 * 16 + f % 16 ≡ f
count_byte f h =
    rw ((flag_of (f / 128) (omega arith))) (omega arith)

service_from : (head : Head) (sid : Sid) (front : List ℕ) (f : ℕ) (bytes : List ℕ) → head.ext ≡ 2
    → head.long ≡ is_long_sid sid
    → IsSid sid → sid_bytes sid ≡ front → f < 256 → AllByRecursion IsByte bytes → length bytes ≡ 2 * (f % 16)
    → IsSpelled head (front ++ f ∷ bytes)
service_from head sid front f bytes e long small same byte all whole =
    let parts = components_spelled (f % 16) bytes all whole in
    let entry : ServiceEntry = record { sid = sid; rfa = eqb (f / 128) 1; ca_id = f / 16 % 8; components = parts.0 } in
    let within : IsServiceEntry entry =
    record { sid = small; ca_id = omega arith; few = omega (arith, parts.1.0); components = parts.1.1 } in
    let flags : bit_of (eqb (f / 128) 1) * 128 + f / 16 % 8 * 16 + length parts.0 ≡ f =
    rw (parts.1.0) (count_byte f byte) in
    (ServiceOf entry, (e, long), within, ap₂ (λ xs ys. xs ++ ys) same (ap₂ (λ x ys. x ∷ ys) flags parts.1.2))

service_spelled : (head : Head) (long : Bool) (bytes : List ℕ) → head.long ≡ long → head.ext ≡ 2
    → AllByRecursion IsByte bytes
    → length bytes ≡ service_len long bytes → IsSpelled head bytes
service_spelled head false (a ∷ b ∷ f ∷ bytes) l e all whole =
    service_from head (Short (a * 256 + b)) (a ∷ b ∷ []) f bytes e l (omega (arith, all.0, all.1.0))
    (u16_bytes _ a b refl all.0 all.1.0)
    all.1.1.0 all.1.1.1 (omega (arith, whole))
service_spelled head true (a ∷ b ∷ c ∷ d ∷ f ∷ bytes) l e all whole =
    let n = a * 16777216 + b * 65536 + c * 256 + d in
    service_from head (Long n) (a ∷ b ∷ c ∷ d ∷ []) f bytes e l (omega (arith, all.0, all.1.0, all.1.1.0, all.1.1.1.0))
    (long_bytes n a b c d refl all.0 all.1.0 all.1.1.0 all.1.1.1.0) all.1.1.1.1.0 all.1.1.1.1.1 (omega (arith, whole))
service_spelled head _ _ l e all whole = absurd (omega arith)

-- ---- packet components
packet_front : (a b : ℕ) → a < 256 → b < 256
    → ((a * 256 + b) / 16 < 4096) × ((a * 256 + b) / 16 * 16 + b / 2 % 8 * 2 + b % 2 ≡ a * 256 + b)
packet_front a b p q = (omega arith, omega arith)

packet_flags : (c : ℕ) → c < 256 → bit_of (eqb (c / 128) 1) * 128 + bit_of (eqb (c / 64 % 2) 1) * 64 + c % 64 ≡ c
packet_flags c h =
    let rfu : bit_of (eqb (c / 64 % 2) 1) ≡ c / 64 % 2 = flag_of (c / 64 % 2) (omega arith) in
    ap₂ (λ x y. x * 128 + y * 64 + c % 64) (flag_of (c / 128) (omega arith)) rfu ∙ (omega arith)

packet_from : (head : Head) (a b c f g : ℕ) (org : Option ℕ) → head.ext ≡ 3 → a < 256 → b < 256 → c < 256 → f < 256
    → g < 256
    → IfSome org (λ n. n < 65536) → bit_of (is_some org) ≡ b % 2 → IsSpelled head (a ∷ b ∷ c ∷ f ∷ g ∷ ca_org_bytes org)
packet_from head a b c f g org e p q r s t small has =
    let place = f * 256 + g in
    let front = packet_front a b p q in
    let entry : PacketEntry = record {
      scid = (a * 256 + b) / 16;
      rfa = b / 2 % 8;
      ca_org = org;
      dg = eqb (c / 128) 1;
      rfu = eqb (c / 64 % 2) 1;
      ty = c % 64;
      sub = place / 1024;
      address = place % 1024;
    } in
    let within : IsPacketEntry entry =
    record {
      scid = front.0;
      rfa = omega arith;
      ty = omega arith;
      sub = (place_of f g s t).0;
      address = omega arith;
      ca_org = small;
    } in
    let first = u16_bytes _ a b (rw (has) front.1) p q in
    let second : big_bytes 2 (place / 1024 * 1024 + place % 1024) ≡ f ∷ g ∷ [] =
    u16_bytes _ f g ((place_of f g s t).1) s t in (
      PacketOf entry,
      e,
      within,
      ap₂ (λ xs x. xs ++ x ∷ (big_bytes 2 (place / 1024 * 1024 + place % 1024) ++ ca_org_bytes org)) first
          (packet_flags c r)
          ∙ ap (λ xs. a ∷ b ∷ c ∷ (xs ++ ca_org_bytes org)) second,
    )

even_byte : (b : ℕ) → eqb (b % 2) 1 ≡ false → 0 ≡ b % 2
even_byte b h = elim (two_ways (b % 2) (omega arith)) [
  | inl none ↦ sym none
  | inr one ↦ (let yes : eqb (b % 2) 1 ≡ true = ap (λ n. eqb n 1) one in absurd cc)
]

packet_spelled : (head : Head) (bytes : List ℕ) → head.ext ≡ 3 → AllByRecursion IsByte bytes
    → length bytes ≡ packet_len bytes → IsSpelled head bytes
packet_spelled head (a ∷ b ∷ []) e all whole =
    elim (chosen (eqb (b % 2) 1) 2 7 5 whole) [
      | inl both ↦ absurd (omega (arith, both.1))
      | inr both ↦
          absurd (omega (arith, both.1))
    ]
packet_spelled head (a ∷ b ∷ c ∷ []) e all whole =
    elim (chosen (eqb (b % 2) 1) 3 7 5 whole) [
      | inl both ↦ absurd (omega (arith, both.1))
      | inr both ↦
          absurd (omega (arith, both.1))
    ]
packet_spelled head (a ∷ b ∷ c ∷ d ∷ []) e all whole =
    elim (chosen (eqb (b % 2) 1) 4 7 5 whole) [
      | inl both ↦ absurd (omega (arith, both.1))
      | inr both ↦
          absurd (omega (arith, both.1))
    ]
packet_spelled head (a ∷ b ∷ c ∷ f ∷ g ∷ []) e all whole =
    elim (chosen (eqb (b % 2) 1) 5 7 5 whole) [
      | inl both ↦ absurd (omega (arith, both.1))
      | inr both ↦ packet_from head a b c f g None e all.0 all.1.0 all.1.1.0 all.1.1.1.0 all.1.1.1.1.0 tt
          (even_byte b both.0)
    ]
packet_spelled head (a ∷ b ∷ c ∷ f ∷ g ∷ h ∷ []) e all whole =
    elim (chosen (eqb (b % 2) 1) 6 7 5 whole) [
      | inl both ↦ absurd (omega (arith, both.1))
      | inr both ↦
          absurd (omega (arith, both.1))
    ]
packet_spelled head (a ∷ b ∷ c ∷ f ∷ g ∷ h ∷ i ∷ []) e all whole =
    elim (chosen (eqb (b % 2) 1) 7 7 5 whole) [
      | inl both ↦ (
          let org : big_bytes 2 (h * 256 + i) ≡ h ∷ i ∷ [] = u16_bytes _ h i refl all.1.1.1.1.1.0 all.1.1.1.1.1.1.0 in
          let made = packet_from head a b c f g (Some (h * 256 + i)) e all.0 all.1.0 all.1.1.0 all.1.1.1.0 all.1.1.1.1.0
          (omega (arith, all.1.1.1.1.1.0, all.1.1.1.1.1.1.0)) (sym (eqb-true (b % 2) 1 both.0)) in
          (made.0, made.1, made.2, made.3 ∙ ap (λ xs. a ∷ b ∷ c ∷ f ∷ g ∷ xs) org)
          )
      | inr both ↦ absurd (omega (arith, both.1))
    ]
packet_spelled head (a ∷ b ∷ c ∷ f ∷ g ∷ h ∷ i ∷ j ∷ more) e all whole =
    elim (chosen (eqb (b % 2) 1) (length (a ∷ b ∷ c ∷ f ∷ g ∷ h ∷ i ∷ j ∷ more)) 7 5 whole) [
      | inl both ↦ absurd (omega (arith, both.1))
      | inr both ↦ absurd (omega (arith, both.1))
    ]
packet_spelled head _ e all whole = absurd (omega arith)

-- ---- every entry
pub entry_spelled : (head : Head) (bytes : List ℕ) → head.ext < 4 → AllByRecursion IsByte bytes
    → IsEntry head.ext head.long bytes
    → (head.ext ≡ 0 → IsCounted bytes) → IsSpelled head bytes
entry_spelled head bytes small all whole count =
    let length_at = λ (x : ℕ). entry_len x head.long bytes in
    elim (one_of_four head.ext small) [
      | inl none ↦ ensemble_spelled head bytes none all (whole ∙ ap length_at none) (count none)
      | inr (inl one) ↦ sub_spelled head bytes one all (whole ∙ ap length_at one)
      | inr (inr (inl two)) ↦ service_spelled head head.long bytes refl two all (whole ∙ ap length_at two)
      | inr (inr (inr three)) ↦ packet_spelled head bytes three all (whole ∙ ap length_at three)
    ]
