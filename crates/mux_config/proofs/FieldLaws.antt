-- A field that is read is the field that was encoded, and what is encoded is read again.
use Rattle.mux_config.proofs.Words.{[], ◌++◌, ◌+◌, ◌<◌, ◌>>=◌, ◌∙◌, ◌∷◌, ◌≡◌, ◌≤◌, A, B, Bool, Component, EepSet, Err}
use Rattle.mux_config.proofs.Words.{Field, IsComponent, IsSid, List, Ok, Profile, RecordFault, Result, Short, Sid}
use Rattle.mux_config.proofs.Words.{Sound, Stream, Width, ap, append_assoc, arith, byte_at, byte_len, byte_within}
use Rattle.mux_config.proofs.Words.{cases_lt, component_bytes, cond, drop, drop_at, eqb, false, flag_at, flag_byte}
use Rattle.mux_config.proofs.Words.{from_be_bytes, get_or, get_or-drop, get_or-take, get_or_past, inl, inr, judged}
use Rattle.mux_config.proofs.Words.{le-ltb, length, length-append, length-take, ltb, ltb-false, number_at, place}
use Rattle.mux_config.proofs.Words.{protection_bytes, refl, refuse, set_byte, set_of, sid_field, sid_of_kind, subst}
use Rattle.mux_config.proofs.Words.{suc, sym, take, take-append-drop, take_at, to_be_bytes, true, u16_bytes}
use Rattle.mux_config.proofs.Words.{u16_in_range, w16, w32, zero, ℕ}
use Rattle.std.proofs.lemmas.Nat.{be_bytes_2, be_bytes_4, from_be_bytes-to_be_bytes_2, from_be_bytes-to_be_bytes_4}
use Rattle.mux_types.specs.declared.parts.Component.TheVariants.{Packet as InPackets}
use Rattle.mux_types.specs.declared.numbers.Sid.TheVariants.{Short as ShortSid, Long as LongSid}
use Rattle.mux_config.specs.FieldReading.{protection_at, sid_at, component_of, component_at}

abbrev pub IsBytes : List ℕ → Type 0
IsBytes bytes = (i : ℕ) → get_or bytes i 0 < 256

IsBytes-drop : (n : ℕ) (bytes : List ℕ) → IsBytes bytes → IsBytes (drop n bytes)
IsBytes-drop n bytes h i = rw get_or-drop (h (n + i))

IsBytes-take : (n : ℕ) (bytes : List ℕ) → IsBytes bytes → IsBytes (take n bytes)
IsBytes-take n bytes h i =
    elim (cases_lt i n) [
      | inl lt ↦ rw (get_or-take n bytes i 0 lt) (h i)
      | inr le ↦ rw (get_or_past (take n bytes) i 0 (omega (arith, length-take n bytes))) (omega arith)
    ]

IsBytes-rest : (b : ℕ) (bytes : List ℕ) → IsBytes (b ∷ bytes) → IsBytes bytes
IsBytes-rest b bytes h i = h (suc i)

-- ---- steps that did not fail

pub bind_ok : {A B : Type 0} (r : Result A RecordFault) (f : A → Result B RecordFault) (y : B) → (r >>= f) ≡ Ok y
    → (x : A) × (r ≡ Ok x) × (f x ≡ Ok y)
bind_ok (Ok x) f y e = (x, refl, e)
bind_ok (Err d) f y e = absurd cc

pub refuse_ok : {B : Type 0} (test : Bool) (fault : RecordFault) (f : Unit {0} → Result B RecordFault) (y : B)
    → (refuse test fault >>= f) ≡ Ok y → (test ≡ false) × (f tt ≡ Ok y)
refuse_ok true fault f y e = absurd cc
refuse_ok false fault f y e = (refl, e)

pub guard_ok : {A : Type 0} (b : Bool) (d : RecordFault) (r : Result A RecordFault) (y : A) → cond b (Err d) r ≡ Ok y
    → (b ≡ false) × (r ≡ Ok y)
guard_ok true d r y e = absurd cc
guard_ok false d r y e = (refl, e)

abbrev pub done : {A : Type 0} → A → Result A RecordFault
done x = Ok x

pub ok_is : {A : Type 0} (x y : A) → done x ≡ done y → x ≡ y
ok_is x y e = cc

-- what a reading consumed from the front
pub record Front (bytes text rest : List ℕ) : Type 0 where
  pub parts : bytes ≡ text ++ rest
  pub rest_fits : IsBytes rest

pub front_then : (a x b y c : List ℕ) → Front a x b → Front b y c → Front a (x ++ y) c
front_then a x b y c p q = record {
  parts = p.parts ∙ ap (λ (t : List ℕ). x ++ t) q.parts
      ∙ sym (append_assoc x y c);
  rest_fits = q.rest_fits;
}

-- ---- numbers

record IsWide (w : Width) (limit : ℕ) : Type 0 where
  len : (n : ℕ) → length (to_be_bytes w n) ≡ byte_len w
  back : (bytes : List ℕ) → length bytes ≡ byte_len w → IsBytes bytes → to_be_bytes w (from_be_bytes w bytes) ≡ bytes
  again : (n : ℕ) → n < limit → from_be_bytes w (to_be_bytes w n) ≡ n
  below : (bytes : List ℕ) → IsBytes bytes → from_be_bytes w bytes < limit

wide16 : IsWide w16 65536
wide16 = record {
  len = λ n. refl;
  back = λ bytes len fits. be_bytes_2 bytes _ len fits refl;
  again = λ n lt. from_be_bytes-to_be_bytes_2 n lt;
  below = λ bytes fits. omega (arith, fits 0, fits 1);
}

wide32 : IsWide w32 4294967296
wide32 = record {
  len = λ n. refl;
  back = λ bytes len fits. be_bytes_4 bytes _ len fits refl;
  again = λ n lt. from_be_bytes-to_be_bytes_4 n lt;
  below = λ bytes fits. omega (arith, fits 0, fits 1, fits 2, fits 3);
}

number_front : (w : Width) (limit : ℕ) (wide : IsWide w limit) (bytes : List ℕ) (x : ℕ × List ℕ) → IsBytes bytes
    → number_at w bytes ≡ Ok x
    → Front bytes (to_be_bytes w x.0) x.1 × (x.0 < limit)
number_front w limit wide bytes x fits e =
    let g = guard_ok _ Short _ x e in
    let long : byte_len w ≤ length bytes = ltb-false _ _ g.0 in
    let made : ℕ × List ℕ = (from_be_bytes w (take (byte_len w) bytes), drop (byte_len w) bytes) in
    let front : to_be_bytes w (from_be_bytes w (take (byte_len w) bytes)) ≡ take (byte_len w) bytes =
    wide.back (take (byte_len w) bytes) (omega (arith, length-take (byte_len w) bytes)) (IsBytes-take _ bytes fits) in
    subst (λ (y : ℕ × List ℕ). Front bytes (to_be_bytes w y.0) y.1 × (y.0 < limit)) (ok_is made x g.1) (
      record {
        parts = rw front (sym (take-append-drop (byte_len w) bytes));
        rest_fits = IsBytes-drop (byte_len w) bytes fits;
      },
      wide.below (take (byte_len w) bytes) (IsBytes-take (byte_len w) bytes fits),
    )

number_again : (w : Width) (limit : ℕ) (wide : IsWide w limit) (n : ℕ) (rest : List ℕ) → n < limit
    → number_at w (to_be_bytes w n ++ rest) ≡ Ok (n, rest)
number_again w limit wide n rest lt =
    let len = wide.len n in
    let long : ltb (length (to_be_bytes w n ++ rest)) (byte_len w) ≡ false =
    le-ltb _ _ (omega (arith, length-append (to_be_bytes w n) rest)) in
    rw (
      long,
      take_at (to_be_bytes w n) rest (byte_len w) len,
      drop_at (to_be_bytes w n) rest (byte_len w) len,
      wide.again n lt,
    ) refl

pub word_front : (bytes : List ℕ) (x : ℕ × List ℕ) → IsBytes bytes → number_at w16 bytes ≡ Ok x
    → Front bytes (u16_bytes x.0) x.1 × (x.0 < 65536)
word_front bytes x fits e = number_front w16 65536 wide16 bytes x fits e

pub word_again : (n : ℕ) (rest : List ℕ) → n < 65536 → number_at w16 (u16_bytes n ++ rest) ≡ Ok (n, rest)
word_again n rest lt = number_again w16 65536 wide16 n rest lt

pub long_front : (bytes : List ℕ) (x : ℕ × List ℕ) → IsBytes bytes → number_at w32 bytes ≡ Ok x
    → Front bytes (to_be_bytes w32 x.0) x.1 × (x.0 < 4294967296)
long_front bytes x fits e = number_front w32 4294967296 wide32 bytes x fits e

pub long_again : (n : ℕ) (rest : List ℕ) → n < 4294967296 → number_at w32 (to_be_bytes w32 n ++ rest) ≡ Ok (n, rest)
long_again n rest lt = number_again w32 4294967296 wide32 n rest lt

pub byte_front : (bytes : List ℕ) (x : ℕ × List ℕ) → IsBytes bytes → byte_at bytes ≡ Ok x → Front bytes (x.0 ∷ []) x.1
byte_front [] x fits e = absurd cc
byte_front (b ∷ bytes) x fits e =
    rw (← ok_is (b, bytes) x e) (record { parts = refl; rest_fits = IsBytes-rest b bytes fits })

-- ---- numbers within a range

judged_ok : (at low high : ℕ) (n x : ℕ × List ℕ) → judged at low high n ≡ Ok x → (n ≡ x) × (low ≤ x.0) × (x.0 ≤ high)
judged_ok at low high n x e =
    let g = guard_ok (ltb n.0 low) (Field at) (cond (ltb high n.0) (Err (Field at)) (Ok n)) x e in
    let h = guard_ok (ltb high n.0) (Field at) (Ok n) x g.1 in
    let same : n ≡ x = ok_is n x h.1 in
    subst (λ (y : ℕ × List ℕ). (n ≡ y) × (low ≤ y.0) × (y.0 ≤ high)) same (refl, ltb-false _ _ g.0, ltb-false _ _ h.0)

judged_again : (at low high : ℕ) (n : ℕ × List ℕ) → low ≤ n.0 → n.0 ≤ high → judged at low high n ≡ Ok n
judged_again at low high n from to = rw (le-ltb _ _ from, le-ltb _ _ to) refl

pub byte_within_front : (total low high : ℕ) (bytes : List ℕ) (x : ℕ × List ℕ) → IsBytes bytes
    → byte_within total low high bytes ≡ Ok x
    → Front bytes (x.0 ∷ []) x.1 × (low ≤ x.0) × (x.0 ≤ high)
byte_within_front total low high bytes x fits e =
    let b = bind_ok (byte_at bytes) (judged (place total bytes) low high) x e in
    let j = judged_ok (place total bytes) low high b.0 x b.2 in
    (byte_front bytes x fits (b.1 ∙ ap done j.0), j.1, j.2)

pub byte_within_again : (total low high b : ℕ) (rest : List ℕ) → low ≤ b → b ≤ high
    → byte_within total low high (b ∷ rest) ≡ Ok (b, rest)
byte_within_again total low high b rest from to = judged_again _ low high (b, rest) from to

pub word_within_front : (total low high : ℕ) (bytes : List ℕ) (x : ℕ × List ℕ) → IsBytes bytes
    → u16_in_range total low high bytes ≡ Ok x
    → Front bytes (u16_bytes x.0) x.1 × (low ≤ x.0) × (x.0 ≤ high)
word_within_front total low high bytes x fits e =
    let b = bind_ok (number_at w16 bytes) (judged (place total bytes) low high) x e in
    let j = judged_ok (place total bytes) low high b.0 x b.2 in
    ((word_front bytes x fits (b.1 ∙ ap done j.0)).0, j.1, j.2)

pub word_within_again : (total low high n : ℕ) (rest : List ℕ) → low ≤ n → n ≤ high → high < 65536
    → u16_in_range total low high (u16_bytes n ++ rest) ≡ Ok (n, rest)
word_within_again total low high n rest from to small =
    rw (word_again n rest (omega (arith, to, small))) (judged_again _ low high (n, rest) from to)

-- ---- flags and protection profiles

flag_is : (n : ℕ) → n ≤ 1 → flag_byte (eqb n 1) ≡ n
flag_is (suc (suc n)) small = absurd (omega (arith, small))
flag_is _ small = refl

pub flag_front : (total : ℕ) (bytes : List ℕ) (x : Bool × List ℕ) → IsBytes bytes → flag_at total bytes ≡ Ok x
    → Front bytes (flag_byte x.0 ∷ []) x.1
flag_front total bytes x fits e =
    let b = bind_ok (byte_within total 0 1 bytes) (λ n. Ok (eqb n.0 1, n.1)) x e in
    let f = byte_within_front total 0 1 bytes b.0 fits b.1 in
    let made : Bool × List ℕ = (eqb b.0.0 1, b.0.1) in
    subst (λ (y : Bool × List ℕ). Front bytes (flag_byte y.0 ∷ []) y.1) (ok_is made x b.2) (rw (flag_is b.0.0 f.2) f.0)

pub flag_again : (total : ℕ) (flag : Bool) (rest : List ℕ) → flag_at total (flag_byte flag ∷ rest) ≡ Ok (flag, rest)
flag_again total true rest = refl
flag_again total false rest = refl

set_is : (n : ℕ) → n ≤ 1 → set_byte (set_of n) ≡ n
set_is (suc (suc n)) small = absurd (omega (arith, small))
set_is _ small = refl

pub protection_front : (total : ℕ) (bytes : List ℕ) (x : Profile × List ℕ) → IsBytes bytes
    → protection_at total bytes ≡ Ok x
    → Front bytes (protection_bytes x.0) x.1 × (1 ≤ x.0.level) × (x.0.level ≤ 4)
unfolding protection_at
protection_front total bytes x fits e =
    let a = bind_ok (byte_within total 0 1 bytes) _ x e in
    let f = byte_within_front total 0 1 bytes a.0 fits a.1 in
    let b = bind_ok (byte_within total 1 4 a.0.1) _ x a.2 in
    let g = byte_within_front total 1 4 a.0.1 b.0 f.0.rest_fits b.1 in
    rw (← ok_is (record { set = set_of a.0.0; level = b.0.0 }, b.0.1) x b.2)
    (rw (set_is a.0.0 f.2) (front_then bytes (a.0.0 ∷ []) a.0.1 (b.0.0 ∷ []) b.0.1 f.0 g.0), g.1, g.2)

set_again : (total : ℕ) (s : EepSet) (rest : List ℕ) → byte_within total 0 1 (set_byte s ∷ rest) ≡ Ok (set_byte s, rest)
set_again total A rest = refl
set_again total B rest = refl

set_back : (s : EepSet) → set_of (set_byte s) ≡ s
set_back A = refl
set_back B = refl

pub protection_again : (total : ℕ) (p : Profile) (rest : List ℕ) → 1 ≤ p.level → p.level ≤ 4
    → protection_at total (protection_bytes p ++ rest) ≡ Ok (p, rest)
unfolding protection_at
protection_again total p rest from to =
    rw (set_again total p.set (p.level ∷ rest), byte_within_again total 1 4 p.level rest from to, set_back p.set) refl

-- ---- SIds

sid_kind_front : (k : ℕ) (bytes : List ℕ) (x : Sid × List ℕ) → k ≤ 1 → IsBytes bytes → sid_of_kind k bytes ≡ Ok x
    → (text : List ℕ) × Front bytes text x.1 × (sid_field x.0 ≡ k ∷ text) × IsSid x.0
sid_kind_front zero bytes x small fits e =
    let b = bind_ok (number_at w16 bytes) (λ n. Ok (ShortSid n.0, n.1)) x e in
    let f = word_front bytes b.0 fits b.1 in
    rw (← ok_is (ShortSid b.0.0, b.0.1) x b.2) (u16_bytes b.0.0, f.0, refl, f.1)
sid_kind_front (suc zero) bytes x small fits e =
    let b = bind_ok (number_at w32 bytes) (λ n. Ok (LongSid n.0, n.1)) x e in
    let f = long_front bytes b.0 fits b.1 in
    rw (← ok_is (LongSid b.0.0, b.0.1) x b.2) (to_be_bytes w32 b.0.0, f.0, refl, f.1)
sid_kind_front (suc (suc k)) bytes x small fits e = absurd (omega (arith, small))

pub sid_front : (total : ℕ) (bytes : List ℕ) (x : Sid × List ℕ) → IsBytes bytes → sid_at total bytes ≡ Ok x
    → Front bytes (sid_field x.0) x.1 × IsSid x.0
unfolding sid_at
sid_front total bytes x fits e =
    let a = bind_ok (byte_within total 0 1 bytes) _ x e in
    let f = byte_within_front total 0 1 bytes a.0 fits a.1 in
    let s = sid_kind_front a.0.0 a.0.1 x f.2 f.0.rest_fits a.2 in
    (rw s.2 (front_then bytes (a.0.0 ∷ []) a.0.1 s.0 x.1 f.0 s.1), s.3)

pub sid_again : (total : ℕ) (sid : Sid) (rest : List ℕ) → IsSid sid
    → sid_at total (sid_field sid ++ rest) ≡ Ok (sid, rest)
unfolding sid_at
sid_again total (ShortSid n) rest fits = rw (word_again n rest fits) refl
sid_again total (LongSid n) rest fits = rw (long_again n rest fits) refl

-- ---- components

abbrev IsRest : (tmid : ℕ) → List ℕ → Component × List ℕ → Type 0
IsRest tmid bytes x = (text : List ℕ) × Front bytes text x.1 × (component_bytes x.0 ≡ tmid ∷ text) × IsComponent x.0

component_of_front : (total at tmid : ℕ) (bytes : List ℕ) (x : Component × List ℕ) → IsBytes bytes
    → component_of total at tmid bytes ≡ Ok x → IsRest tmid bytes x
unfolding component_of
component_of_front total at zero bytes x fits e =
    let a = bind_ok (byte_within total 0 63 bytes) _ x e in
    let f = byte_within_front total 0 63 bytes a.0 fits a.1 in
    let b = bind_ok (byte_within total 0 63 a.0.1) _ x a.2 in
    let g = byte_within_front total 0 63 a.0.1 b.0 f.0.rest_fits b.1 in
    subst (IsRest 0 bytes) (ok_is (Sound a.0.0 b.0.0, b.0.1) x b.2)
    (a.0.0 ∷ b.0.0 ∷ [], front_then bytes _ a.0.1 _ b.0.1 f.0 g.0, refl, (omega (arith, f.2), omega (arith, g.2)))
component_of_front total at (suc zero) bytes x fits e =
    let a = bind_ok (byte_within total 0 63 bytes) _ x e in
    let f = byte_within_front total 0 63 bytes a.0 fits a.1 in
    let b = bind_ok (byte_within total 0 63 a.0.1) _ x a.2 in
    let g = byte_within_front total 0 63 a.0.1 b.0 f.0.rest_fits b.1 in
    subst (IsRest 1 bytes) (ok_is (Stream a.0.0 b.0.0, b.0.1) x b.2)
    (a.0.0 ∷ b.0.0 ∷ [], front_then bytes _ a.0.1 _ b.0.1 f.0 g.0, refl, (omega (arith, f.2), omega (arith, g.2)))
component_of_front total at (suc (suc (suc zero))) bytes x fits e =
    let a = bind_ok (u16_in_range total 0 4095 bytes) _ x e in
    let f = word_within_front total 0 4095 bytes a.0 fits a.1 in
    subst (IsRest 3 bytes) (ok_is (InPackets a.0.0, a.0.1) x a.2) (u16_bytes a.0.0, f.0, refl, omega (arith, f.2))
component_of_front total at _ bytes x fits e = absurd cc

pub component_front : (total : ℕ) (bytes : List ℕ) (x : Component × List ℕ) → IsBytes bytes
    → component_at total bytes ≡ Ok x
    → Front bytes (component_bytes x.0) x.1 × IsComponent x.0
unfolding component_at
component_front total bytes x fits e =
    let a = bind_ok (byte_at bytes) _ x e in
    let f = byte_front bytes a.0 fits a.1 in
    let s = component_of_front total (place total bytes) a.0.0 a.0.1 x f.rest_fits a.2 in
    (rw s.2 (front_then bytes (a.0.0 ∷ []) a.0.1 s.0 x.1 f s.1), s.3)

pub component_again : (total : ℕ) (c : Component) (rest : List ℕ) → IsComponent c
    → component_at total (component_bytes c ++ rest) ≡ Ok (c, rest)
unfolding component_at component_of
component_again total (Sound ty sub) rest fits =
    rw (
      byte_within_again total 0 63 ty (sub ∷ rest) (omega arith) (omega (arith, fits.0)),
      byte_within_again total 0 63 sub rest (omega arith) (omega (arith, fits.1)),
    ) refl
component_again total (Stream ty sub) rest fits =
    rw (
      byte_within_again total 0 63 ty (sub ∷ rest) (omega arith) (omega (arith, fits.0)),
      byte_within_again total 0 63 sub rest (omega arith) (omega (arith, fits.1)),
    ) refl
component_again total (InPackets scid) rest fits =
    rw (word_within_again total 0 4095 scid rest (omega arith) (omega (arith, fits)) (omega arith)) refl
