-- Reading the header of a code file and spelling it are inverse.
use Rattle.plan_code.proofs.Words.{[], ◌++◌, ◌-◌, ◌<◌, ◌>>=◌, ◌∙◌, ◌∷◌, ◌≡◌, ◌≤◌, Bool, CodeFault, Err}
use Rattle.plan_code.proofs.Words.{Front, Header, I, II, III, IV, IsBytes, IsPlan, Limit, List, Magic, Ok, Plan}
use Rattle.plan_code.proofs.Words.{RecordFault, ReserveOne, ReserveTwo, Result, Version, Whole, ap, append_assoc, arith}
use Rattle.plan_code.proofs.Words.{byte_at, byte_front, byte_of, byte_within, cases_eq, cond, count_at, eq-eqb, eqb}
use Rattle.plan_code.proofs.Words.{eqb-false, eqb-true, false, fib_count, front_then, header_bytes, in_file, inl, inr}
use Rattle.plan_code.proofs.Words.{layout_bytes, layout_in, le-ltb, long_again, long_front, ltb, ltb-false, magic}
use Rattle.plan_code.proofs.Words.{magic_at, mode_bytes, mode_of, ne_eqb, not, number_at, plan_after, plan_bytes}
use Rattle.plan_code.proofs.Words.{read_from, refl, refuse_code, reserving, subst, suc, sym, to_be_bytes, true, w16}
use Rattle.plan_code.proofs.Words.{w32, zero, ℕ}
use Rattle.fib_codec.specs.declared.frame_layout.FrameLayout.{FrameLayout}
use Rattle.mux_config.specs.FieldSpelling.{u16_bytes}
use Rattle.plan_code.specs.Reading.{reserving_at, layout_at, plan_at, header_at}
use Rattle.plan_code.proofs.FormatLaws.{IsLawful, ◌then◌, made_is, byte_is, any_u16_is}

-- ---- steps without a fault

pub then_ok : {A B : Type 0} (r : Result A CodeFault) (f : A → Result B CodeFault) (y : B) → (r >>= f) ≡ Ok y → (x : A)
    × (r ≡ Ok x) × (f x ≡ Ok y)
then_ok (Ok x) f y e = (x, refl, e)
then_ok (Err d) f y e = absurd cc

pub refuse_then : {B : Type 0} (test : Bool) (fault : CodeFault) (f : Unit {0} → Result B CodeFault) (y : B)
    → (refuse_code test fault >>= f) ≡ Ok y → (test ≡ false) × (f tt ≡ Ok y)
refuse_then true fault f y e = absurd cc
refuse_then false fault f y e = (refl, e)

abbrev pub given : {A : Type 0} → A → Result A CodeFault
given x = Ok x

pub given_is : {A : Type 0} (x y : A) → given x ≡ given y → x ≡ y
given_is x y e = cc

pub read_ok : {A : Type 0} (start : ℕ) (r : Result A RecordFault) (x : A) → read_from start r ≡ Ok x → r ≡ Ok x
read_ok start (Ok y) x e = cc
read_ok start (Err d) x e = absurd cc

pub ok_read : {A : Type 0} (start : ℕ) (r : Result A RecordFault) (x : A) → r ≡ Ok x → read_from start r ≡ Ok x
ok_read start r x e = rw e refl

-- ---- the header

pub not_false : (b : Bool) → not b ≡ false → b ≡ true
not_false true e = refl
not_false false e = absurd cc

magic_front : (bytes : List ℕ) (x : ℕ × List ℕ) → IsBytes bytes → magic_at bytes ≡ Ok x
    → Front bytes (to_be_bytes w32 magic) x.1
magic_front bytes x fits e =
    let a = then_ok (in_file (number_at w32 bytes)) _ x e in
    let f = long_front bytes a.0 fits (read_ok 0 _ a.0 a.1) in
    let k = refuse_then (not (eqb a.0.0 magic)) Magic (λ known. given a.0) x a.2 in
    let here = subst (λ (n : ℕ). Front bytes (to_be_bytes w32 n) a.0.1) (eqb-true _ _ (not_false _ k.0)) f.0 in
    subst (λ (y : ℕ × List ℕ). Front bytes (to_be_bytes w32 magic) y.1) (given_is a.0 x k.1) here

magic_again : (rest : List ℕ) → magic_at (to_be_bytes w32 magic ++ rest) ≡ Ok (magic, rest)
magic_again rest = rw (ok_read 0 _ _ (long_again magic rest (omega arith))) refl

number_bytes : (n : ℕ) → 2 ≤ n → n ≤ 4 → mode_bytes (mode_of n) ≡ 2 ∷ n ∷ []
number_bytes zero from to = absurd (omega (arith, from))
number_bytes (suc zero) from to = absurd (omega (arith, from))
number_bytes (suc (suc zero)) from to = refl
number_bytes (suc (suc (suc zero))) from to = refl
number_bytes (suc (suc (suc (suc zero)))) from to = refl
number_bytes (suc (suc (suc (suc (suc more))))) from to = absurd (omega (arith, to))

first_version : (bytes rest : List ℕ) (x : FrameLayout × List ℕ)
    → (let first : FrameLayout × List ℕ = (Whole I, rest) in given first) ≡ Ok x → Front bytes (byte_of 1) rest
    → Front bytes (layout_bytes x.0) x.1
first_version bytes rest x e front =
    subst (λ (y : FrameLayout × List ℕ). Front bytes (layout_bytes y.0) y.1) (given_is (Whole I, rest) x e) front

second_version : (total : ℕ) (bytes rest : List ℕ) (x : FrameLayout × List ℕ)
    → (in_file (byte_within total 2 4 rest) >>= λ number. let found : FrameLayout
    × List ℕ = (Whole (mode_of number.0), number.1) in given found) ≡ Ok x
    → Front bytes (byte_of 2) rest → Front bytes (layout_bytes x.0) x.1
second_version total bytes rest x e front =
    let n = then_ok (in_file (byte_within total 2 4 rest)) _ x e in
    let fn = (byte_is 2 4).front total rest n.0 front.rest_fits (read_ok 0 _ n.0 n.1) in
    let found : FrameLayout × List ℕ = (Whole (mode_of n.0.0), n.0.1) in
    let both = front_then bytes (byte_of 2) rest (byte_of n.0.0) n.0.1 front fn.0 in
    let here = subst (λ (t : List ℕ). Front bytes t n.0.1) (sym (number_bytes n.0.0 fn.1.0 fn.1.1)) both in
    subst (λ (y : FrameLayout × List ℕ). Front bytes (layout_bytes y.0) y.1) (given_is found x n.2) here

reserving_bytes : (n r : ℕ) → 1 ≤ n → n ≤ 4 → 1 ≤ r → r ≤ fib_count (mode_of n) - 2
    → layout_bytes (reserving (mode_of n) r) ≡ 3 ∷ n ∷ r ∷ []
reserving_bytes zero r from to some few = absurd (omega (arith, from))
reserving_bytes (suc (suc (suc zero))) zero from to some few = absurd (omega (arith, some))
reserving_bytes (suc (suc (suc zero))) (suc (suc (suc r))) from to some few = absurd (omega (arith, few))
reserving_bytes (suc (suc (suc (suc zero)))) r from to some few = let one : r ≡ 1 = omega (arith, some, few) in
    rw one refl
reserving_bytes (suc (suc (suc (suc (suc more))))) r from to some few = absurd (omega (arith, to))
reserving_bytes (suc (suc (suc zero))) _ from to some few = refl
reserving_bytes _ r from to some few = let one : r ≡ 1 = omega (arith, some, few) in rw one refl

third_version : (total : ℕ) (bytes rest : List ℕ) (x : FrameLayout × List ℕ) → reserving_at total rest ≡ Ok x
    → Front bytes (byte_of 3) rest → Front bytes (layout_bytes x.0) x.1
unfolding reserving_at
third_version total bytes rest x e front =
    let n = then_ok (in_file (byte_within total 1 4 rest)) _ x e in
    let fn = (byte_is 1 4).front total rest n.0 front.rest_fits (read_ok 0 _ n.0 n.1) in
    let most : ℕ = fib_count (mode_of n.0.0) - 2 in
    let r = then_ok (in_file (byte_within total 1 most n.0.1)) _ x n.2 in
    let fr = (byte_is 1 most).front total n.0.1 r.0 fn.0.rest_fits (read_ok 0 _ r.0 r.1) in
    let found : FrameLayout × List ℕ = (reserving (mode_of n.0.0) r.0.0, r.0.1) in
    let two : Front bytes (3 ∷ n.0.0 ∷ []) n.0.1 = front_then bytes (byte_of 3) rest (byte_of n.0.0) n.0.1 front fn.0 in
    let here : Front bytes (layout_bytes found.0) r.0.1 = rw (reserving_bytes n.0.0 r.0.0 fn.1.0 fn.1.1 fr.1.0 fr.1.1)
    (front_then bytes (3 ∷ n.0.0 ∷ []) n.0.1 (byte_of r.0.0) r.0.1 two fr.0) in
    subst (λ (y : FrameLayout × List ℕ). Front bytes (layout_bytes y.0) y.1) (given_is found x r.2) here

-- this version, or one of those tested later
choose : {T E : Type 0} (version known : ℕ) (given other : Result (T × List ℕ) E) (x : T × List ℕ) (Q : ℕ → Type 0)
    → (given ≡ Ok x → Q known) → (other ≡ Ok x → Q version)
    → cond (eqb version known) given other ≡ Ok x → Q version
choose version known given other x Q here there e =
    elim (cases_eq version known) [
      | inl same ↦ rw same (here (rw (eq-eqb _ _ same) at e))
      | inr apart ↦ there (rw (ne_eqb _ _ apart) at e)
    ]

version_front : (total version : ℕ) (bytes rest : List ℕ) (x : FrameLayout × List ℕ)
    → layout_in total version rest ≡ Ok x → Front bytes (byte_of version) rest → Front bytes (layout_bytes x.0) x.1
version_front total version bytes rest x =
    let Q : ℕ → Type 0 = λ v. Front bytes (byte_of v) rest → Front bytes (layout_bytes x.0) x.1 in
    choose version 1 _ _ x Q (first_version bytes rest x) (
    choose version 2 _ _ x Q (second_version total bytes rest x) (
    choose version 3 _ _ x Q (third_version total bytes rest x) (
    λ e. absurd (let wrong : Err Version ≡ given x = e in cc))))

layout_front : (total : ℕ) (bytes : List ℕ) (x : FrameLayout × List ℕ) → IsBytes bytes → layout_at total bytes ≡ Ok x
    → Front bytes (layout_bytes x.0) x.1
unfolding layout_at
layout_front total bytes x fits e =
    let v = then_ok (in_file (byte_at bytes)) _ x e in
    version_front total v.0.0 bytes v.0.1 x v.2 (byte_front bytes v.0 fits (read_ok 0 _ v.0 v.1))

layout_again : (total : ℕ) (l : FrameLayout) (rest : List ℕ) → layout_at total (layout_bytes l ++ rest) ≡ Ok (l, rest)
unfolding layout_at reserving_at
layout_again total (Whole I) rest = refl
layout_again total (Whole II) rest = refl
layout_again total (Whole III) rest = refl
layout_again total (Whole IV) rest = refl
layout_again total (ReserveOne I) rest = refl
layout_again total (ReserveOne II) rest = refl
layout_again total (ReserveOne III) rest = refl
layout_again total (ReserveOne IV) rest = refl
layout_again total ReserveTwo rest = refl

pub plan_after_is : (layout : FrameLayout) → IsLawful (plan_after layout) (λ p. IsPlan p × (p.layout ≡ layout))
plan_after_is layout =
    made_is _ _ (λ p. IsPlan p × (p.layout ≡ layout))
    (any_u16_is then byte_is 1 60 then byte_is 12 248 then byte_is 1 255)
    (λ x is. (
      (
        record {
          ensemble = is.0.0.0;
          period_from = is.0.0.1.0;
          period_to = is.0.0.1.1;
          notice_from = is.0.1.0;
          notice_to = is.0.1.1;
          budget_from = is.1.0;
          budget_to = is.1.1;
        },
        refl,
      ),
      refl,
    ))
    (λ p is.
    let q = is.0 in (
      (((q.ensemble, (q.period_from, q.period_to)), (q.notice_from, q.notice_to)), (q.budget_from, q.budget_to)),
      ap (λ (l : FrameLayout). let r : Plan = record p { layout = l } in r) (sym is.1),
    ))

plan_front : (total : ℕ) (bytes : List ℕ) (x : Plan × List ℕ) → IsBytes bytes → plan_at total bytes ≡ Ok x
    → Front bytes (plan_bytes x.0) x.1 × IsPlan x.0
unfolding plan_at
plan_front total bytes x fits e =
    let m = then_ok (layout_at total bytes) _ x e in
    let fm = layout_front total bytes m.0 fits m.1 in
    let f = (plan_after_is m.0.0).front total m.0.1 x fm.rest_fits (read_ok 0 _ x m.2) in
    let here = front_then bytes (layout_bytes m.0.0) m.0.1 ((plan_after m.0.0).spell x.0) x.1 fm f.0 in
    (subst (λ (l : FrameLayout). Front bytes (layout_bytes l ++ (plan_after l).spell x.0) x.1) (sym f.1.1) here, f.1.0)

plan_again : (total : ℕ) (p : Plan) (rest : List ℕ) → IsPlan p → plan_at total (plan_bytes p ++ rest) ≡ Ok (p, rest)
unfolding plan_at
plan_again total p rest is =
    let fields = (plan_after p.layout).spell p in
    ap (plan_at total) (append_assoc (layout_bytes p.layout) fields rest) ∙ rw
    (layout_again _ _ _, ok_read _ _ _ ((plan_after_is _).again total p rest (is, refl))) refl

abbrev pub IsCount : ℕ → ℕ → Type 0
IsCount limit n = (1 ≤ n) × (n ≤ limit)

count_front : (total limit : ℕ) (bytes : List ℕ) (x : ℕ × List ℕ) → IsBytes bytes → count_at total limit bytes ≡ Ok x
    → Front bytes (u16_bytes x.0) x.1 × IsCount limit x.0
count_front total limit bytes x fits e =
    let a = then_ok (in_file (number_at w16 bytes)) _ x e in
    let s = refuse_then _ _ (λ some. refuse_code (ltb limit a.0.0) Limit >>= λ few. given a.0) _ a.2 in
    let k = refuse_then (ltb limit a.0.0) Limit (λ few. given a.0) x s.1 in
    let few : a.0.0 ≤ limit = ltb-false _ _ k.0 in
    subst (λ (y : ℕ × List ℕ). Front bytes (u16_bytes y.0) y.1 × IsCount limit y.0) (given_is a.0 x k.1)
    ((any_u16_is.front 0 bytes a.0 fits (read_ok 0 _ a.0 a.1)).0, (omega (arith, eqb-false _ _ s.0), few))

count_again : (total limit n : ℕ) (rest : List ℕ) → limit < 65536 → IsCount limit n
    → count_at total limit (u16_bytes n ++ rest) ≡ Ok (n, rest)
count_again total limit n rest small is =
    let some : eqb n 0 ≡ false = ne_eqb _ _ (λ e. omega (arith, e, is.0)) in
    rw (ok_read 0 _ _ (any_u16_is.again 0 n rest (omega (arith, is.1, small))), some, (le-ltb _ _ is.1)) refl

-- the header read is within its limits
pub record IsHeaderRead (bytes : List ℕ) (h : Header) (rest : List ℕ) : Type 0 where
  pub front : Front bytes (header_bytes h.plan h.configurations h.labels h.lines) rest
  pub planned : IsPlan h.plan
  pub configurations : IsCount 256 h.configurations
  pub labels : IsCount 1024 h.labels
  pub lines : IsCount 4096 h.lines

header_made : (total : ℕ) (h : Header) (b0 b2 b3 b4 b5 b6 : List ℕ) (m : ℕ) → IsBytes b0 → magic_at b0 ≡ Ok (m, b2)
    → plan_at total b2 ≡ Ok (h.plan, b3)
    → count_at total 256 b3 ≡ Ok (h.configurations, b4) → count_at total 1024 b4 ≡ Ok (h.labels, b5)
    → count_at total 4096 b5 ≡ Ok (h.lines, b6) → IsHeaderRead b0 h b6
header_made total h b0 b2 b3 b4 b5 b6 m fits em ep ec el ei =
    let fm = magic_front b0 (m, b2) fits em in
    let fp = plan_front total b2 (h.plan, b3) fm.rest_fits ep in
    let fc = count_front total 256 b3 (h.configurations, b4) fp.0.rest_fits ec in
    let fl = count_front total 1024 b4 (h.labels, b5) fc.0.rest_fits el in
    let fi = count_front total 4096 b5 (h.lines, b6) fl.0.rest_fits ei in
    let magic_text : List ℕ = to_be_bytes w32 magic in
    let plan_text : List ℕ = plan_bytes h.plan in
    let planned = front_then b0 magic_text b2 plan_text b3 fm fp.0 in
    let one = front_then b0 (magic_text ++ plan_text) b3 (u16_bytes h.configurations) b4 planned fc.0 in
    let two = front_then _ _ _ _ _ one fl.0 in
    let all = front_then _ _ _ _ _ two fi.0 in
    record { front = all; planned = fp.1; configurations = fc.1; labels = fl.1; lines = fi.1 }

pub header_front : (total : ℕ) (bytes : List ℕ) (x : Header × List ℕ) → IsBytes bytes → header_at total bytes ≡ Ok x
    → IsHeaderRead bytes x.0 x.1
unfolding header_at
header_front total bytes x fits e =
    let m = then_ok (magic_at bytes) _ x e in
    let p = then_ok (plan_at total m.0.1) _ x m.2 in
    let c = then_ok (count_at total 256 p.0.1) _ x p.2 in
    let l = then_ok (count_at total 1024 c.0.1) _ x c.2 in
    let i = then_ok (count_at total 4096 l.0.1) _ x l.2 in
    let found : Header × List ℕ =
    (record { plan = p.0.0; configurations = c.0.0; labels = l.0.0; lines = i.0.0 }, i.0.1) in
    subst (λ (y : Header × List ℕ). IsHeaderRead bytes y.0 y.1) (given_is found x i.2)
    (header_made total found.0 bytes m.0.1 p.0.1 c.0.1 l.0.1 i.0.1 m.0.0 fits m.1 p.1 c.1 l.1 i.1)

pub header_again : (total : ℕ) (h : Header) (rest : List ℕ) → IsPlan h.plan → IsCount 256 h.configurations
    → IsCount 1024 h.labels → IsCount 4096 h.lines
    → header_at total (header_bytes h.plan h.configurations h.labels h.lines ++ rest) ≡ Ok (h, rest)
unfolding header_at
header_again total h rest planned configurations labels lines =
    let b5 : List ℕ = u16_bytes h.lines ++ rest in
    let b4 : List ℕ = u16_bytes h.labels ++ b5 in
    let b3 : List ℕ = u16_bytes h.configurations ++ b4 in
    let b2 : List ℕ = plan_bytes h.plan ++ b3 in
    let front : List ℕ = to_be_bytes w32 magic ++ plan_bytes h.plan in
    let grouped : header_bytes h.plan h.configurations h.labels h.lines ++ rest ≡ to_be_bytes w32 magic ++ b2 =
    append_assoc (front ++ u16_bytes h.configurations ++ u16_bytes h.labels) (u16_bytes h.lines) rest
    ∙ append_assoc (front ++ u16_bytes h.configurations) (u16_bytes h.labels) b5
    ∙ append_assoc front (u16_bytes h.configurations) b4
    ∙ append_assoc (to_be_bytes w32 magic) (plan_bytes h.plan) b3 in
    ap (header_at total) grouped
    ∙ rw (
      magic_again b2,
      plan_again total h.plan b3 planned,
      count_again total 256 h.configurations b4 (omega arith) configurations,
      count_again total 1024 h.labels b5 (omega arith) labels,
      count_again total 4096 h.lines rest (omega arith) lines,
    ) refl
