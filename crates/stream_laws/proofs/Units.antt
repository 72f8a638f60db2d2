-- The capacity units of a sound configuration, as the checker counts them.
use Rattle.stream_laws.proofs.Words.{[], ◌%◌, ◌&&◌, ◌*◌, ◌+◌, ◌-◌, ◌/◌, ◌<◌, ◌∙◌, ◌∷◌, ◌≡◌, ◌≤◌, AllByRecursion, Bool}
use Rattle.stream_laws.proofs.Words.{Configuration, Contains, IsAscending, IsConfiguration, IsPart, IsPlaced, IsSound}
use Rattle.stream_laws.proofs.Words.{List, None, Raw, Some, Sub, and_right, ap, arith, cases_lt, cond, contains_first}
use Rattle.stream_laws.proofs.Words.{contains_later, each_contains, end_unit, false, false_from_ne_true, false≢true}
use Rattle.stream_laws.proofs.Words.{first_unit, identifier_of, inl, inr, is_long_form, le-ltb, ltb-true, map, nat_lt}
use Rattle.stream_laws.proofs.Words.{option_of, overlap, partner, past_end, raw_entry, refl, share_unit, size_of_sub}
use Rattle.stream_laws.proofs.Words.{sub_entry, sub_identified, sym, true, whole_is_set, whole_of, ℕ}
use Rattle.mux_eep.specs.declared.sizes.EepSet.{EepSet}
use Rattle.mux_eep.specs.declared.sizes.EepSet.TheVariants.{A, B}
use Rattle.stream_laws.proofs.Words.{each_partly, ascends_partly}
use Rattle.stream_check.specs.declared.finding.Fault.TheVariants as faults

-- ---- an entry of FIG 0/1

few_options : (set : EepSet) → option_of set ≤ 1
few_options A = omega arith
few_options B = omega arith

word_low : (x : ℕ) → x < 65536 → x / 256 % 256 * 256 + x % 256 ≡ x
word_low x below = omega (arith, below)

starts : (s : Sub) → IsPlaced s → first_unit (raw_entry (sub_entry s)) ≡ s.start
starts s h =
    let low : (s.id * 1024 + s.start) % 1024 ≡ s.start = omega arith in
    ap (λ n. n % 1024) (word_low (s.id * 1024 + s.start) (omega arith)) ∙ low

ends_at : (s : Sub) → IsPlaced s → end_unit (raw_entry (sub_entry s)) ≡ s.start + size_of_sub s
ends_at s h =
    let few = few_options s.protection.set in
    let x : ℕ = 32768 + option_of s.protection.set * 4096 + (s.protection.level - 1) * 1024 + size_of_sub s in
    let word : x / 256 % 256 * 256 + x % 256 ≡ x = word_low x (omega (arith, few)) in
    let low : x % 1024 ≡ size_of_sub s = omega arith in
    ap (λ n. n + x_size s) (starts s h) ∙ ap (λ n. s.start + n % 1024) word ∙ ap (λ n. s.start + n) low
  where
    x_size : Sub → ℕ
    x_size t =
        let x : ℕ = 32768 + option_of t.protection.set * 4096 + (t.protection.level - 1) * 1024 + size_of_sub t in
        (x / 256 % 256 * 256 + x % 256) % 1024

-- ---- entries of a sound configuration

record IsSubRaw (c : Configuration) (r : Raw) : Type 0 where
  sub : Sub
  inside : Contains c.subs sub
  is : raw_entry (sub_entry sub) ≡ r

parts : (t : Bool) (a b : Bool) → t ≡ (a && b) → t ≡ true → (a ≡ true) × (b ≡ true)
parts t true b e is = (refl, sym e ∙ is)
parts t false b e is = absurd (false≢true (sym e ∙ is))

shared : (c : Configuration) → IsSound c → IsConfiguration c → (a b : Raw) → IsSubRaw c a → IsSubRaw c b
    → share_unit a b ≡ true → identifier_of a ≡ identifier_of b
shared c sound is a b x y shares =
    let one = parts (share_unit a b) (is_long_form a && is_long_form b) _ refl shares in
    let two = parts _ (nat_lt (first_unit a) (end_unit a)) _ refl one.1 in
    let three = parts _ (nat_lt (first_unit b) (end_unit b)) _ refl two.1 in
    let four = parts _ (nat_lt (first_unit a) (end_unit b)) (nat_lt (first_unit b) (end_unit a)) refl three.1 in
    let placed_a : IsPlaced x.sub = each_contains IsPlaced c.subs x.sub is.subs_placed x.inside in
    let placed_b : IsPlaced y.sub = each_contains IsPlaced c.subs y.sub is.subs_placed y.inside in
    let start_a : first_unit a ≡ x.sub.start = ap first_unit (sym x.is) ∙ starts x.sub placed_a in
    let start_b : first_unit b ≡ y.sub.start = ap first_unit (sym y.is) ∙ starts y.sub placed_b in
    let end_a : end_unit a ≡ x.sub.start + size_of_sub x.sub = ap end_unit (sym x.is) ∙ ends_at x.sub placed_a in
    let end_b : end_unit b ≡ y.sub.start + size_of_sub y.sub = ap end_unit (sym y.is) ∙ ends_at y.sub placed_b in
    let aa = ltb-true (first_unit a) (end_unit a) two.0 in
    let bb = ltb-true (first_unit b) (end_unit b) three.0 in
    let ab = ltb-true (first_unit a) (end_unit b) four.0 in
    let ba = ltb-true (first_unit b) (end_unit a) four.1 in
    let same : x.sub.id ≡ y.sub.id = elim (cases_lt (first_unit a) (first_unit b)) [
      | inl lt ↦ sound.apart x.sub y.sub (first_unit b) x.inside y.inside
          (omega (arith, lt, start_a), omega (arith, ba, end_a)) (omega (arith, start_b), omega (arith, bb, end_b))
      | inr ge ↦ sound.apart x.sub y.sub (first_unit a) x.inside y.inside
          (omega (arith, start_a), omega (arith, aa, end_a)) (omega (arith, ge, start_b), omega (arith, ab, end_b))
    ] in
    cc (x.is, sub_identified x.sub placed_a, same, sub_identified y.sub placed_b, y.is)

no_partner : (c : Configuration) → IsSound c → IsConfiguration c → (a : Raw) (bs : List Raw) → IsSubRaw c a
    → AllByRecursion (IsSubRaw c) bs → AllByRecursion (λ b. identifier_of a < identifier_of b) bs → partner a bs ≡ None
no_partner c sound is a [] x all up = refl
no_partner c sound is a (b ∷ bs) x all up =
    let apart : share_unit a b ≡ false =
    false_from_ne_true (share_unit a b) (λ shares.
    (let same = shared c sound is a b x all.0 shares in omega (arith, same))) in
    ap (λ t. cond t (Some (identifier_of b)) (partner a bs)) apart ∙ no_partner c sound is a bs x all.1 up.1

no_overlap : (c : Configuration) → IsSound c → IsConfiguration c → (rs : List Raw) → AllByRecursion (IsSubRaw c) rs
    → IsAscending identifier_of rs → overlap rs ≡ None
no_overlap c sound is [] all up = refl
no_overlap c sound is (r ∷ rs) all up =
    cc (no_partner c sound is r rs all.0 all.1 up.0, no_overlap c sound is rs all.1 up.1)

none_past : (c : Configuration) → IsConfiguration c → (rs : List Raw) → AllByRecursion (IsSubRaw c) rs
    → past_end rs ≡ None
none_past c is [] all = refl
none_past c is (r ∷ rs) all =
    let x = all.0 in
    let placed : IsPlaced x.sub = each_contains IsPlaced c.subs x.sub is.subs_placed x.inside in
    let last : end_unit r ≡ x.sub.start + size_of_sub x.sub = ap end_unit (sym x.is) ∙ ends_at x.sub placed in
    let within : nat_lt 864 (end_unit r) ≡ false = le-ltb 864 (end_unit r) (omega (arith, last)) in
    cc (and_right (is_long_form r) _ within, none_past c is rs all.1)

-- ---- a part of them

each_of : (c : Configuration) (ss : List Sub) → ((s : Sub) → Contains ss s → Contains c.subs s)
    → AllByRecursion (IsSubRaw c) (map (λ s. raw_entry (sub_entry s)) ss)
each_of c [] f = tt
each_of c (s ∷ ss) f = (
  record { sub = s; inside = f s (contains_first s ss); is = refl },
  each_of c ss (λ t h. f t (contains_later s ss t h)),
)

pub units_fine : (c : Configuration) (C : Raw → Type 0) (rs : List Raw) → IsSound c → IsConfiguration c
    → IsPart (whole_of c).subs C rs → (overlap rs ≡ None) × (past_end rs ≡ None)
units_fine c C rs sound is h =
    let full : AllByRecursion (IsSubRaw c) (whole_of c).subs = each_of c c.subs (λ s inside. inside) in
    let all : AllByRecursion (IsSubRaw c) rs = rw h.is (each_partly (IsSubRaw c) h.known (whole_of c).subs full) in
    let up : IsAscending identifier_of rs = rw h.is (ascends_partly h.known _ (whole_is_set c is).subs_ascend) in
    (no_overlap c sound is rs all up, none_past c is rs all)
