-- Combinations: a moment as a region, overlays one after the other, and sets that ascend.
use Rattle.schedule_verifier.proofs.Words.{◌%◌, ◌*◌, ◌+◌, ◌-◌, ◌<◌, ◌∙◌, ◌∷◌, ◌≡◌, ◌≤◌, ◌⊎◌, ◌^◌, Bool, Contacts}
use Rattle.schedule_verifier.proofs.Words.{Covers, FRAMES_A_DAY, List, Some, Throughout, ap, arith, bit_at, cases_lt}
use Rattle.schedule_verifier.proofs.Words.{condition_holds, drop, eqb, eqb-true, false, get_or, inl, inr, length, map}
use Rattle.schedule_verifier.proofs.Words.{Tree, overlay_of, slice_get, subst, suc, sym, true, ℕ}
use Rattle.std.proofs.Common.{w16}
use Rattle.std.proofs.lemmas.Nat.Bits.{bit_at_not}
use Rattle.std.proofs.lemmas.Option.{slice_get_within}
use Rattle.std.proofs.Math.Nat.{pow-succ'}
use Rattle.std.proofs.Math.Pow.{pow_mono}
use Rattle.std.proofs.lemmas.List.{drop_all}
use Rattle.schedule_front.specs.declared.tree.Overlay.{Overlay as OverlayCode}
use Rattle.schedule_verifier.specs.Combinations.{CanHold, held_of, with_first}
use Rattle.schedule_verifier.specs.declared.region.Region.{Region}
use Rattle.schedule_verifier.proofs.Applying.{next_of}

-- ---- a moment

-- a contact that is not closed in the complement is closed, and the other way round
pub apart : (n m c : ℕ) → bit_at m c ≡ 1 - bit_at n c → eqb (bit_at m c) 1 ≡ true → eqb (bit_at n c) 1 ≡ false
apart n m c other is =
    let one : bit_at m c ≡ 1 = eqb-true _ _ is in
    let none : bit_at n c ≡ 0 = omega (arith, other, one) in
    ap (λ (x : ℕ). eqb x 1) none

-- ---- overlays, from the last one on

pub held_more : (r : Region) (notice : ℕ) (overlays : List OverlayCode) (left : ℕ) (o e : OverlayCode) (set : ℕ)
    (b : Bool) → 0 < left → left ≤ length overlays → o ≡ get_or overlays (left - 1) e
    → Throughout r (λ contacts day.
    held_of contacts ((day + notice) % FRAMES_A_DAY) (map overlay_of (drop left overlays)) ≡ set)
    → Throughout r (λ contacts day.
    condition_holds contacts ((day + notice) % FRAMES_A_DAY) (overlay_of o).condition ≡ b)
    → Throughout r (λ contacts day.
    held_of contacts ((day + notice) % FRAMES_A_DAY) (map overlay_of (drop (left - 1) overlays)) ≡ with_first b set)
held_more r notice overlays left o e set b some within is so_far one contacts day h =
    let back : left - 1 + 1 ≡ left = omega (arith, some) in
    let lt : left - 1 < length overlays = omega (arith, some, within) in
    let cut : drop (left - 1) overlays ≡ o ∷ drop left overlays =
    next_of overlays (left - 1) o e lt is ∙ ap (λ (n : ℕ). o ∷ drop n overlays) back in
    ap (λ (os : List OverlayCode). held_of contacts ((day + notice) % FRAMES_A_DAY) (map overlay_of os)) cut
    ∙ ap (λ (x : Bool). with_first x
    (held_of contacts ((day + notice) % FRAMES_A_DAY) (map overlay_of (drop left overlays)))) (one contacts day h)
    ∙ ap (with_first b) (so_far contacts day h)

-- the number of sets grows by a factor of two
pub doubled : (n left set : ℕ) → 0 < left → left ≤ n → set < 2 ^ (n - left) → set + set + 1 < 2 ^ (n - (left - 1))
doubled n left set some within low =
    let step : n - (left - 1) ≡ suc (n - left) = omega (arith, some, within) in
    let twice : 2 ^ suc (n - left) ≡ 2 * 2 ^ (n - left) = pow-succ' 2 (n - left) in
    let whole : 2 ^ (n - (left - 1)) ≡ 2 * 2 ^ (n - left) = ap (λ (k : ℕ). 2 ^ k) step ∙ twice in
    omega (arith, low, whole)

pub with_room : (n left set : ℕ) → 0 < left → left ≤ n → n ≤ 64 → set < 2 ^ (n - left) → set < 9223372036854775808
with_room n left set some within few low =
    let small : n - left ≤ 63 = omega (arith, some, within, few) in
    let bound : 2 ^ (n - left) ≤ 2 ^ 63 = pow_mono small in
    omega (arith, low, bound)

pub held_begin : (r : Region) (notice : ℕ) (overlays : List OverlayCode) (left : ℕ) → length overlays ≤ left
    → Throughout r (λ contacts day.
    held_of contacts ((day + notice) % FRAMES_A_DAY) (map overlay_of (drop left overlays)) ≡ 0)
held_begin r notice overlays left past contacts day h =
    ap (λ (os : List OverlayCode). held_of contacts ((day + notice) % FRAMES_A_DAY) (map overlay_of os))
    (drop_all left overlays past)

-- ---- a moment

pub at_moment : (contacts : Contacts) (day from to : ℕ) → contacts.0 < 65536 → day < FRAMES_A_DAY → from ≡ day
    → to ≡ day → (let other : Contacts = record { 0 = 65535 - contacts.0 } in
    let r : Region = record { closed = contacts; opened = other; from = from; to = to + 1 } in Covers r contacts day)
at_moment contacts day from to low within begins ends =
    record {
      closed = λ c lt is. is;
      opened = λ c lt is. apart contacts.0 _ c (bit_at_not w16 contacts.0 c low lt) is;
      from = omega (arith, begins);
      to = omega (arith, ends);
      in_range = within;
    }

-- ---- sets that ascend

abbrev pub AscendTo : List ℕ → ℕ → Type 0
AscendTo sets n = (i j a b : ℕ) → i < j → j < n → slice_get sets i ≡ Some a → slice_get sets j ≡ Some b → a < b

some_is : (a b : ℕ) → Some a ≡ Some b → a ≡ b
some_is a b e = cc

same_there : (sets : List ℕ) (i j a b : ℕ) → i ≡ j → slice_get sets i ≡ Some a → slice_get sets j ≡ Some b → a ≡ b
same_there sets i j a b same here there =
    some_is a b (sym here ∙ ap (λ (n : ℕ). slice_get sets n) same ∙ there)

pub ascend_one : (sets : List ℕ) → AscendTo sets 1
ascend_one sets i j a b lt low here there = absurd (omega (arith, lt, low))

pub ascend_more : (sets : List ℕ) (index lo hi : ℕ) → 1 ≤ index → slice_get sets (index - 1) ≡ Some lo
    → slice_get sets index ≡ Some hi → lo < hi → AscendTo sets index → AscendTo sets (index + 1)
ascend_more sets index lo hi some at_lo at_hi up old i j a b lt low here there = elim (cases_lt j index) [
  | inl before ↦ old i j a b lt before here there
  | inr last ↦ by (cases_lt i (index - 1)) last
]
  where
    by : (i < index - 1) ⊎ (index - 1 ≤ i) → index ≤ j → a < b
    by (inl earlier) last =
        let same : j ≡ index = omega (arith, low, last) in
        let is_hi = same_there sets j index b hi same there at_hi in
        let under : a < lo = old i (index - 1) a lo earlier (omega (arith, some)) here at_lo in
        omega (arith, is_hi, under, up)
    by (inr late) last =
        let same : j ≡ index = omega (arith, low, last) in
        let is_hi = same_there sets j index b hi same there at_hi in
        let is_lo = same_there sets i (index - 1) a lo (omega (arith, lt, low, last, late)) here at_lo in
        omega (arith, is_hi, is_lo, up)

pub ascend_all : (sets : List ℕ) (n : ℕ) → length sets ≤ n → AscendTo sets n → (i j a b : ℕ) → i < j
    → slice_get sets i ≡ Some a → slice_get sets j ≡ Some b → a < b
ascend_all sets n past up i j a b lt here there =
    let within = slice_get_within sets j b there in up i j a b lt (omega (arith, within, past)) here there

-- ---- sets that hold

abbrev pub HoldTo : Tree → List ℕ → ℕ → Type 0
HoldTo s sets n = (i set : ℕ) → i < n → slice_get sets i ≡ Some set → (set ≡ 0) ⊎ CanHold s set

pub hold_none : (s : Tree) (sets : List ℕ) → HoldTo s sets 0
hold_none s sets i set lt there = absurd (omega (arith, lt))

pub hold_more : (s : Tree) (sets : List ℕ) (n last : ℕ) → slice_get sets n ≡ Some last
    → (last ≡ 0) ⊎ CanHold s last → HoldTo s sets n → HoldTo s sets (n + 1)
hold_more s sets n last there can old i set lt here = elim (cases_lt i n) [
  | inl before ↦ old i set before here
  | inr le ↦ subst (λ (x : ℕ). (x ≡ 0) ⊎ CanHold s x)
      (same_there sets n i last set (omega (arith, lt, le)) there here) can
]

pub hold_all : (s : Tree) (sets : List ℕ) (n : ℕ) → length sets ≤ n → HoldTo s sets n → (i set : ℕ)
    → slice_get sets i ≡ Some set → (set ≡ 0) ⊎ CanHold s set
hold_all s sets n past old i set here =
    let within = slice_get_within sets i set here in old i set (omega (arith, within, past)) here
