-- Sets as bits: the value of a bit after it was set or cleared, and inclusion of sets.
use Rattle.plan_code.proofs.Words.{◌-◌, ◌<◌, ◌^◌, ◌∙◌, ◌≡◌, ◌≢◌, ContactsChangeAlone, CountersChangeAlone, Includes}
use Rattle.plan_code.proofs.Words.{Width, ap, arith, bit_and, bit_at, bit_at-lt, bit_at-pow_other, bit_at-pow_same}
use Rattle.plan_code.proofs.Words.{bit_at_and, bit_at_not, bit_at_or, bit_not, bit_or, cases_lt, eqb, eqb-true, false}
use Rattle.plan_code.proofs.Words.{inl, inr, min, refl, same_from_bits, sym, true, w16, w8, ℕ}
use Rattle.std.proofs.lemmas.Nat.{pow_below}
use mir.Val.{bits}
use Rattle.plan_code.specs.declared.flags.Counters.{Counters}

bit_set_same : (n k : ℕ) → bit_at (bit_or n (2 ^ k)) k ≡ 1
bit_set_same n k = omega (arith, bit_at_or n (2 ^ k) k, bit_at-pow_same k, bit_at-lt n k)

bit_set_other : (n k i : ℕ) → i ≢ k → bit_at (bit_or n (2 ^ k)) i ≡ bit_at n i
bit_set_other n k i apart = omega (arith, bit_at_or n (2 ^ k) i, bit_at-pow_other k i apart)

bit_cleared : (w : Width) (n k i : ℕ) → k < bits w → i < bits w
    → bit_at (bit_and n (bit_not w (2 ^ k))) i ≡ min (bit_at n i) (1 - bit_at (2 ^ k) i)
bit_cleared w n k i within low = bit_at_and n (bit_not w (2 ^ k)) i
    ∙ ap (λ (b : ℕ). min (bit_at n i) b) (bit_at_not w (2 ^ k) i (pow_below k (bits w) within) low)

bit_clear_same : (w : Width) (n k : ℕ) → k < bits w → bit_at (bit_and n (bit_not w (2 ^ k))) k ≡ 0
bit_clear_same w n k within = omega (arith, bit_cleared w n k k within within, bit_at-pow_same k)

bit_clear_other : (w : Width) (n k i : ℕ) → k < bits w → i < bits w → i ≢ k
    → bit_at (bit_and n (bit_not w (2 ^ k))) i ≡ bit_at n i
bit_clear_other w n k i within low apart =
    omega (arith, bit_cleared w n k i within low, bit_at-pow_other k i apart, bit_at-lt n i)

-- ---- tests of a bit

one_is : (n : ℕ) → n ≡ 1 → eqb n 1 ≡ true
one_is n e = rw e refl

zero_is : (n : ℕ) → n ≡ 0 → eqb n 1 ≡ false
zero_is n e = rw e refl

same_is : (n m : ℕ) → n ≡ m → eqb n 1 ≡ eqb m 1
same_is n m e = ap (λ (k : ℕ). eqb k 1) e

pub counters_change_alone : CountersChangeAlone
counters_change_alone counters r lt = (
  one_is _ (bit_set_same counters.0 r),
  zero_is _ (bit_clear_same w8 counters.0 r lt),
  λ q within apart. (
    same_is _ _ (bit_set_other counters.0 r q apart),
    same_is _ _ (bit_clear_other w8 counters.0 r q lt within apart),
  ),
)

pub contacts_change_alone : ContactsChangeAlone
contacts_change_alone contacts c true lt =
    (one_is _ (bit_set_same contacts.0 c), λ d within apart. same_is _ _ (bit_set_other contacts.0 c d apart))
contacts_change_alone contacts c false lt = (
  zero_is _ (bit_clear_same w16 contacts.0 c lt),
  λ d within apart.
      same_is _ _ (bit_clear_other w16 contacts.0 c d lt within apart),
)

-- ---- inclusion

pub all_included : (a b : Counters) → eqb (bit_and a.0 b.0) b.0 ≡ true → Includes a b
all_included a b e = λ r has.
    let both = sym (bit_at_and a.0 b.0 r) ∙ ap (λ (n : ℕ). bit_at n r) (eqb-true _ _ e) in
    one_is (bit_at a.0 r) (omega (arith, both, eqb-true _ _ has, bit_at-lt a.0 r))

eqb_same : (a b : ℕ) → a ≡ b → eqb a b ≡ true
eqb_same a b e = grind (arith, e)

within_both : (a b : ℕ) → a < 2 → b < 2 → (eqb b 1 ≡ true → eqb a 1 ≡ true) → min a b ≡ b
within_both a b below_a below_b h =
    elim (cases_lt 0 b) [
      | inl set ↦ let one : a ≡ 1 = eqb-true a 1 (h (one_is b (omega arith))) in omega arith
      | inr none ↦ omega arith
    ]

pub included_all : (a b : Counters) → Includes a b → eqb (bit_and a.0 b.0) b.0 ≡ true
included_all a b h =
    eqb_same _ _ (same_from_bits (bit_and a.0 b.0) b.0 (λ r.
    bit_at_and a.0 b.0 r ∙ within_both (bit_at a.0 r) (bit_at b.0 r) (bit_at-lt a.0 r) (bit_at-lt b.0 r) (h r)))
