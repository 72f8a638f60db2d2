-- Regions: their parts, and what is known in them.
use Rattle.schedule_verifier.proofs.Words.{◌&&◌, ◌<◌, ◌∙◌, ◌≡◌, ◌≢◌, ◌⊎◌, ◌||◌, Answer, Ask, Bool, Contacts}
use Rattle.schedule_verifier.proofs.Words.{Covers, Day, Decides, FRAMES_A_DAY, No, OfContact, Question, Region}
use Rattle.schedule_verifier.proofs.Words.{Throughout, Yes, ap, arith, bit_at, bit_or, both, cases_lt, either, eqb}
use Rattle.schedule_verifier.proofs.Words.{eqb-false}
use Rattle.schedule_verifier.proofs.Words.{eqb-true, everything, false, first_part, inl, inr, is_closed, is_same_flag}
use Rattle.schedule_verifier.proofs.Words.{refl}
use Rattle.schedule_verifier.proofs.Words.{second_part, sym, true, with_contact, ℕ, ◌^◌}
use Rattle.std.proofs.lemmas.Nat.Bits.{bit_at_or, bit_at-pow_other, bit_at-zero}

-- ---- the two parts of a region

closed_other : (contacts : Contacts) (k c : ℕ) → c ≢ k → is_closed (with_contact k true contacts) c ≡ is_closed contacts
    c
closed_other contacts k c apart =
    let same : bit_at (bit_or contacts.0 (2 ^ k)) c ≡ bit_at contacts.0 c =
    omega (arith, bit_at_or contacts.0 (2 ^ k) c, bit_at-pow_other k c apart) in
    ap (λ (n : ℕ). eqb n 1) same

-- what holds of all contacts that were known, and of one more
one_more : (known contacts : Contacts) (k : ℕ) (level : Bool) → is_closed contacts k ≡ level
    → ((c : ℕ) → c < 16 → is_closed known c ≡ true → is_closed contacts c ≡ level)
    → (c : ℕ) → c < 16 → is_closed (with_contact k true known) c ≡ true → is_closed contacts c ≡ level
one_more known contacts k level here others c low is = by (eqb c k) refl
  where
    by : (b : Bool) → eqb c k ≡ b → is_closed contacts c ≡ level
    by true e = rw (eqb-true c k e) here
    by false e = others c low (sym (closed_other known k c (eqb-false c k e)) ∙ is)

by_level : (k : ℕ) (r : Region) (contacts : Contacts) (day : ℕ) (level : Bool) → is_closed contacts k ≡ level
    → Covers r contacts day
    → Covers (first_part (OfContact k) r) contacts day ⊎ Covers (second_part (OfContact k) r) contacts day
by_level k r contacts day true e h = inl (record {
  closed = one_more r.closed contacts k true e h.closed;
  opened = h.opened;
  from = h.from;
  to = h.to;
  in_range = h.in_range;
})
by_level k r contacts day false e h = inr (record {
  closed = h.closed;
  opened = one_more r.opened contacts k false e h.opened;
  from = h.from;
  to = h.to;
  in_range = h.in_range;
})

pub parts_cover : (q : Question) (r : Region) (contacts : Contacts) (day : ℕ) → Covers r contacts day
    → Covers (first_part q r) contacts day ⊎ Covers (second_part q r) contacts day
parts_cover (OfContact k) r contacts day h = by_level k r contacts day (is_closed contacts k) refl h
parts_cover (Day at) r contacts day h = elim (cases_lt day at) [
  | inl before ↦ inl (record {
    closed = h.closed;
    opened = h.opened;
    from = h.from;
    to = before;
    in_range = h.in_range;
  })
  | inr after ↦ inr (record {
    closed = h.closed;
    opened = h.opened;
    from = after;
    to = h.to;
    in_range = h.in_range;
  })
]

-- what holds throughout both parts holds throughout the region
pub by_parts : (q : Question) (r : Region) (P : Contacts → ℕ → Type 0) → Throughout (first_part q r) P
    → Throughout (second_part q r) P → Throughout r P
by_parts q r P first second contacts day h =
    elim (parts_cover q r contacts day h) [ inl a ↦ first contacts day a | inr b ↦ second contacts day b ]

none_known : (c : ℕ) → is_closed (let none : Contacts = record { 0 = 0 } in none) c ≡ true → ⊥
none_known c e = let off = ap (λ (n : ℕ). eqb n 1) (bit_at-zero c) in absurd cc

pub everywhere : (contacts : Contacts) (day : ℕ) → day < FRAMES_A_DAY → Covers everything contacts day
everywhere contacts day low = record {
  closed = λ c within is. absurd (none_known c is);
  opened = λ c within is. absurd (none_known c is);
  from = omega arith;
  to = low;
  in_range = low;
}

-- ---- levels of contacts

pub level_closed : (r : Region) (k : ℕ) (closed : Bool) → k < 16 → is_closed r.closed k ≡ true
    → Throughout r (λ contacts day. is_same_flag (is_closed contacts k) closed ≡ is_same_flag true closed)
level_closed r k closed low known contacts day h =
    ap (λ (b : Bool). is_same_flag b closed) (h.closed k low known)

pub level_open : (r : Region) (k : ℕ) (closed : Bool) → k < 16 → is_closed r.opened k ≡ true
    → Throughout r (λ contacts day. is_same_flag (is_closed contacts k) closed ≡ is_same_flag false closed)
level_open r k closed low known contacts day h =
    ap (λ (b : Bool). is_same_flag b closed) (h.opened k low known)

-- ---- two tests, and more

and_false : (a : Bool) → (a && false) ≡ false
and_false true = refl
and_false false = refl

or_true : (a : Bool) → (a || true) ≡ true
or_true true = refl
or_true false = refl

pub both_decides : (a b : Answer) (r : Region) (f g : Contacts → ℕ → Bool) → Decides a r f → Decides b r g
    → Decides (both a b) r (λ contacts day. f contacts day && g contacts day)
both_decides No b r f g h k = λ contacts day c. ap (λ (x : Bool). x && g contacts day) (h contacts day c)
both_decides Yes Yes r f g h k = λ contacts day c.
    ap (λ (x : Bool). x && g contacts day) (h contacts day c) ∙ k contacts day c
both_decides Yes No r f g h k = λ contacts day c.
    ap (λ (x : Bool). x && g contacts day) (h contacts day c) ∙ k contacts day c
both_decides (Ask q) No r f g h k = λ contacts day c.
    ap (λ (x : Bool). f contacts day && x) (k contacts day c) ∙ and_false (f contacts day)
both_decides Yes (Ask q) r f g h k = tt
both_decides (Ask q) Yes r f g h k = tt
both_decides (Ask q) (Ask p) r f g h k = tt

pub either_decides : (a b : Answer) (r : Region) (f g : Contacts → ℕ → Bool) → Decides a r f → Decides b r g
    → Decides (either a b) r (λ contacts day. f contacts day || g contacts day)
either_decides Yes b r f g h k = λ contacts day c. ap (λ (x : Bool). x || g contacts day) (h contacts day c)
either_decides No Yes r f g h k = λ contacts day c.
    ap (λ (x : Bool). x || g contacts day) (h contacts day c) ∙ k contacts day c
either_decides No No r f g h k = λ contacts day c.
    ap (λ (x : Bool). x || g contacts day) (h contacts day c) ∙ k contacts day c
either_decides (Ask q) Yes r f g h k = λ contacts day c.
    ap (λ (x : Bool). f contacts day || x) (k contacts day c) ∙ or_true (f contacts day)
either_decides No (Ask q) r f g h k = tt
either_decides (Ask q) No r f g h k = tt
either_decides (Ask q) (Ask p) r f g h k = tt

-- tests that agree are answered alike
pub decides_same : (a : Answer) (r : Region) (f g : Contacts → ℕ → Bool)
    → ((contacts : Contacts) (day : ℕ) → day < FRAMES_A_DAY → g contacts day ≡ f contacts day) → Decides a r f
    → Decides a r g
decides_same Yes r f g same h = λ contacts day c. same contacts day c.in_range ∙ h contacts day c
decides_same No r f g same h = λ contacts day c. same contacts day c.in_range ∙ h contacts day c
decides_same (Ask q) r f g same h = tt
