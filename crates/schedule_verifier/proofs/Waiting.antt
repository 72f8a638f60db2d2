-- What is due throughout a wait.
use Rattle.schedule_verifier.proofs.Words.{◌<◌, ◌≡◌, ◌≤◌, Bool, Configuration, Contacts, Covers, FRAMES_A_DAY}
use Rattle.schedule_verifier.proofs.Words.{IsAway, Lasts, None, Region, Some, Throughout, Tree, any_closed, any_open}
use Rattle.schedule_verifier.proofs.Words.{arith, due, false, inl, inr, is_closed, not, refl, true, ℕ}
use Rattle.plan_code.proofs.Meeting.{closed_is, is_closed_one, open_is, is_open_one}
use Rattle.schedule_verifier.proofs.Windows.{straight, around}

pub not_is : (b : Bool) → not b ≡ true → b ≡ false
not_is false e = refl
not_is true e = absurd cc

-- ---- the contacts of a wait

-- contacts of a set that is known to be open are open, and so for those that are closed
pub away_from : (r : Region) (closed opened : Contacts) → any_open closed r.opened ≡ false
    → any_open opened r.closed ≡ false → Throughout r (λ contacts day. IsAway closed opened contacts)
away_from r closed opened all_open all_closed contacts day h =
    record {
      closed_none = no_closed (any_closed closed contacts) refl;
      opened_none = no_open (any_open opened contacts) refl;
    }
  where
    known_open : (c : ℕ) → c < 16 → is_closed closed c ≡ true → (b : Bool) → is_closed r.opened c ≡ b
        → is_closed r.opened c ≡ true
    known_open c low has true e = e
    known_open c low has false e = let one = is_open_one closed r.opened c low has e in absurd cc

    known_closed : (c : ℕ) → c < 16 → is_closed opened c ≡ true → (b : Bool) → is_closed r.closed c ≡ b
        → is_closed r.closed c ≡ true
    known_closed c low has true e = e
    known_closed c low has false e = let one = is_open_one opened r.closed c low has e in absurd cc

    no_closed : (b : Bool) → any_closed closed contacts ≡ b → any_closed closed contacts ≡ false
    no_closed false e = e
    no_closed true e =
        let one = closed_is closed contacts e in
        let level = h.opened one.0 one.1 (known_open one.0 one.1 one.2 (is_closed r.opened one.0) refl) in
        let other = one.3 in
        absurd cc

    no_open : (b : Bool) → any_open opened contacts ≡ b → any_open opened contacts ≡ false
    no_open false e = e
    no_open true e =
        let one = open_is opened contacts e in
        let level = h.closed one.0 one.1 (known_closed one.0 one.1 one.2 (is_closed r.closed one.0) refl) in
        let other = one.3 in
        absurd cc

abbrev pub waiting : (closed opened : Contacts) → (from to : ℕ) → Region
waiting closed opened from to = record { closed = opened; opened = closed; from = from; to = to }

-- while the contacts of a wait are away, a region of it covers its frames of the day
waits_there : (closed opened : Contacts) (from to : ℕ) (contacts : Contacts) (later : ℕ) → IsAway closed opened contacts
    → later < FRAMES_A_DAY → from ≤ later → later < to → Covers (waiting closed opened from to) contacts later
waits_there closed opened from to contacts later away here above below =
    record {
      closed = λ c low has. still_closed c low has (is_closed contacts c) refl;
      opened = λ c low has. still_open c low has (is_closed contacts c) refl;
      from = above;
      to = below;
      in_range = here;
    }
  where
    still_closed : (c : ℕ) → c < 16 → is_closed opened c ≡ true → (b : Bool) → is_closed contacts c ≡ b
        → is_closed contacts c ≡ true
    still_closed c low has true e = e
    still_closed c low has false e =
        let one = is_open_one opened contacts c low has e in let none = away.opened_none in absurd cc

    still_open : (c : ℕ) → c < 16 → is_closed closed c ≡ true → (b : Bool) → is_closed contacts c ≡ b
        → is_closed contacts c ≡ false
    still_open c low has false e = e
    still_open c low has true e =
        let one = is_closed_one closed contacts c low has e in let none = away.closed_none in absurd cc

-- ---- the frames of the day of a wait

abbrev pub IsDue : Tree → Configuration → Contacts → ℕ → Type 0
IsDue s c contacts day = due s contacts day ≡ c

pub lasts_always : (s : Tree) (c : Configuration) (r : Region) (closed opened : Contacts)
    → Throughout (waiting closed opened 0 FRAMES_A_DAY) (IsDue s c)
    → Throughout r (λ contacts day. Lasts s c closed opened None day)
lasts_always s c r closed opened all contacts day h = (
  λ e. cc,
  λ others later here away before.
      all others later (waits_there closed opened 0 FRAMES_A_DAY others later away here (omega arith) here),
)

same_frame : (until day : ℕ) → Some until ≡ Some day → until ≡ day
same_frame until day e = cc e

pub lasts_straight : (s : Tree) (c : Configuration) (r : Region) (closed opened : Contacts) (until : ℕ)
    → until < FRAMES_A_DAY → r.to ≤ until
    → Throughout (waiting closed opened r.from until) (IsDue s c)
    → Throughout r (λ contacts day. Lasts s c closed opened (Some until) day)
lasts_straight s c r closed opened until low ends all contacts day h =
    let before : day < until = omega (arith, h.to, ends) in (
      λ e. let same = same_frame until day e in omega (arith, same, before),
      λ others later here away ahead.
          let p = straight r.from until day later h.from before low here ahead in
          all others later (waits_there closed opened r.from until others later away here p.0 p.1),
    )

pub lasts_around : (s : Tree) (c : Configuration) (r : Region) (closed opened : Contacts) (until : ℕ)
    → until < r.from
    → Throughout (waiting closed opened r.from FRAMES_A_DAY) (IsDue s c)
    → Throughout (waiting closed opened 0 until) (IsDue s c)
    → Throughout r (λ contacts day. Lasts s c closed opened (Some until) day)
lasts_around s c r closed opened until after evening morning contacts day h = (
  λ e. let same = same_frame until day e in omega (arith, same, after, h.from),
  λ others later here away ahead.
      elim (around r.from until day later h.from after h.in_range here ahead) [
        | inl late ↦
            evening others later (waits_there closed opened r.from FRAMES_A_DAY others later away here late here)
        | inr early ↦
            morning others later (waits_there closed opened 0 until others later away here (omega arith) early)
      ],
)
