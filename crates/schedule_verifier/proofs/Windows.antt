-- Windows of the day.
use Rattle.schedule_verifier.proofs.Words.{◌%◌, ◌+◌, ◌-◌, ◌<◌, ◌≡◌, ◌≢◌, ◌≤◌, ◌⊎◌, Bool, FRAMES_A_DAY, arith, cases_lt}
use Rattle.schedule_verifier.proofs.Words.{earlier, false, frames_until, inl, inr, is_in_window, lt-ltb, ltb-true, refl}
use Rattle.schedule_verifier.proofs.Words.{sym}
use Rattle.schedule_verifier.proofs.Words.{true, ℕ}
use Rattle.plan_code.proofs.Windows.{windows_are_half_open}

-- no frame comes before itself
pub none_before : (until day : ℕ) → is_in_window until until day ≡ true → until < FRAMES_A_DAY → ⊥
none_before until day h low =
    let lt : frames_until until day < frames_until until until = ltb-true _ _ h in
    let none : frames_until until until ≡ 0 = omega arith in
    omega (arith, lt, none)

-- a frame of the day comes before another one
pub now_before : (until day : ℕ) → day < FRAMES_A_DAY → until < FRAMES_A_DAY → until ≢ day
    → is_in_window day until day ≡ true
now_before until day low below apart =
    let none : frames_until day day ≡ 0 = omega arith in
    let some : 0 < frames_until day until =
    elim (cases_lt until day) [ inl lt ↦ omega arith | inr ge ↦ omega (arith, apart) ] in
    lt-ltb _ _ (omega (arith, none, some))

-- what comes before it from the next frame on comes before it from this one on
pub later_before : (until day later : ℕ) → day < FRAMES_A_DAY → until < FRAMES_A_DAY → later < FRAMES_A_DAY
    → until ≢ day → is_in_window ((day + 1) % FRAMES_A_DAY) until later ≡ true → is_in_window day until later ≡ true
later_before until day later low below here apart h =
    let lt : frames_until ((day + 1) % FRAMES_A_DAY) later < frames_until ((day + 1) % FRAMES_A_DAY) until =
    ltb-true _ _ h in
    lt-ltb _ _ (omega (arith, lt, apart))

-- ---- windows and regions

bool_same : (x y : Bool) → (x ≡ true → y ≡ true) → (y ≡ true → x ≡ true) → x ≡ y
bool_same true y f g = sym (f refl)
bool_same false true f g = g refl
bool_same false false f g = refl

not_inside : (lo hi at : ℕ) → ((lo < at) × (at < hi) → ⊥) → (at ≤ lo) ⊎ (hi ≤ at)
not_inside lo hi at h = elim (cases_lt lo at) [
  | inl lt ↦ elim (cases_lt at hi) [ inl below ↦ absurd (h (lt, below)) | inr above ↦ inr above ]
  | inr ge ↦ inl ge
]

-- a window that neither begins nor ends between two frames of the day has both or neither
pub window_same : (from to lo hi day : ℕ) → from < FRAMES_A_DAY → to < FRAMES_A_DAY → day < FRAMES_A_DAY → lo ≤ day
    → day < hi → ((lo < from) × (from < hi) → ⊥) → ((lo < to) × (to < hi) → ⊥)
    → is_in_window from to day ≡ is_in_window from to lo
window_same from to lo hi day low_from low_to low above below not_from not_to =
    let f = not_inside lo hi from not_from in
    let t = not_inside lo hi to not_to in
    let here = windows_are_half_open from to day low_from low_to low in
    let there = windows_are_half_open from to lo low_from low_to (omega arith) in
    elim (cases_lt to from) [
      | inl over ↦
          bool_same _ _
          (λ e. (there.over_midnight over).1 (elim ((here.over_midnight over).0 e) [
            | inl a ↦ elim f [ inl x ↦ inl x | inr y ↦ absurd (omega (arith, a, y)) ]
            | inr b ↦ inr (omega (arith, b))
          ]))
          (λ e. (here.over_midnight over).1 (elim ((there.over_midnight over).0 e) [
            | inl a ↦ inl (omega (arith, a))
            | inr b ↦ elim t [ inl x ↦ absurd (omega (arith, b, x)) | inr y ↦ inr (omega (arith, y)) ]
          ]))
      | inr within ↦
          bool_same _ _
          (λ e. let p = (here.within_a_day within).0 e in (there.within_a_day within).1
          (elim f [ inl x ↦ x | inr y ↦ absurd (omega (arith, p.0, y)) ], omega (arith, p.1)))
          (λ e. let p = (there.within_a_day within).0 e in (here.within_a_day within).1
          (omega (arith, p.0), elim t [ inl x ↦ absurd (omega (arith, p.1, x)) | inr y ↦ omega (arith, y) ]))
    ]

-- a window some frames later is the window that begins and ends so many frames earlier
until_later : (from n day : ℕ) → from < FRAMES_A_DAY → n < FRAMES_A_DAY → day < FRAMES_A_DAY
    → frames_until from ((day + n) % FRAMES_A_DAY) ≡ frames_until (earlier from n) day
until_later from n day low few here = omega arith

until_earlier : (from n to : ℕ) → from < FRAMES_A_DAY → n < FRAMES_A_DAY → to < FRAMES_A_DAY
    → frames_until from to ≡ frames_until (earlier from n) (earlier to n)
until_earlier from n to low few here = omega arith

pub window_later : (from to n day : ℕ) → from < FRAMES_A_DAY → to < FRAMES_A_DAY → n < FRAMES_A_DAY
    → day < FRAMES_A_DAY
    → is_in_window from to ((day + n) % FRAMES_A_DAY) ≡ is_in_window (earlier from n) (earlier to n) day
window_later from to n day low_from low_to few low =
    cc (until_later from n day low_from few low, until_earlier from n to low_from few low_to)

-- ---- windows of waits

-- from a frame of the day on to a later one
pub straight : (lo until day later : ℕ) → lo ≤ day → day < until → until < FRAMES_A_DAY → later < FRAMES_A_DAY
    → is_in_window day until later ≡ true → (lo ≤ later) × (later < until)
straight lo until day later above before low here h =
    let lt : frames_until day later < frames_until day until = ltb-true _ _ h in
    let end : frames_until day until ≡ until - day = omega arith in
    elim (cases_lt later day) [
      | inl early ↦
          let wraps : frames_until day later ≡ later + (FRAMES_A_DAY - day) = omega arith in
          absurd (omega (arith, wraps, end, lt))
      | inr late ↦
          let goes : frames_until day later ≡ later - day = omega arith in
          (omega (arith, late), omega (arith, goes, end, lt))
    ]

-- over midnight
pub around : (lo until day later : ℕ) → lo ≤ day → until < lo → day < FRAMES_A_DAY → later < FRAMES_A_DAY
    → is_in_window day until later ≡ true → (lo ≤ later) ⊎ (later < until)
around lo until day later above before low here h =
    let lt : frames_until day later < frames_until day until = ltb-true _ _ h in
    let end : frames_until day until ≡ until + (FRAMES_A_DAY - day) = omega arith in
    elim (cases_lt later day) [
      | inl early ↦
          let wraps : frames_until day later ≡ later + (FRAMES_A_DAY - day) = omega arith in
          inr (omega (arith, wraps, end, lt))
      | inr late ↦ inl (omega (arith, late))
    ]
