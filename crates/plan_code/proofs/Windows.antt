-- A window of the day begins with its first frame and ends before its last one.
use Rattle.plan_code.proofs.Words.{◌+◌, ◌-◌, ◌<◌, ◌↔◌, ◌≡◌, ◌≤◌, ◌⊎◌, WindowsAreHalfOpen, arith, cases_lt, frames_until}
use Rattle.plan_code.proofs.Words.{inl, inr, lt-ltb, ltb, ltb-true, true, ℕ}
use Rattle.plan_code.specs.declared.limits.TheConstants.{FRAMES_A_DAY}

-- where the frame comes at or after the other one, and where it comes before it
until_after : (from to : ℕ) → to < FRAMES_A_DAY → from ≤ to → frames_until from to ≡ to - from
until_after from to below after = omega arith

until_before : (from to : ℕ) → from < FRAMES_A_DAY → to < from → frames_until from to ≡ to + (FRAMES_A_DAY - from)
until_before from to below before = omega arith

in_window : (a b : ℕ) → (ltb a b ≡ true) ↔ (a < b)
in_window a b = (λ e. ltb-true a b e, λ lt. lt-ltb a b lt)

within_a_day : (from to day : ℕ) → to < FRAMES_A_DAY → from < FRAMES_A_DAY → day < FRAMES_A_DAY → from ≤ to
    → (frames_until from day < frames_until from to) ↔ (from ≤ day) × (day < to)
within_a_day from to day below first here after =
    elim (cases_lt day from) [
      | inl early ↦
          let now = until_before from day first early in
          (λ lt. absurd (omega (arith, now, lt)), λ h. absurd (omega (arith, h.0, early)))
      | inr late ↦
          (λ lt. (late, omega (arith, lt)), λ h. omega (arith, h.1))
    ]

over_midnight : (from to day : ℕ) → from < FRAMES_A_DAY → day < FRAMES_A_DAY → to < from
    → (frames_until from day < frames_until from to) ↔ (from ≤ day) ⊎ (day < to)
over_midnight from to day first here before =
    elim (cases_lt day from) [
      | inl early ↦
          let now = until_before from day first early in (
            λ lt. inr (omega (arith, now, lt)),
            λ h.
                elim h [ inl late ↦ absurd (omega (arith, late, early)) | inr lt ↦ omega (arith, now, lt) ],
          )
      | inr late ↦
          let now = until_after from day here late in
          (λ lt. inl late, λ h. omega (arith, now, before, here))
    ]

through : {P Q R : Type 0} → P ↔ Q → Q ↔ R → P ↔ R
through a b = (λ p. b.0 (a.0 p), λ r. a.1 (b.1 r))

pub windows_are_half_open : WindowsAreHalfOpen
windows_are_half_open from to day first below here = record {
  within_a_day = λ after. through (in_window _ _) (within_a_day from to day below first here after);
  over_midnight = λ before. through (in_window _ _) (over_midnight from to day first here before);
}
