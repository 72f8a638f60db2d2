-- A frame's instructions determine one final state, and their number is the frame's step count.
use Rattle.plan_runs.proofs.Words.{◌+◌, ◌∙◌, ◌≡◌, ◌≤◌, BurstsAreOne, Executes, Program, State, ap, arith, burst}
use Rattle.plan_runs.proofs.Words.{burst_steps, cond, refl, step, suc, sym, zero, ℕ}

only_one : (p : Program) (s : State) (n : ℕ) (t : State) → Executes p s n t → (m : ℕ) (u : State) → Executes p s m u
    → (m ≡ n) × (u ≡ t)
only_one p s zero t h zero u g = (refl, sym g.1 ∙ h.1)
only_one p s zero t h (suc m) u g = let stops = h.0 in let runs = g.0 in absurd cc
only_one p s (suc n) t h zero u g = let stops = g.0 in let runs = h.0 in absurd cc
only_one p s (suc n) t h (suc m) u g =
    let rest = only_one p (step p s) n t h.2 m u g.2 in
    (ap (λ k. suc k) rest.0, rest.1)

computed : (p : Program) (s : State) (n : ℕ) (t : State) → Executes p s n t → (most : ℕ) → n ≤ most
    → (burst most p s ≡ t) × (burst_steps most p s ≡ n)
computed p s zero t h zero below = (h.1, refl)
computed p s zero t h (suc most) below =
    (ap (λ b. cond b (burst most p (step p s)) s) h.0 ∙ h.1, ap (λ b. cond b (1 + burst_steps most p (step p s)) 0) h.0)
computed p s (suc n) t h zero below = absurd (omega arith)
computed p s (suc n) t h (suc most) below =
    let rest = computed p (step p s) n t h.2 most (omega arith) in
    let one : 1 + n ≡ suc n = omega arith in (
      ap (λ b. cond b (burst most p (step p s)) s) h.0 ∙ rest.0,
      ap (λ b. cond b (1 + burst_steps most p (step p s)) 0) h.0 ∙ ap (λ k. 1 + k) rest.1 ∙ one,
    )

pub bursts_are_one : BurstsAreOne
bursts_are_one p s n t h = record { only = only_one p s n t h; computed = computed p s n t h }
