use Rattle.schedule_verifier.proofs.Words.{◌<◌, ReturnsFrom, ℕ}
use Rattle.schedule_verifier.proofs.verifier.is_top.Given as goal

abbrev pub invariant-loop-at : goal.invariant-loop-at
invariant-loop-at l = (from : ℕ) → from < l.at → ReturnsFrom l.code from l.pc → ⊥
