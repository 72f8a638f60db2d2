use Rattle.script_compiler.proofs.Words.{◌<◌, ◌≤◌, get_or, ℕ}
use Rattle.script_compiler.proofs.needs.first_over.Given as goal

abbrev pub invariant-loop-pc : goal.invariant-loop-pc
invariant-loop-pc l = (k : ℕ) → k < l.pc → get_or l.needs k 0 ≤ l.budget
