use Rattle.script_compiler.proofs.Words.{◌<◌, ◌≤◌, get_or, ℕ}
use Rattle.script_compiler.proofs.longest_path.greatest.Given as goal

abbrev pub invariant-loop-pc : goal.invariant-loop-pc
invariant-loop-pc l = (l.greatest < l.count) × ((k : ℕ) → k < l.pc → get_or l.needs k 0 ≤ get_or l.needs l.greatest 0)
