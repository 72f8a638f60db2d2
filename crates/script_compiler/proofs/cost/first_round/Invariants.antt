use Rattle.script_compiler.proofs.Words.{◌<◌, ClosesCycle, instrs_of, ℕ}
use Rattle.script_compiler.proofs.cost.first_round.Given as goal

abbrev pub invariant-loop-pc : goal.invariant-loop-pc
invariant-loop-pc l = (k : ℕ) → k < l.pc → ClosesCycle (instrs_of l.lines) k → ⊥
