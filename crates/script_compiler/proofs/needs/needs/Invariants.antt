use Rattle.script_compiler.proofs.Words.{◌≡◌, get_or, instrs_of, longest, ℕ}
use Rattle.script_compiler.proofs.needs.needs.Given as goal

abbrev pub invariant-loop-iteration : goal.invariant-loop-iteration
invariant-loop-iteration l = (pc : ℕ) → get_or l.further.items pc 0 ≡ longest (instrs_of l.lines) l._iteration pc
