use Rattle.fib_reader.proofs.Words.{KeepsCurrent, hear_figs}
use Rattle.fib_reader.proofs.basis.are_of_next.Given as goal

abbrev pub invariant-loop-fig : goal.invariant-loop-fig
invariant-loop-fig l = KeepsCurrent (hear_figs l.figs) → KeepsCurrent (hear_figs l.initial.figs)
