use Rattle.fib_reader.proofs.Words.{LeavesRoom, hear_figs, ℕ}
use Rattle.fib_reader.proofs.receiver.Receiver.has_room.Given as goal

abbrev pub invariant-loop-fig : goal.invariant-loop-fig
invariant-loop-fig l =
    (all : ℕ) → LeavesRoom l.self l.new all (hear_figs l.figs) → LeavesRoom l.self 0 all (hear_figs l.initial.figs)
