use Rattle.fib_reader.proofs.Words.{◌≡◌, hear_figs, length}
use Rattle.fib_reader.proofs.receiver.Receiver.hear_figs.Given as goal

abbrev pub invariant-loop-fig : goal.invariant-loop-fig
invariant-loop-fig l = hear_figs l.figs l.self ≡ hear_figs l.initial.figs l.initial.self

abbrev pub decreases-loop-fig : goal.decreases-loop-fig
decreases-loop-fig l = length l.figs
