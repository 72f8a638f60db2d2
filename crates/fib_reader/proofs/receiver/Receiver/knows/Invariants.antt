use Rattle.fib_reader.proofs.Words.{◌≡◌, Agrees, Listening, Some, hear_figs}
use Rattle.fib_reader.proofs.receiver.Receiver.knows.Given as goal

abbrev pub invariant-loop-fig : goal.invariant-loop-fig
invariant-loop-fig l = (x : Listening) → Agrees l.basis l.self x → hear_figs l.figs x ≡ Some x
    → hear_figs l.initial.figs x ≡ Some x
