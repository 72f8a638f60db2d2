use Rattle.fib_reader.proofs.Words.{◌≡◌, AllByRecursion, Some, hear_entry}
use Rattle.fib_reader.proofs.receiver.Receiver.knows_entries.Given as goal

abbrev pub invariant-loop-entry : goal.invariant-loop-entry
invariant-loop-entry l =
    AllByRecursion (λ raw. hear_entry l.next raw l.self ≡ Some l.self) l.entries
    → AllByRecursion (λ raw. hear_entry l.next raw l.self ≡ Some l.self) l.initial.entries
