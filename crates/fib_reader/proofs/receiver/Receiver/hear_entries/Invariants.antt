use Rattle.fib_reader.proofs.Words.{◌≡◌, hear_entries, length}
use Rattle.fib_reader.proofs.receiver.Receiver.hear_entries.Given as goal

abbrev pub invariant-loop-entry : goal.invariant-loop-entry
invariant-loop-entry l = hear_entries l.next l.entries l.self ≡ hear_entries l.next l.initial.entries l.initial.self

abbrev pub decreases-loop-entry : goal.decreases-loop-entry
decreases-loop-entry l = length l.entries
