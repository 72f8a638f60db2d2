use Rattle.fib_reader.proofs.Words.{LeavesRoom, hear_entries, ℕ}
use Rattle.fib_reader.proofs.receiver.Receiver.new_at_entries.Given as goal

abbrev pub invariant-loop-entry : goal.invariant-loop-entry
invariant-loop-entry l =
    (all : ℕ) → LeavesRoom l.self l.new all (hear_entries l.next l.entries)
    → LeavesRoom l.self l.others all (hear_entries l.next l.initial.entries)
