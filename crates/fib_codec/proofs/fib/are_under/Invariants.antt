use Rattle.fib_codec.proofs.Words.{AllByRecursion, IsUnder, take}
use Rattle.fib_codec.proofs.fib.are_under.Given as goal

abbrev pub invariant-loop-entry : goal.invariant-loop-entry
invariant-loop-entry l = AllByRecursion (IsUnder l.head) (take l.entry-index l.entries)
