use Rattle.fib_codec.proofs.Words.{◌++◌, ◌≡◌, AllByRecursion, IsWithin, entries_bytes, take}
use Rattle.fib_codec.proofs.fib.put_entries.Given as goal

abbrev pub invariant-loop-entry : goal.invariant-loop-entry
invariant-loop-entry l = record {
  written : l.out ≡ l.fn.out ++ entries_bytes (take l.entry-index l.entries);
  within : AllByRecursion IsWithin (take l.entry-index l.entries);
}
