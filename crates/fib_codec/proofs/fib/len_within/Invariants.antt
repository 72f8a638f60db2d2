use Rattle.fib_codec.proofs.Words.{◌≡◌, ◌≤◌, entries_bytes, length, take}
use Rattle.fib_codec.proofs.fib.len_within.Given as goal

abbrev pub invariant-loop-entry : goal.invariant-loop-entry
invariant-loop-entry l = record {
  counted : l.len ≡ length (entries_bytes (take l.entry-index l.entries));
  within : l.len ≤ l.room;
}
