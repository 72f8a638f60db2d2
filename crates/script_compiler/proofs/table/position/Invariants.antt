use Rattle.script_compiler.proofs.Words.{◌+◌, ◌≢◌, ◌≤◌, Some, length, slice_get, ℕ}
use Rattle.script_compiler.proofs.table.position.Given as goal

abbrev pub invariant-loop-taken : goal.invariant-loop-taken
invariant-loop-taken l = (i : ℕ) → length l.numbers ≤ i + l.taken → slice_get l.numbers i ≢ Some l.number
