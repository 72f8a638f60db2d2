use Rattle.script_compiler.proofs.Words.{◌<◌, ◌≡◌, Some, slice_get, ℕ}
use Rattle.script_compiler.proofs.table.is_in_order.Given as goal

abbrev pub invariant-loop-index : goal.invariant-loop-index
invariant-loop-index l = (i k : ℕ) → i < l.index → slice_get l.numbers i ≡ Some k → k ≡ i
