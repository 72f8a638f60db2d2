use Rattle.script_compiler.proofs.Words.{◌<◌, ◌≢◌, Some, slice_get, ℕ}
use Rattle.script_compiler.proofs.pool.find.Given as goal

abbrev pub invariant-loop-index : goal.invariant-loop-index
invariant-loop-index l = (i : ℕ) → i < l.index → slice_get l.configs i ≢ Some l.config
