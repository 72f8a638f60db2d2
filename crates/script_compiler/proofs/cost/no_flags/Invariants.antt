use Rattle.script_compiler.proofs.Words.{◌≡◌, length, trues}
use Rattle.script_compiler.proofs.cost.no_flags.Given as goal

abbrev pub invariant-loop-place : goal.invariant-loop-place
invariant-loop-place l = (length l.places.items ≡ l._place) × (trues l.places.items ≡ 0)
