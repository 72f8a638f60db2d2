use Rattle.plan_map.proofs.Words.{◌≡◌, clash_with, drop}
use Rattle.plan_map.proofs.layout.clash_with.Given as goal

abbrev pub invariant-loop-place : goal.invariant-loop-place
invariant-loop-place l = clash_with l.sub (drop l.place-index l.layout) ≡ clash_with l.sub l.layout
