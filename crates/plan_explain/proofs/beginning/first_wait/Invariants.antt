use Rattle.std.proofs.Common.{◌≡◌, drop}
use Rattle.plan_explain.specs.Beginnings.{first_wait}
use Rattle.plan_explain.proofs.beginning.first_wait.Given as goal

abbrev pub invariant-loop-line : goal.invariant-loop-line
invariant-loop-line l = first_wait (drop l.line-index l.lines) ≡ first_wait l.lines
