use Rattle.std.proofs.Common.{◌≡◌, ◌++◌, take, map}
use Rattle.plan_explain.specs.declared.warning.Warning.TheVariants.{Unreached}
use Rattle.plan_explain.proofs.warnings.push_unreached.Given as goal

abbrev pub invariant-loop-line : goal.invariant-loop-line
invariant-loop-line l = l.found.items ≡ l.fn.found.items ++ map Unreached (take l.line-index l.lines)
