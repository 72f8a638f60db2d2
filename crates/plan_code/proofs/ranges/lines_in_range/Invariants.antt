use Rattle.plan_code.proofs.Words.{AllByRecursion, IsLine, take}
use Rattle.plan_code.proofs.ranges.lines_in_range.Given as goal

abbrev pub invariant-loop-line : goal.invariant-loop-line
invariant-loop-line l = AllByRecursion IsLine (take l.line-index l.lines)
