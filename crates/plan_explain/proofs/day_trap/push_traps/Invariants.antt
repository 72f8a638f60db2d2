use Rattle.std.proofs.Common.{◌≡◌, ◌++◌, length}
use Rattle.plan_explain.specs.DayTraps.{traps_from, traps}
use Rattle.plan_explain.proofs.day_trap.push_traps.Given as goal

abbrev pub invariant-loop-line : goal.invariant-loop-line
invariant-loop-line l = l.found.items ++ traps_from l.lines l.rest ≡ l.fn.found.items ++ traps l.lines

abbrev pub decreases-loop-line : goal.decreases-loop-line
decreases-loop-line l = length l.rest
