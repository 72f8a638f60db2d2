use Rattle.std.proofs.Common.{take}
use Rattle.plan_explain.specs.Repeats.{AreEachOnce}
use Rattle.plan_explain.proofs.once.each_once.Given as goal

abbrev pub invariant-loop-warning : goal.invariant-loop-warning
invariant-loop-warning l = AreEachOnce (take l.warning-index l.found) l.kept.items
