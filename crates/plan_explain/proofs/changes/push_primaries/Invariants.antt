use Rattle.std.proofs.Common.{◌≡◌, ◌++◌, take, map}
use Rattle.plan_explain.specs.declared.warning.Warning.TheVariants.{OtherPrimary}
use Rattle.plan_explain.proofs.changes.push_primaries.Given as goal

abbrev pub invariant-loop-primary : goal.invariant-loop-primary
invariant-loop-primary l = l.found.items ≡ l.fn.found.items
    ++ map (OtherPrimary l.line) (take l.primary-index l.primaries)
