use Rattle.std.proofs.Common.{◌≡◌, ◌++◌, take, map}
use Rattle.std.specs.List.{flat_map}
use Rattle.plan_explain.specs.declared.warning.Warning.TheVariants.{Flawed}
use Rattle.plan_explain.specs.Flaws.{unless_among}
use Rattle.plan_explain.proofs.changes.push_flaws.Given as goal

abbrev pub invariant-loop-flaw : goal.invariant-loop-flaw
invariant-loop-flaw l = l.found.items ≡ l.fn.found.items
    ++ map (Flawed l.line) (flat_map (unless_among l.others) (take l.flaw-index l.flaws))
