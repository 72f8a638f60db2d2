use Rattle.std.proofs.Common.{◌≡◌, ◌++◌, take}
use Rattle.std.specs.List.{flat_map}
use Rattle.plan_explain.specs.Primaries.{other_primary}
use Rattle.plan_explain.proofs.primary.push_primaries_of.Given as goal

abbrev pub invariant-loop-earlier : goal.invariant-loop-earlier
invariant-loop-earlier l = l.primaries.items ≡ l.fn.primaries.items
    ++ flat_map (other_primary l.service) (take l.earlier-index l.before)
