use Rattle.std.proofs.Common.{◌≡◌, ◌++◌, take}
use Rattle.std.specs.List.{flat_map}
use Rattle.plan_explain.specs.Flaws.{unnamed}
use Rattle.plan_explain.proofs.flaw.push_all_unnamed.Given as goal

abbrev pub invariant-loop-sub : goal.invariant-loop-sub
invariant-loop-sub l = l.flaws.items ≡ l.fn.flaws.items ++ flat_map (unnamed l.config) (take l.sub-index l.sub-items)
