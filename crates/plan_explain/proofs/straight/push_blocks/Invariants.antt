use Rattle.std.proofs.Common.{◌≡◌, ◌++◌, take, map}
use Rattle.std.specs.List.{flat_map}
use Rattle.plan_explain.specs.Straight.{straight_in}
use Rattle.plan_explain.proofs.straight.push_blocks.Given as goal

abbrev pub invariant-loop-block : goal.invariant-loop-block
invariant-loop-block l = l.found.items ≡ l.fn.found.items
    ++ flat_map straight_in (map (λ b. b.items) (take l.block-index l.blocks))
