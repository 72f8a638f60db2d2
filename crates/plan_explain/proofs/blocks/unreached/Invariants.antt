use Rattle.std.proofs.Common.{◌≡◌, take, map}
use Rattle.std.specs.List.{flat_map}
use Rattle.plan_explain.specs.Blocks.{unreached_of}
use Rattle.plan_explain.proofs.blocks.unreached.Given as goal

abbrev pub invariant-loop-block : goal.invariant-loop-block
invariant-loop-block l = l.found.items ≡ flat_map (unreached_of l.lines)
    (map (λ b. b.items) (take l.block-index l.blocks))
