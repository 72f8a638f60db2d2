use Rattle.std.proofs.Common.{◌≡◌, take}
use Rattle.std.specs.List.{flat_map}
use Rattle.plan_explain.specs.Primaries.{primaries_of}
use Rattle.plan_explain.proofs.primary.primaries_of.Given as goal

abbrev pub invariant-loop-service : goal.invariant-loop-service
invariant-loop-service l = l.primaries.items ≡ flat_map (primaries_of (let b = l.before in b.services))
    (take l.service-index l.service-items)
