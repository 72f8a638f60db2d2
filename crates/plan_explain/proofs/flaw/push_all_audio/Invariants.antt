use Rattle.std.proofs.Common.{◌≡◌, ◌++◌, take}
use Rattle.std.specs.List.{flat_map}
use Rattle.plan_explain.specs.Flaws.{long_audio}
use Rattle.plan_explain.proofs.flaw.push_all_audio.Given as goal

abbrev pub invariant-loop-service : goal.invariant-loop-service
invariant-loop-service l = l.flaws.items ≡ l.fn.flaws.items ++ flat_map (long_audio) (take l.service-index l.services)
