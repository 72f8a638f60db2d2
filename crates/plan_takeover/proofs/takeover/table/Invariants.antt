use Rattle.std.proofs.Common.{◌≡◌, take}
use Rattle.plan_takeover.proofs.takeover.table.Given as goal

abbrev pub invariant-loop-config : goal.invariant-loop-config
invariant-loop-config l = l.table.items ≡ take l.config-index l.configs
