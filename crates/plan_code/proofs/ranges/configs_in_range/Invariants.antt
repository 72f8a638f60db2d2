use Rattle.plan_code.proofs.Words.{AllByRecursion, IsConfiguration, take}
use Rattle.plan_code.proofs.ranges.configs_in_range.Given as goal

abbrev pub invariant-loop-config : goal.invariant-loop-config
invariant-loop-config l = AllByRecursion IsConfiguration (take l.config-index l.configs)
