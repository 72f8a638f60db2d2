use Rattle.std.proofs.Common.{◌≡◌, drop}
use Rattle.plan_explain.specs.DayWaits.{moment_in}
use Rattle.plan_explain.proofs.day_wait.moment_in.Given as goal

abbrev pub invariant-loop-alternative : goal.invariant-loop-alternative
invariant-loop-alternative l = moment_in (drop l.alternative-index l.alternatives) ≡ moment_in l.alternatives
