use Rattle.plan_map.proofs.Words.{◌≡◌, drop, ways_from}
use Rattle.plan_map.proofs.lead.ways_to.Given as goal

abbrev pub invariant-loop-reached : goal.invariant-loop-reached
invariant-loop-reached l = ways_from l.pc l.ways (drop l.reached-index l.passed) ≡ ways_from l.pc l.fn.before l.passed
