use Rattle.std.proofs.Common.{◌≡◌, drop}
use Rattle.plan_explain.specs.DayWaits.{new_way}
use Rattle.plan_explain.specs.DayTraps.{trap_ahead}
use Rattle.plan_explain.proofs.day_trap.trap_ahead.Given as goal

abbrev pub invariant-loop-line : goal.invariant-loop-line
invariant-loop-line l = trap_ahead l.passage l.way (drop l.line-index l.lines)
    ≡ trap_ahead l.passage (new_way l.passage.from) l.lines
