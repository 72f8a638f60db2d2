-- Invariants of `run` in src/burst.rt
use Rattle.plan_player.proofs.Words.{◌-◌, state_of}
use Rattle.plan_player.proofs.Remaining.{Remains}
use Rattle.plan_player.proofs.machine.burst.run.Given as goal

abbrev pub invariant-instructions : goal.invariant-instructions
invariant-instructions g l = Remains l.code (state_of g.S.Store.content l.initial.machine) l.steps
    (state_of g.S.Store.content l.machine)

abbrev pub decreases-instructions : goal.decreases-instructions
decreases-instructions g l = 255 - l.steps
