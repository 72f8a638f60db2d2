use Rattle.plan_player.proofs.Words.{mul-mod_left, mul_comm}
use Rattle.plan_player.proofs.stretch.whole_cycle.Goals as goal

pub returns-clause-cycle : goal.returns-clause-cycle
returns-clause-cycle c = rw (c.from-pages.ensures) (mul-mod_left c.args.step c.args.pages)

pub returns-clause-steps : goal.returns-clause-steps
returns-clause-steps c = rw (mul_comm c.args.step c.from-pages.result) (mul-mod_left c.from-pages.result c.args.step)
