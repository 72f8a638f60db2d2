use Rattle.plan_code.proofs.LoopLaws.{loops_run}
use Rattle.plan_code.proofs.laws.loops.Goals as goal

pub returns : goal.returns
returns c = record { as_set = loops_run }
