use Rattle.plan_verifier.specs.Tests.{start_cause}
use Rattle.plan_explain.proofs.Flags.{found}
use Rattle.plan_explain.proofs.stop.opening_cause.Goals as goal

pub returns-in-Err : goal.returns-in-Err
returns-in-Err c = found (start_cause c.args.plan.now c.args.config.now) c.in-Err.cause c.in-Err.ensures.cause
