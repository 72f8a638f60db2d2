use Rattle.std.proofs.Common.{refl}
use Rattle.plan_verifier.specs.Tests.{start_cause}
use Rattle.schedule_compiler.proofs.Blaming.{found_cause}
use Rattle.schedule_compiler.proofs.rounds.test_alone.Goals as goal

pub returns-in-Err : goal.returns-in-Err
returns-in-Err c = (
  c.line.ensures,
  refl,
  rw (c.header.ensures.value)
      at (found_cause (start_cause c.header.result c.args.config.now) c.in-Err.cause c.in-Err.ensures.cause),
)
