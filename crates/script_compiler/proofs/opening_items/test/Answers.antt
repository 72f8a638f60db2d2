use Rattle.script_compiler.proofs.Words.{refl, sym}
use Rattle.script_compiler.proofs.Refusing.{opening_why}
use Rattle.script_compiler.proofs.opening_items.test.Goals as goal

pub returns-in-Err-clause-why : goal.returns-in-Err-clause-why
returns-in-Err-clause-why c = rw (c.refused.ensures) (
  refl,
  opening_why c.args.plan.now c.args.config.now c.in-Err.cause (sym c.in-Err.ensures.cause),
)
