use Rattle.stream_check.proofs.Beginning.{knows_nothing}
use Rattle.stream_check.proofs.checker_state.CheckerState.new.Goals as goal

pub returns-clause-knows : goal.returns-clause-knows
returns-clause-knows c = rw (
  c.step.ensures.value,
  c.from.ensures,
  c.from-2.ensures,
  c.new.ensures,
  c.new-2.ensures,
  c.new-3.ensures,
) (knows_nothing _ _)
