use Rattle.script_config.proofs.Loops.{common_there}
use Rattle.script_config.proofs.removals.common.Goals as goal

pub returns-else-place-others-clause-after_common : goal.returns-else-place-others-clause-after_common
returns-else-place-others-clause-after_common c = common_there _ _ _ c.if-place-others.false c.loop-place.invariant
