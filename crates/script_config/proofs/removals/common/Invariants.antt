use Rattle.script_config.proofs.Words.{◌-◌, length}
use Rattle.script_config.proofs.Loops.{IsCommon}
use Rattle.script_config.proofs.removals.common.Given as goal

abbrev pub invariant-loop-place : goal.invariant-loop-place
invariant-loop-place l = IsCommon l.components l.others l.place

abbrev pub decreases-loop-place : goal.decreases-loop-place
decreases-loop-place l = length l.components - l.place
