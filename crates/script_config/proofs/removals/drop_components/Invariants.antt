use Rattle.script_config.proofs.Loops.{AreDropped}
use Rattle.script_config.proofs.removals.drop_components.Given as goal

abbrev pub invariant-loop-place : goal.invariant-loop-place
invariant-loop-place l = AreDropped l.sid l.components l.place l.initial.edits.items l.edits.items

abbrev pub decreases-loop-place : goal.decreases-loop-place
decreases-loop-place l = l.place
