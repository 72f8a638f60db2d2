use Rattle.script_config.proofs.Pacing.{PacedSoFar}
use Rattle.script_config.proofs.plan.paced.Given as goal

abbrev pub invariant-loop-edit : goal.invariant-loop-edit
invariant-loop-edit l = PacedSoFar l.full l.edits l.edit-index l.number l.acts.items
