use Rattle.std.proofs.Common.{◌≡◌, drop}
use Rattle.schedule_compiler.specs.Refusals.{edited}
use Rattle.schedule_compiler.proofs.states.apply_all.Given as goal

abbrev pub invariant-loop-edit : goal.invariant-loop-edit
invariant-loop-edit l = (edited l.edits l.fn.config ≡ edited (drop l.edit-index l.edits) l.config)
