use Rattle.script_config.proofs.PlainScripts.{AreItemsFrom}
use Rattle.script_config.proofs.plain.items_from.Given as goal

abbrev pub invariant-loop-edit : goal.invariant-loop-edit
invariant-loop-edit l = AreItemsFrom l.first l.line l.edits l.edit-index l.items.items
