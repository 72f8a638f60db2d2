use Rattle.script_config.proofs.Words.{◌+◌, subst, sym}
use Rattle.script_config.proofs.PlainScripts.{AreItemsFrom, item_on}
use Rattle.script_config.proofs.plain.items_from.Goals as goal

pub loop-edit-preserved : goal.loop-edit-preserved
loop-edit-preserved c =
    subst (AreItemsFrom c.args.first (c.loop-edit.line + 1) c.args.edits.now (c.loop-edit.edit-index + 1))
    (sym c.in_ok-put.ensures)
    (item_on c.args.first c.loop-edit.line c.args.edits.now c.loop-edit.edit-index c.edit-item.result
    c.loop-edit.items.items c.loop-edit-test.true c.edit-item.is c.loop-edit.invariant)
