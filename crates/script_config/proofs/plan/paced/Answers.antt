use Rattle.script_config.proofs.Pacing.{one_paced}
use Rattle.script_config.proofs.plan.paced.Goals as goal

pub loop-edit-preserved : goal.loop-edit-preserved
loop-edit-preserved c =
    rw c.in_ok-put_edit.ensures
    (one_paced c.args.full c.args.edits.now c.loop-edit.edit-index c.loop-edit.number c.edit-item.result
    c.loop-edit.acts.items
    c.loop-edit-test.true c.edit-item.is c.loop-edit.invariant)
