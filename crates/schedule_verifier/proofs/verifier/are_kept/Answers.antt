use Rattle.schedule_verifier.proofs.Words.{◌≤◌, arith, length}
use Rattle.schedule_verifier.proofs.Tops.{all_labels, one_more_item}
use Rattle.schedule_verifier.proofs.verifier.are_kept.Goals as goal

pub loop-label-preserved : goal.loop-label-preserved
loop-label-preserved c =
    one_more_item c.args.schedule.now c.args.code.now c.loop-label.label-index c.labels-label-items.result.now _
    c.labels-label-items.ensures.value c.loop-label-test.true c.loop-label.invariant
    (c.is_label_kept.ensures c.if-not-is_label_kept.false)

pub returns : goal.returns
returns c told =
    let past : length c.labels-label-items.result.now ≤ c.loop-label.label-index =
    omega (arith, c.loop-label-test.false) in
    all_labels c.args.schedule.now c.args.code.now c.loop-label.label-index
    (rw c.labels-label-items.ensures.value at past) c.loop-label.invariant
