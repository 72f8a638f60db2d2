use Rattle.plan_session.proofs.Words.{FindsItem, Ok, Option, Some, subst}
use Rattle.plan_session.proofs.OneByOne.{one_read}
use Rattle.plan_session.proofs.listing.check_items.Goals as goal

pub loop-item-preserved : goal.loop-item-preserved
loop-item-preserved g c =
    let spelled = g.T.Item.spelled in
    let is = g.T.Item.is_item in
    let f : FindsItem spelled is c.loop-item.scanner c.next_item.new.scanner (Ok (Some c.in-Some._item)) =
    subst (λ (o : Option g.row.T.Denot). FindsItem spelled is c.loop-item.scanner c.next_item.new.scanner (Ok o))
    c.in-Some.is c.in_ok-_item.ensures in
    one_read spelled is c.args.scanner.now c.loop-item.scanner c.next_item.new.scanner c.in-Some._item
    c.uniqueness.ensures.unique c.uniqueness.ensures.some c.loop-item.invariant f
