use Rattle.plan_session.proofs.Words.{err_from_is_err_and}
use Rattle.plan_session.proofs.OneByOne.{fault_of_text}
use Rattle.plan_session.proofs.listing.list_items.Goals as goal

pub returns-in_err-check_items-clause-fault : goal.returns-in_err-check_items-clause-fault
returns-in_err-check_items-clause-fault g c =
    let p = err_from_is_err_and c.from_residual-in_err-check_items.result
    c.from_residual-in_err-check_items.ensures.1 in
    rw (p.1) (fault_of_text g.T.Item.spelled g.T.Item.is_item c.args.text.now c.new-scanner.result
    c.in_err-check_items.field-0.0 p.0 c.new-scanner.ensures p.2 c.in_err-check_items.ensures.fault)
