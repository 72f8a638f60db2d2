use Rattle.plan_session.proofs.Words.{bytes_left}
use Rattle.plan_session.proofs.OneByOne.{HaveRead}
use Rattle.plan_session.proofs.listing.check_items.Given as goal

abbrev pub invariant-loop-item : goal.invariant-loop-item
invariant-loop-item g l = HaveRead g.T.Item.spelled g.T.Item.is_item l.initial.scanner l.scanner

abbrev pub decreases-loop-item : goal.decreases-loop-item
decreases-loop-item g l = bytes_left l.scanner
