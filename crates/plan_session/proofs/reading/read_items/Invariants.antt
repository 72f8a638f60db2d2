use Rattle.plan_session.proofs.Words.{◌++◌, HoldsItems, List, Lists, bytes_left}
use Rattle.plan_session.proofs.reading.read_items.Given as goal

-- the text lists the items so far, and then those that are left
abbrev pub invariant-loop-item : goal.invariant-loop-item
invariant-loop-item g l =
    (rest : List g.row.T.Denot) × HoldsItems g.T.Item.spelled g.T.Item.is_item l.fn.text (l.items.items ++ rest)
    × Lists g.T.Item.spelled g.T.Item.is_item l.left rest

abbrev pub decreases-loop-item : goal.decreases-loop-item
decreases-loop-item g l = bytes_left l.left
