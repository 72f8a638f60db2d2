use Rattle.plan_map.proofs.Places.{subs_more}
use Rattle.plan_map.proofs.layout.subs_of.Goals as goal

pub loop-row-preserved : goal.loop-row-preserved
loop-row-preserved c = subs_more _ _ _ _ _ _ c.loop-row-test.true c.row-item.is c.loop-row.invariant
    c.in_ok-extend_from_slice.ensures.items c.subs.ensures.value c.subs.ensures.configuration
