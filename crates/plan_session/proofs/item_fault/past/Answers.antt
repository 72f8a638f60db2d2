use Rattle.plan_session.proofs.Words.{◌∙◌, arith}
use Rattle.plan_session.proofs.TextEnds.{follows, position_on}
use Rattle.plan_session.proofs.item_fault.past.Goals as goal

pub loop-place-preserved : goal.loop-place-preserved
loop-place-preserved c =
    let p = c.loop-place.place in
    let q = c.place_after-place.result in
    let f = follows p q c.kind_of.result c.place_after-place.ensures in
    record {
      left = c.loop-place.invariant.left ∙ position_on p q c.args.text.now c.kind_of.result c.loop-place-test.true
          c.kind_of.ensures c.place_after-place.ensures f.at;
      place = record {
        within = omega (arith, f.at, c.loop-place-test.true);
        line = omega (arith, f.at, f.line, c.loop-place.invariant.place.line);
        column = omega (arith, f.at, f.column, c.loop-place.invariant.place.column);
      };
    }
