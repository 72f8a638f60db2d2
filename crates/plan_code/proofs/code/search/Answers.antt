use Rattle.plan_code.proofs.Words.{arith, label_key, sym}
use Rattle.plan_code.proofs.Ascending.{below_middle, above_middle, find_at, find_between}
use Rattle.plan_code.proofs.code.search.Goals as goal

pub returns-then-label-pc : goal.returns-then-label-pc
returns-then-label-pc c = sym (find_at label_key c.args.pc c.args.labels.now _ _ c.requires (omega arith) (omega arith))

pub loop-low-preserved-then-label-pc-2 : goal.loop-low-preserved-then-label-pc-2
loop-low-preserved-then-label-pc-2 c = record {
  ordered = omega arith;
  within = omega arith;
  below = below_middle label_key c.args.pc c.args.labels.now _ _ c.requires (omega arith) c.if-label-pc-2.true;
  above = c.loop-low.invariant.above;
}

pub loop-low-preserved : goal.loop-low-preserved
loop-low-preserved c = record {
  ordered = omega arith;
  within = omega arith;
  below = c.loop-low.invariant.below;
  above = above_middle _ _ _ _ _ c.requires (omega arith) c.if-label-pc.false c.if-label-pc-2.false;
}

pub returns : goal.returns
returns c = sym (find_between _ _ _ _ _ c.loop-low-test.false c.loop-low.invariant.below c.loop-low.invariant.above)
