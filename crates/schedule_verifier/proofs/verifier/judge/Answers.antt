use Rattle.schedule_verifier.proofs.Leaving.{judged}
use Rattle.schedule_verifier.proofs.verifier.judge.Goals as goal

pub returns-in-Leaf : goal.returns-in-Leaf
returns-in-Leaf c =
    judged c.args.schedule.now c.args.code.now c.args.region.now c.args.top c.in-Leaf.pc c.args.current.now
    c.copy_from.new.self c.walk.new.next c.leaf.result c.copy_from.ensures c.in-Leaf.ensures c.leaf.ensures
