use Rattle.plan_explain.proofs.Known.{none_yet, one_more, all_done}
use Rattle.plan_explain.proofs.changes.push_commits.Goals as goal

pub loop-line-init : goal.loop-line-init
loop-line-init c = none_yet c.args.code.now c.args.found.now.items c.unknown-flow.result

pub loop-line-preserved : goal.loop-line-preserved
loop-line-preserved c =
    one_more c.args.code.now c.plan-plan.result c.lines-line-items.result.now _ _ _ c.loop-line.pc
    c.loop-line.line-index c.line-item.result _ _ _ c.plan-plan.ensures.value c.lines-line-items.ensures.value
    c.loop-line-test.true
    c.line-item.is c.enter.ensures c.in_ok-push_commit.ensures c.pass.ensures c.loop-line.invariant

pub returns : goal.returns
returns c = λ typing h. all_done c.args.code.now c.lines-line-items.result.now _ _ c.loop-line.pc c.loop-line.line-index
    c.loop-line.flow typing c.lines-line-items.ensures.value c.loop-line-test.false c.loop-line.invariant h
