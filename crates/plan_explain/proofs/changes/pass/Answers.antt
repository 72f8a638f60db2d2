use Rattle.plan_explain.proofs.Known.{passed}
use Rattle.plan_explain.proofs.changes.pass.Goals as goal

pub returns : goal.returns
returns c = λ t same fine. passed c.args.plan.now c.args.instr c.apply.result _ _ t c.apply.ensures.fine
    c.apply.ensures.left same fine
