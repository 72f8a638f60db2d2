use Rattle.script_config.proofs.Words.{◌+◌, subst, sym}
use Rattle.script_config.proofs.PlainScripts.{AreActsFrom, act_on}
use Rattle.script_config.proofs.plain.statements_from.Goals as goal

pub loop-act-preserved : goal.loop-act-preserved
loop-act-preserved c =
    subst (AreActsFrom c.args.first (c.loop-act.line + 1) c.args.acts.now (c.loop-act.act-index + 1))
    (sym c.in_ok-put.ensures)
    (act_on c.args.first c.loop-act.line c.args.acts.now c.loop-act.act-index c.act-item.result
    c.loop-act.statements.items c.acting.result c.loop-act-test.true c.act-item.is c.acting.ensures
    c.loop-act.invariant)
