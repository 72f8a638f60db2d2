use Rattle.std.proofs.Common.{◌∙◌}
use Rattle.plan_explain.proofs.Changed.{appended}
use Rattle.plan_explain.proofs.changes.push_between.Goals as goal

pub returns : goal.returns
returns c =
    appended c.push_primaries.result c.args.line c.args.before.now c.args.after.now _ _ _ _ _ _
    (c.as_slice.ensures.value ∙ c.in_ok-others.ensures) (c.as_slice-2.ensures.value ∙ c.in_ok-flaws.ensures)
    (c.as_slice-3.ensures.value ∙ c.in_ok-primaries.ensures)
    c.in_ok-push_flaws.ensures c.push_primaries.ensures
