use Rattle.std.proofs.Common.{◌∙◌}
use Rattle.plan_explain.proofs.WarningLaws.{if_warranted, if_apart}
use Rattle.plan_explain.proofs.warnings.warnings_of.Goals as goal

pub returns-clause-each : goal.returns-clause-each
returns-clause-each c =
    if_warranted (λ v. v.items) c.each_once.result c.args.script.now c.args.code.now c.as_slice.result.now c.requires
    (λ typing is. c.as_slice.ensures.value ∙ c.in_ok-found.ensures typing is) c.each_once.ensures

pub returns-clause-apart : goal.returns-clause-apart
returns-clause-apart c = if_apart (λ v. v.items) c.each_once.result c.as_slice.result.now c.each_once.ensures
