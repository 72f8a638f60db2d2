use Rattle.std.proofs.Common.{refl, ◌∙◌}
use Rattle.std.proofs.lemmas.Result.{IfOk-weaker}
use Rattle.plan_takeover.proofs.Takeovers.{of_begun}
use Rattle.plan_takeover.proofs.takeover.code_from.Goals as goal

pub returns-in-Ok-append_moved-clause-code : goal.returns-in-Ok-append_moved-clause-code
returns-in-Ok-append_moved-clause-code c =
    IfOk-weaker c.begun_by.result _ _
    (λ made begun. of_begun c.args.line c.args.code.now c.plan-plan.result c.args.on_air.now c.args.opening.now made
    c.in_ok-lines.lines.items c.append_moved.new.lines.items c.in-Ok.by c.plan-plan.ensures.value c.in_ok-lines.ensures
    (c.in-Ok.ensures.1 ∙ c.len.ensures ∙ c.in_ok-lines.lines.ok.0)
    (rw (c.in-Ok-append_moved.ensures.appended, c.lines.ensures.value) refl) begun)
    c.begun_by.ensures.begun
