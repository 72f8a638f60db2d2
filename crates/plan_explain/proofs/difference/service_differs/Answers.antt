use Rattle.std.proofs.Common.{sym, ◌∙◌}
use Rattle.plan_explain.proofs.Flags.{not_both, if_not}
use Rattle.plan_explain.proofs.difference.service_differs.Goals as goal

pub returns-in-Some : goal.returns-in-Some
returns-in-Some c = (
  λ p same. not_both c.has_service.result (c.has_service.ensures.1 (sym same ∙ sym c.in-Some.ensures.value)) p,
  λ differ. if_not c.has_service.result (λ p. differ (sym c.in-Some.ensures.value ∙ sym (c.has_service.ensures.0 p))),
)
