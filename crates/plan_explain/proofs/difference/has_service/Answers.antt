use Rattle.std.proofs.Common.{◌≡◌, Some, true, sym, ap, subst, ◌∙◌}
use Rattle.mux_types.specs.declared.parts.Service.{Service}
use Rattle.mux_config.specs.Sameness.{is_same_service}
use Rattle.mux_config.proofs.Same.{service_same, service_itself}
use Rattle.plan_explain.proofs.difference.has_service.Goals as goal

pub returns-in-Some : goal.returns-in-Some
returns-in-Some c =
    let other = c.in-Some.other.now in
    let service = c.args.service.now in (
      λ yes. sym c.in-Some.ensures.value ∙ ap Some (service_same other service (sym c.is_same_service.ensures ∙ yes)),
      λ there.
          let found : Some other ≡ Some service = c.in-Some.ensures.value ∙ there in
          let same : other ≡ service = cc in
          c.is_same_service.ensures ∙ subst (λ (s : Service). is_same_service other s ≡ true) same
          (service_itself other),
    )
