use Rattle.mux_config.proofs.Words.{Configuration, IsConfiguration, IsService, List, Service, service_key, subst, sym}
use Rattle.mux_config.proofs.Keeping.{services_keep, services_set, set_without}
use Rattle.mux_config.proofs.edits.ConfigStore.drop_service_known.Goals as goal

pub invariant_of-self : goal.invariant_of-self
invariant_of-self c =
    let before : Configuration =
    record { subs = c.self.inside.subs; services = c.self.inside.services; packets = c.self.inside.packets } in
    subst (λ (xs : List Service). IsConfiguration (record before { services = xs })) (sym c.remove.ensures)
    (services_keep before _ c.self.invariant
    (set_without IsService service_key c.sid_key.result c.self.inside.services
    (services_set before c.self.invariant)))
