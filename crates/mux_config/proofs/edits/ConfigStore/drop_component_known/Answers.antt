use Rattle.mux_config.proofs.Words.{◌∙◌, ◌≡◌, Configuration, IsConfiguration, List, None, Service, Some, ap}
use Rattle.mux_config.proofs.Words.{component_dropped, drop_component_fault, entry_at, option_copied, service_at}
use Rattle.mux_config.proofs.Words.{service_key, sid_key, subst, sym, with_entry_changed, without_carrier}
use Rattle.mux_config.proofs.Keeping.{changed_here, entry_key, drop_component_keeps}
use Rattle.mux_config.proofs.edits.ConfigStore.drop_component_known.Goals as goal

pub invariant_of-self : goal.invariant_of-self
invariant_of-self c =
    let before : Configuration =
    record { subs = c.self.inside.subs; services = c.self.inside.services; packets = c.self.inside.packets } in
    let fault : drop_component_fault c.args.sid c.args.carrier before ≡ None = rw (← c.self.view_is) at c.requires in
    let found : entry_at service_key (sid_key c.args.sid) c.self.inside.services ≡ Some c.in-Some.service.now =
    ap (λ (x : Configuration). service_at c.args.sid x) c.self.view_is ∙ sym c.find_service.ensures.value
    ∙ ap option_copied c.in-Some.is in
    let same = changed_here service_key (sid_key c.args.sid) (without_carrier c.args.carrier) c.self.inside.services
    c.in-Some.service.now c.self.invariant.services_ascend found
    (entry_key service_key (sid_key c.args.sid) c.self.inside.services c.in-Some.service.now found) in
    let entry = c.without_carrier-rest.ensures in
    let all = c.replace.ensures ∙ ap (λ (s : Service). with_entry_changed service_key s c.self.inside.services) entry
    ∙ same in
    let keeps = drop_component_keeps c.args.sid c.args.carrier before c.self.invariant fault in
    subst (λ (xs : List Service). IsConfiguration (record before { services = xs })) (sym all) keeps

pub returns-in-Some : goal.returns-in-Some
returns-in-Some c =
    let before : Configuration =
    record { subs = c.self.inside.subs; services = c.self.inside.services; packets = c.self.inside.packets } in
    let found : entry_at service_key (sid_key c.args.sid) c.self.inside.services ≡ Some c.in-Some.service.now =
    ap (λ (x : Configuration). service_at c.args.sid x) c.self.view_is ∙ sym c.find_service.ensures.value
    ∙ ap option_copied c.in-Some.is in
    let same = changed_here service_key (sid_key c.args.sid) (without_carrier c.args.carrier) c.self.inside.services
    c.in-Some.service.now c.self.invariant.services_ascend found
    (entry_key service_key (sid_key c.args.sid) c.self.inside.services c.in-Some.service.now found) in
    let entry = c.without_carrier-rest.ensures in
    let all = c.replace.ensures ∙ ap (λ (s : Service). with_entry_changed service_key s c.self.inside.services) entry
    ∙ same in
    ap (λ (xs : List Service). record before { services = xs }) all
    ∙ ap (component_dropped c.args.sid c.args.carrier) c.self.view_is
