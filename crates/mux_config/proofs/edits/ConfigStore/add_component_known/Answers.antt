use Rattle.mux_config.proofs.Words.{[], ◌++◌, ◌∙◌, ◌∷◌, ◌≡◌, Configuration, IsComponent, IsConfiguration, List, None}
use Rattle.mux_config.proofs.Words.{Service, Some, add_component_fault, ap, component_added, entry_at, option_copied}
use Rattle.mux_config.proofs.Words.{rules, service_at, service_key, sid_key, subst, sym, with_component}
use Rattle.mux_config.proofs.Words.{with_entry_changed}
use Rattle.mux_config.proofs.Keeping.{changed_here, entry_key, add_component_keeps}
use Rattle.mux_config.proofs.edits.ConfigStore.add_component_known.Goals as goal

pub invariant_of-self : goal.invariant_of-self
invariant_of-self c =
    let before : Configuration =
    record { subs = c.self.inside.subs; services = c.self.inside.services; packets = c.self.inside.packets } in
    let fault : add_component_fault c.args.sid c.args.component before ≡ None = rw (← c.self.view_is) at c.requires in
    let found : entry_at service_key (sid_key c.args.sid) c.self.inside.services ≡ Some c.in-Some.service.now =
    ap (λ (x : Configuration). service_at c.args.sid x) c.self.view_is ∙ sym c.find_service.ensures.value
    ∙ ap option_copied c.in-Some.is in
    let same = changed_here service_key (sid_key c.args.sid) (with_component c.args.component) c.self.inside.services
    c.in-Some.service.now c.self.invariant.services_ascend found
    (entry_key service_key (sid_key c.args.sid) c.self.inside.services c.in-Some.service.now found) in
    let sid = ap (λ (s : Service). s.sid) c.copied-more.ensures in
    let components = c.push.ensures ∙ ap (λ (s : Service). s.components ++ c.args.component ∷ [])
    c.copied-more.ensures in
    let more : Service = record { sid = c.copied-more.result.sid; components = c.push.new.self } in
    let entry : more ≡ with_component c.args.component c.in-Some.service.now =
    λ i. record { sid = sid i; components = components i } in
    let all = c.replace.ensures ∙ ap (λ (s : Service). with_entry_changed service_key s c.self.inside.services) entry
    ∙ same in
    let within : IsComponent c.args.component = search rules in
    let keeps = add_component_keeps c.args.sid c.args.component before within c.self.invariant fault in
    subst (λ (xs : List Service). IsConfiguration (record before { services = xs })) (sym all) keeps

pub returns-in-Some : goal.returns-in-Some
returns-in-Some c =
    let before : Configuration =
    record { subs = c.self.inside.subs; services = c.self.inside.services; packets = c.self.inside.packets } in
    let found : entry_at service_key (sid_key c.args.sid) c.self.inside.services ≡ Some c.in-Some.service.now =
    ap (λ (x : Configuration). service_at c.args.sid x) c.self.view_is ∙ sym c.find_service.ensures.value
    ∙ ap option_copied c.in-Some.is in
    let same = changed_here service_key (sid_key c.args.sid) (with_component c.args.component) c.self.inside.services
    c.in-Some.service.now c.self.invariant.services_ascend found
    (entry_key service_key (sid_key c.args.sid) c.self.inside.services c.in-Some.service.now found) in
    let sid = ap (λ (s : Service). s.sid) c.copied-more.ensures in
    let components = c.push.ensures ∙ ap (λ (s : Service). s.components ++ c.args.component ∷ [])
    c.copied-more.ensures in
    let more : Service = record { sid = c.copied-more.result.sid; components = c.push.new.self } in
    let entry : more ≡ with_component c.args.component c.in-Some.service.now =
    λ i. record { sid = sid i; components = components i } in
    let all = c.replace.ensures ∙ ap (λ (s : Service). with_entry_changed service_key s c.self.inside.services) entry
    ∙ same in
    ap (λ (xs : List Service). record before { services = xs }) all
    ∙ ap (component_added c.args.sid c.args.component) c.self.view_is
