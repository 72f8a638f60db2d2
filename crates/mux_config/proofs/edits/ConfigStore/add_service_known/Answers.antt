use Rattle.mux_config.proofs.Words.{◌∙◌, ◌≡◌, Configuration, IsConfiguration, IsSid, List, None, Service}
use Rattle.mux_config.proofs.Words.{add_service_fault, ap, arith, entry_at, rules, service_key, subst, sym, with_entry}
use Rattle.mux_config.proofs.Keeping.{add_service_fits, add_service_keeps}
use Rattle.mux_config.proofs.edits.ConfigStore.add_service_known.Goals as goal

pub insert-requires : goal.insert-requires
insert-requires c =
    let before : Configuration =
    record { subs = c.self.inside.subs; services = c.self.inside.services; packets = c.self.inside.packets } in
    let fault : add_service_fault c.args.sid before ≡ None = rw (← c.self.view_is) at c.requires in
    let fits = add_service_fits c.args.sid before fault in (
      omega arith,
      (
        ap (λ (s : Service). entry_at service_key (service_key s) c.self.inside.services) c.new.ensures
            ∙ fits.0,
        fits.1,
      ),
    )

pub invariant_of-self : goal.invariant_of-self
invariant_of-self c =
    let before : Configuration =
    record { subs = c.self.inside.subs; services = c.self.inside.services; packets = c.self.inside.packets } in
    let fault : add_service_fault c.args.sid before ≡ None = rw (← c.self.view_is) at c.requires in
    let named : IsSid c.args.sid = search rules in
    let keeps = add_service_keeps c.args.sid before named c.self.invariant fault in
    subst (λ (xs : List Service). IsConfiguration (record before { services = xs }))
    (sym (c.insert.ensures ∙ ap (λ (s : Service). with_entry service_key s c.self.inside.services) c.new.ensures))
    keeps
