use Rattle.mux_config.proofs.Words.{◌≡◌, Configuration, IsConfiguration, List, None, Sub, add_sub_fault, arith, subst}
use Rattle.mux_config.proofs.Words.{sym}
use Rattle.mux_config.proofs.Keeping.{add_sub_fits, add_sub_keeps}
use Rattle.mux_config.proofs.edits.ConfigStore.add_sub_known.Goals as goal

pub insert-requires : goal.insert-requires
insert-requires c =
    let before : Configuration =
    record { subs = c.self.inside.subs; services = c.self.inside.services; packets = c.self.inside.packets } in
    let fault : add_sub_fault c.args.sub before ≡ None = rw (← c.self.view_is) at c.requires in
    let fits = add_sub_fits c.args.sub before (omega arith) c.self.invariant fault in
    (omega arith, (fits.0, fits.1))

pub invariant_of-self : goal.invariant_of-self
invariant_of-self c =
    let before : Configuration =
    record { subs = c.self.inside.subs; services = c.self.inside.services; packets = c.self.inside.packets } in
    let fault : add_sub_fault c.args.sub before ≡ None = rw (← c.self.view_is) at c.requires in
    let keeps = add_sub_keeps c.args.sub before (omega arith) (omega arith) (omega arith) c.self.invariant fault in
    subst (λ (xs : List Sub). IsConfiguration (record before { subs = xs })) (sym c.insert.ensures) keeps
