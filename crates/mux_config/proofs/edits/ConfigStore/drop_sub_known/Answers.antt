use Rattle.mux_config.proofs.Words.{Configuration, IsConfiguration, List, Sub, subst, sym}
use Rattle.mux_config.proofs.Keeping.{drop_sub_keeps}
use Rattle.mux_config.proofs.edits.ConfigStore.drop_sub_known.Goals as goal

pub invariant_of-self : goal.invariant_of-self
invariant_of-self c =
    let before : Configuration =
    record { subs = c.self.inside.subs; services = c.self.inside.services; packets = c.self.inside.packets } in
    subst (λ (xs : List Sub). IsConfiguration (record before { subs = xs })) (sym c.remove.ensures)
    (drop_sub_keeps c.from.result before c.self.invariant)
