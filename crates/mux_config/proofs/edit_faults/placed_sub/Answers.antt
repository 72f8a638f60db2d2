use Rattle.mux_config.proofs.Words.{◌∙◌, IsPlaced, sub_key, sym}
use Rattle.mux_config.proofs.Keeping.{entry_holds}
use Rattle.mux_config.proofs.edit_faults.placed_sub.Goals as goal

pub returns-in-Some-clause-placed : goal.returns-in-Some-clause-placed
returns-in-Some-clause-placed g c =
    let k = g.S.Store.content c.args.store.now in
    entry_holds IsPlaced sub_key c.args.id k.subs c.in-Some.found c.sub.ensures.configuration.subs_placed
    (sym c.sub.ensures.value ∙ c.in-Some.is)
