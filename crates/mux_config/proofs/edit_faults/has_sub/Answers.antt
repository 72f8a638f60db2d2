use Rattle.mux_config.proofs.Words.{◌∙◌, sub_key}
use Rattle.mux_config.proofs.Keeping.{is_found}
use Rattle.mux_config.proofs.edit_faults.has_sub.Goals as goal

pub returns : goal.returns
returns g c =
    let k = g.S.Store.content c.args.store.now in
    c.is_some.ensures ∙ is_found sub_key c.args.id k.subs c.sub.result c.sub.ensures.value
