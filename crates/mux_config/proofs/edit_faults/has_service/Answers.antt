use Rattle.mux_config.proofs.Words.{◌∙◌, service_key, sid_key}
use Rattle.mux_config.proofs.Keeping.{is_found_lent}
use Rattle.mux_config.proofs.edit_faults.has_service.Goals as goal

pub returns : goal.returns
returns g c =
    let k = g.S.Store.content c.args.store.now in
    c.is_some.ensures ∙ is_found_lent (λ r. r.now) service_key (sid_key c.args.sid) k.services c.service.result
    c.service.ensures.value
