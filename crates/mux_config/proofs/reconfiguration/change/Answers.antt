use Rattle.mux_config.proofs.Words.{not}
use Rattle.mux_config.proofs.Rates.{one_rate}
use Rattle.mux_config.proofs.Same.{change_told}
use Rattle.mux_config.proofs.reconfiguration.change.Goals as goal

pub returns-clause-entries_differ : goal.returns-clause-entries_differ
returns-clause-entries_differ g c =
    let k = g.S.Store.content c.args.current.now in
    let d = g.S.Store.content c.args.next.now in
    let told = change_told one_rate k d
    (record { subs = not c.has_same_subs.result; services = not c.has_same_services.result })
    c.has_same_subs.ensures.current c.has_same_subs.ensures.next in
    told.1 (λ i. record {
      subs = not (c.has_same_subs.ensures.value i);
      services = not (c.has_same_services.ensures i);
    })
