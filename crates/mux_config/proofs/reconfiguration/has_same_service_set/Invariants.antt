use Rattle.mux_config.proofs.Words.{◌≡◌, drop, is_same_list, is_same_service, length}
use Rattle.mux_config.proofs.reconfiguration.has_same_service_set.Given as goal

abbrev pub invariant-loop-place : goal.invariant-loop-place
invariant-loop-place g l =
    let c = g.S.Store.content l.current in
    let d = g.T.Store.content l.next in
    record {
      lengths : length c.services ≡ length d.services;
      left : is_same_list is_same_service (drop l.place c.services) (drop l.place d.services)
          ≡ is_same_list is_same_service c.services d.services;
    }
