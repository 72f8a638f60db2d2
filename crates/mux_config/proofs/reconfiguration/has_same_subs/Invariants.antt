use Rattle.mux_config.proofs.Words.{◌≡◌, drop, is_same_list, is_same_sub, length}
use Rattle.mux_config.proofs.reconfiguration.has_same_subs.Given as goal

abbrev pub invariant-loop-place : goal.invariant-loop-place
invariant-loop-place g l =
    let c = g.S.Store.content l.current in
    let d = g.T.Store.content l.next in
    record {
      lengths : length c.subs ≡ length d.subs;
      left : is_same_list is_same_sub (drop l.place c.subs) (drop l.place d.subs)
          ≡ is_same_list is_same_sub c.subs d.subs;
    }
