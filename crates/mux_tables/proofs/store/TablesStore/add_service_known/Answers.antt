use Rattle.mux_tables.proofs.Words.{◌≡◌, AddService, None, edit_fault, rules, with_sub_channels}
use Rattle.mux_tables.proofs.Others.{known_keeps}
use Rattle.mux_tables.proofs.store.TablesStore.add_service_known.Goals as goal

pub invariant_of-self : goal.invariant_of-self
invariant_of-self c =
    let before = with_sub_channels c.self.inside.subs c.self.inside.others in
    let fault : edit_fault (AddService c.args.sid) before ≡ None = rw (← c.self.view_is) at c.requires in
    let kept = known_keeps (AddService c.args.sid) tt (search rules) c.self.inside.subs c.self.inside.others
    c.add_service_known.new.self c.self.invariant.apart c.self.invariant.configuration fault
    c.add_service_known.ensures in
    record { apart = kept.0; configuration = kept.1; counted = c.self.invariant.counted }
