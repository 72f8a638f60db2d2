use Rattle.mux_tables.proofs.Words.{◌≡◌, DropService, None, edit_fault, with_sub_channels}
use Rattle.mux_tables.proofs.Others.{known_keeps}
use Rattle.mux_tables.proofs.store.TablesStore.drop_service_known.Goals as goal

pub invariant_of-self : goal.invariant_of-self
invariant_of-self c =
    let before = with_sub_channels c.self.inside.subs c.self.inside.others in
    let fault : edit_fault (DropService c.args.sid) before ≡ None = rw (← c.self.view_is) at c.requires in
    let kept = known_keeps (DropService c.args.sid) tt tt c.self.inside.subs c.self.inside.others
    c.drop_service_known.new.self c.self.invariant.apart c.self.invariant.configuration fault
    c.drop_service_known.ensures in
    record { apart = kept.0; configuration = kept.1; counted = c.self.invariant.counted }
