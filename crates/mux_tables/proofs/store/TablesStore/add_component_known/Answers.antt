use Rattle.mux_tables.proofs.Words.{◌≡◌, AddComponent, IsComponent, None, edit_fault, rules, with_sub_channels}
use Rattle.mux_tables.proofs.Others.{known_keeps}
use Rattle.mux_tables.proofs.store.TablesStore.add_component_known.Goals as goal

pub invariant_of-self : goal.invariant_of-self
invariant_of-self c =
    let before = with_sub_channels c.self.inside.subs c.self.inside.others in
    let fault : edit_fault (AddComponent c.args.sid c.args.component) before ≡ None =
    rw (← c.self.view_is) at c.requires in
    let within : IsComponent c.args.component = search rules in
    let kept = known_keeps (AddComponent c.args.sid c.args.component) tt within c.self.inside.subs c.self.inside.others
    c.add_component_known.new.self c.self.invariant.apart c.self.invariant.configuration fault
    c.add_component_known.ensures in
    record { apart = kept.0; configuration = kept.1; counted = c.self.invariant.counted }
