use Rattle.std.proofs.Common.{◌≡◌, List, sym, ap, set, ◌∙◌}
use Rattle.mux_types.specs.Tables.{with_entry_changed}
use Rattle.mux_types.proofs.Tables.{ascends_changed, changed_absent}
use Rattle.mux_types.proofs.sorted_table.SortedTable.replace.Given as given
use Rattle.mux_types.proofs.sorted_table.SortedTable.replace.Goals as goal

new_is : (g : given.Over) (c : goal.After-set g) → c.set.new.self
    ≡ with_entry_changed g.T.Keyed.key c.args.entry c.args.self.now
new_is g c =
    c.set.ensures
    ∙ ap (λ (xs : List g.row.T.Denot). set xs c.in-Ok.place c.args.entry) (sym c.as_slice.ensures.value)
    ∙ c.in-Ok.ensures.changed c.args.entry (sym c.key.ensures)
    ∙ ap (with_entry_changed g.T.Keyed.key c.args.entry) (c.as_slice.ensures.value ∙ c.self.view_is)

pub invariant_of-self : goal.invariant_of-self
invariant_of-self g c =
    rw (new_is g c) (ascends_changed g.T.Keyed.key c.args.entry c.args.self.now
    (rw (← c.self.view_is) c.self.invariant))

pub returns-in-Ok : goal.returns-in-Ok
returns-in-Ok g c = new_is g c

pub returns-in-Err : goal.returns-in-Err
returns-in-Err g c =
    let same = c.as_slice.ensures.value ∙ c.self.view_is in
    sym (changed_absent g.T.Keyed.key c.args.entry c.args.self.now
    (rw (← same, ← c.key.ensures) c.in-Err.ensures.absent))
