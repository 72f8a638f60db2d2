use Rattle.std.proofs.Common.{◌≡◌, List, ap, sym, ◌∙◌}
use Rattle.std.specs.List.{remove}
use Rattle.mux_types.specs.Tables.{without_entry}
use Rattle.mux_types.proofs.Tables.{ascends_without, without_absent}
use Rattle.mux_types.proofs.sorted_table.SortedTable.remove.Given as given
use Rattle.mux_types.proofs.sorted_table.SortedTable.remove.Goals as goal

new_is : (g : given.Over) (c : goal.After-remove g) → c.remove.new.self
    ≡ without_entry g.T.Keyed.key c.args.key c.args.self.now
new_is g c =
    c.remove.ensures
    ∙ ap (λ (xs : List g.row.T.Denot). remove xs c.in-Ok.place) (sym c.as_slice.ensures.value)
    ∙ c.in-Ok.ensures.removed
    ∙ ap (without_entry g.T.Keyed.key c.args.key) (c.as_slice.ensures.value ∙ c.self.view_is)

pub invariant_of-self : goal.invariant_of-self
invariant_of-self g c =
    rw (new_is g c) (ascends_without g.T.Keyed.key c.args.key c.args.self.now (rw (← c.self.view_is) c.self.invariant))

pub returns-in-Ok : goal.returns-in-Ok
returns-in-Ok g c = new_is g c

pub returns-in-Err : goal.returns-in-Err
returns-in-Err g c =
    let same = c.as_slice.ensures.value ∙ c.self.view_is in
    sym (without_absent g.T.Keyed.key c.args.key c.args.self.now (rw (← same) c.in-Err.ensures.absent))
