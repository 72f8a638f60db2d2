use Rattle.std.proofs.Common.{◌≡◌, List, ap, sym, ◌∙◌}
use Rattle.std.specs.List.{insert}
use Rattle.mux_types.specs.Tables.{with_entry}
use Rattle.mux_types.proofs.Tables.{ascends_with, not_both}
use Rattle.mux_types.proofs.sorted_table.SortedTable.insert.Given as given
use Rattle.mux_types.proofs.sorted_table.SortedTable.insert.Goals as goal

new_is : (g : given.Over) (c : goal.After-insert g) → c.insert.new.self
    ≡ with_entry g.T.Keyed.key c.args.entry c.args.self.now
new_is g c =
    c.insert.ensures
    ∙ ap (λ (xs : List g.row.T.Denot). insert xs c.in-Err.place c.args.entry) (sym c.as_slice.ensures.value)
    ∙ c.in-Err.ensures.inserted c.args.entry (sym c.key.ensures)
    ∙ ap (with_entry g.T.Keyed.key c.args.entry) (c.as_slice.ensures.value ∙ c.self.view_is)

pub invariant_of-self : goal.invariant_of-self
invariant_of-self g c =
    rw (new_is g c) (ascends_with g.T.Keyed.key c.args.entry c.args.self.now (rw (← c.self.view_is) c.self.invariant)
    c.requires.absent)

pub returns-in-Err : goal.returns-in-Err
returns-in-Err g c = new_is g c

pub returns-in-Ok : goal.returns-in-Ok
returns-in-Ok g c =
    let same = c.as_slice.ensures.value ∙ c.self.view_is in
    absurd (not_both g.T.Keyed.key (g.T.Keyed.key c.args.entry) c.args.self.now c.in-Ok._taken
    (rw (← same, ← c.key.ensures) c.in-Ok.ensures.found) (rw (← same) c.in-Ok.ensures.in_bounds) c.requires.absent)
