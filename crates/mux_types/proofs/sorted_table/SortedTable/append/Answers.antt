use Rattle.mux_types.proofs.Tables.{ascends_pushed}
use Rattle.mux_types.proofs.sorted_table.SortedTable.append.Goals as goal

pub invariant_of-self : goal.invariant_of-self
invariant_of-self g c = rw c.push.ensures
    (ascends_pushed g.T.Keyed.key c.self.inside.entries c.args.entry c.self.invariant
    (rw c.self.view_is c.requires.above))
