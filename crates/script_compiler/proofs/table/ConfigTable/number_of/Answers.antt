use Rattle.script_compiler.proofs.Words.{◌∙◌, PooledTable, ap, length}
use Rattle.script_compiler.proofs.Labelling.{below_more, extends_length, table_in}
use Rattle.script_compiler.proofs.table.ConfigTable.number_of.Goals as goal

pub invariant_of-self : goal.invariant_of-self
invariant_of-self c =
    let old = c.self.inside.pool.items in
    let new = c.number_of.new.self.items in
    below_more (length old) (length new) c.self.inside.order.items (extends_length old new c.number_of.ensures.kept)
    c.self.invariant

pub returns-clause-table : goal.returns-clause-table
returns-clause-table c =
    table_in c.self.inside.pool.items c.number_of.new.self.items c.self.inside.order.items c.number_of.ensures.kept
    c.self.invariant
    ∙ ap (λ (v : PooledTable). v.table) c.self.view_is
