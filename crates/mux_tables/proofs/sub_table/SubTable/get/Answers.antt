use Rattle.mux_tables.proofs.Words.{◌∙◌, List, Sub, ap, arith, entry_at, sub_key}
use Rattle.mux_tables.proofs.Members.{ascends}
use Rattle.mux_tables.proofs.SubTables.{found_at}
use Rattle.mux_tables.proofs.sub_table.SubTable.get.Goals as goal

pub returns-clause-value : goal.returns-clause-value
returns-clause-value c =
    found_at c.self.inside.by_id c.args.id c.from.result c.index-self-from.result (omega arith) (omega arith)
    c.self.invariant.0 (c.from.ensures ∙ c.get.ensures.value)
    ∙ ap (λ (xs : List Sub). entry_at sub_key c.args.id xs) c.self.view_is

pub returns-clause-ascending : goal.returns-clause-ascending
returns-clause-ascending c = rw (← c.self.view_is) (ascends sub_key 0 c.self.inside.by_id c.self.invariant.0)
