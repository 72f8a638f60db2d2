use Rattle.mux_tables.proofs.Words.{◌∙◌, ap, sub_key, without_entry}
use Rattle.mux_tables.proofs.SubTables.{removed, removed_in_place, ids_removed}
use Rattle.mux_tables.proofs.sub_table.SubTable.remove.Goals as goal

pub invariant_of-self : goal.invariant_of-self
invariant_of-self c = (
  removed_in_place c.self.inside.by_id c.from-2.result c.self.invariant.0,
  c.remove.ensures
      ∙ ids_removed c.self.inside.by_id c.self.inside.ids c.args.id c.from.result c.from-2.result c.self.invariant.0
      c.self.invariant.1 (c.from-2.ensures ∙ c.get-2.ensures.value) (c.from.ensures ∙ c.get.ensures.value),
)

pub returns : goal.returns
returns c = removed c.self.inside.by_id c.args.id c.from-2.result c.self.invariant.0
    (c.from-2.ensures ∙ c.get-2.ensures.value) ∙ ap (without_entry sub_key c.args.id) c.self.view_is
