use Rattle.mux_tables.proofs.Words.{◌∙◌, ◌≡◌, entry_at, slice_get, sub_key, sym}
use Rattle.mux_tables.proofs.SubTables.{item_at, item_there}
use Rattle.mux_tables.proofs.sub_table.SubTable.item.Goals as goal

pub returns-in-Some : goal.returns-in-Some
returns-in-Some c =
    let at = item_at c.self.inside.by_id c.self.inside.ids c.args.index c.item.result.now c.self.invariant.0
    c.self.invariant.1 c.item.ensures in
    let now : slice_get c.args.self.now c.args.index ≡ entry_at sub_key c.item.result.now.id c.args.self.now =
    rw (← c.self.view_is) at in
    now ∙ sym c.get.ensures.value ∙ c.in-Some.is

pub returns-in-None : goal.returns-in-None
returns-in-None c =
    let at = item_at c.self.inside.by_id c.self.inside.ids c.args.index c.item.result.now c.self.invariant.0
    c.self.invariant.1 c.item.ensures in
    let now : slice_get c.args.self.now c.args.index ≡ entry_at sub_key c.item.result.now.id c.args.self.now =
    rw (← c.self.view_is) at in
    absurd (item_there c.args.self.now c.args.index c.requires (now ∙ sym c.get.ensures.value ∙ c.in-None.is))
