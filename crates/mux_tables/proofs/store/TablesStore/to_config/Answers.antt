use Rattle.mux_tables.proofs.Words.{◌∙◌}
use Rattle.mux_tables.proofs.Filling.{fits_next, added_next}
use Rattle.mux_tables.proofs.store.TablesStore.to_config.Goals as goal

pub add_sub_known-requires : goal.add_sub_known-requires
add_sub_known-requires c =
    let is = c.sub_at.ensures.configuration in
    fits_next c.args.self.now c.loop-index.config c.args.self.now.subs c.loop-index.index c.sub_at.result is.subs_ascend
    is.subs_placed c.sub_at.ensures.value c.loop-index.invariant

pub loop-index-preserved : goal.loop-index-preserved
loop-index-preserved c =
    c.add_sub_known.ensures
    ∙ added_next c.args.self.now c.loop-index.config c.args.self.now.subs c.loop-index.index c.sub_at.result
    c.sub_at.ensures.configuration.subs_ascend c.sub_at.ensures.value c.loop-index.invariant
