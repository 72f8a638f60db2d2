use Rattle.mux_tables.proofs.Words.{◌∙◌}
use Rattle.mux_tables.proofs.Filling.{fits_next, added_next}
use Rattle.mux_tables.proofs.store.TablesStore.copy_from_config.Goals as goal

pub insert-requires : goal.insert-requires
insert-requires c =
    let is = c.sub_at.ensures.configuration in
    fits_next c.args.config.now c.loop-index.self c.args.config.now.subs c.loop-index.index c.sub_at.result
    is.subs_ascend is.subs_placed c.sub_at.ensures.value c.loop-index.invariant

pub loop-index-preserved : goal.loop-index-preserved
loop-index-preserved c =
    c.insert.ensures
    ∙ added_next c.args.config.now c.loop-index.self c.args.config.now.subs c.loop-index.index c.sub_at.result
    c.sub_at.ensures.configuration.subs_ascend c.sub_at.ensures.value c.loop-index.invariant
