use Rattle.mux_tables.proofs.Words.{◌≡◌, take}
use Rattle.mux_tables.proofs.store.TablesStore.copy_from_config.Given as goal

abbrev pub invariant-loop-index : goal.invariant-loop-index
invariant-loop-index l = l.self ≡ record l.config { subs = take l.index l.config.subs }
