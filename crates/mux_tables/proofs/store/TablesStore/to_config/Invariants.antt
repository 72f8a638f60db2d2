use Rattle.mux_tables.proofs.Words.{◌≡◌, take}
use Rattle.mux_tables.proofs.store.TablesStore.to_config.Given as goal

abbrev pub invariant-loop-index : goal.invariant-loop-index
invariant-loop-index l = l.config ≡ record l.self { subs = take l.index l.self.subs }
