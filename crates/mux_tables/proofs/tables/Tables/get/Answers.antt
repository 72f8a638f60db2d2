use Rattle.mux_tables.proofs.Filling.{placed_if}
use Rattle.mux_tables.proofs.tables.Tables.get.Goals as goal

pub returns-clause-placed : goal.returns-clause-placed
returns-clause-placed c = placed_if _ _ _ c.self.invariant.configuration.subs_placed c.get.ensures.value
