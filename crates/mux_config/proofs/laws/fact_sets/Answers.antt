use Rattle.mux_config.proofs.FactSets.{fact_sets_tell}
use Rattle.mux_config.proofs.laws.fact_sets.Goals as goal

pub returns : goal.returns
returns c = fact_sets_tell c.sizes.ensures.one_rate
