use Rattle.mux_config.proofs.Distinguishing.{facts_told}
use Rattle.mux_config.proofs.laws.facts.Goals as goal

pub returns : goal.returns
returns c = facts_told c.sizes.ensures.one_rate
