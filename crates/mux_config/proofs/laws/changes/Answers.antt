use Rattle.mux_config.proofs.Same.{change_told}
use Rattle.mux_config.proofs.laws.changes.Goals as goal

pub returns : goal.returns
returns c = change_told c.sizes.ensures.one_rate
