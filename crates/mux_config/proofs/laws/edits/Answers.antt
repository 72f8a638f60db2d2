use Rattle.mux_config.proofs.Keeping.{edits_keep}
use Rattle.mux_config.proofs.laws.edits.Goals as goal

pub returns : goal.returns
returns c = edits_keep
