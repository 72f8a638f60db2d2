use Rattle.mux_tables.proofs.Lanes.{none_counted}
use Rattle.mux_tables.proofs.unit_map.empty_map.Goals as goal

pub returns : goal.returns
returns c = none_counted
