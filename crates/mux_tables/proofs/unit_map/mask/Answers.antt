use Rattle.mux_tables.proofs.Lanes.{mask_is}
use Rattle.mux_tables.proofs.unit_map.mask.Goals as goal

pub returns : goal.returns
returns c = mask_is _ _ _ _ c.lane_in-from.ensures c.lane_in-to.ensures
