use Rattle.mux_tables.proofs.Words.{arith, refl}
use Rattle.mux_tables.proofs.Lanes.{lowered}
use Rattle.mux_tables.proofs.unit_map.count_out.Goals as goal

pub returns : goal.returns
returns c = lowered _ _ _ _ _ refl (omega arith) c.loop-block.invariant.1
