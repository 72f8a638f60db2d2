use Rattle.stream_laws.proofs.OwnUnits.{swaps_keep_units, units_stay_own}
use Rattle.stream_laws.proofs.laws.units.Goals as goal

pub returns-clause-swapped : goal.returns-clause-swapped
returns-clause-swapped c = swaps_keep_units

pub returns-clause-stay : goal.returns-clause-stay
returns-clause-stay c = units_stay_own
