use Rattle.std.proofs.Common.{◌≡◌, length, take}
use Rattle.mux_types.proofs.bounded_vec.copy_in.Given as goal

abbrev pub invariant-loop-index : goal.invariant-loop-index
invariant-loop-index g l = record {
  front : take l.index l.places ≡ take l.index l.values;
  len : length l.places ≡ length l.initial.places;
}
