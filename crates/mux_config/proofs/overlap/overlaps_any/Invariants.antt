use Rattle.mux_config.proofs.Words.{◌≡◌, drop, list_any, overlaps}
use Rattle.mux_config.proofs.overlap.overlaps_any.Given as goal

abbrev pub invariant-loop-other : goal.invariant-loop-other
invariant-loop-other l = (list_any (overlaps l.sub) (drop l.other-index l.others) ≡ list_any (overlaps l.sub) l.others)
