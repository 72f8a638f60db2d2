use Rattle.mux_config.proofs.Words.{◌≡◌, drop, list_any, names}
use Rattle.mux_config.proofs.edits.place_of.Given as goal

abbrev pub invariant-loop-place : goal.invariant-loop-place
invariant-loop-place l =
    list_any (names l.carrier) (drop l.place l.components) ≡ list_any (names l.carrier) l.components
