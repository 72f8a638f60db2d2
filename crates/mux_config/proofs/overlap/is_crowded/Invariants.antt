use Rattle.mux_config.proofs.Words.{◌≡◌, drop, is_crowded}
use Rattle.mux_config.proofs.overlap.is_crowded.Given as goal

abbrev pub invariant-loop-place : goal.invariant-loop-place
invariant-loop-place l = (is_crowded (drop l.place l.subs) ≡ is_crowded l.subs)
