use Rattle.mux_config.proofs.Words.{◌≡◌, drop, first_overlap}
use Rattle.mux_config.proofs.soundness_test.first_overlap.Given as goal

abbrev pub invariant-loop-place : goal.invariant-loop-place
invariant-loop-place g l =
    let k = g.S.Store.content l.store in
    first_overlap (drop l.place k.subs) ≡ first_overlap k.subs
