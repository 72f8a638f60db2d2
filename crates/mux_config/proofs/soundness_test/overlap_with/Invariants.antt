use Rattle.mux_config.proofs.Words.{◌≡◌, drop, overlap_with}
use Rattle.mux_config.proofs.soundness_test.overlap_with.Given as goal

abbrev pub invariant-loop-place : goal.invariant-loop-place
invariant-loop-place g l =
    let k = g.S.Store.content l.store in
    overlap_with l.sub (drop l.place k.subs) ≡ overlap_with l.sub (drop l.from k.subs)
