use Rattle.schedule_verifier.proofs.Tops.{AreKeptBelow}
use Rattle.schedule_verifier.proofs.verifier.are_kept.Given as goal

abbrev pub invariant-loop-label : goal.invariant-loop-label
invariant-loop-label l = AreKeptBelow l.schedule l.code l.label-index
