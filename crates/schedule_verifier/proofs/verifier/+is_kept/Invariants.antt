use Rattle.schedule_verifier.proofs.verifier.+is_kept.Given as goal

abbrev pub decreases-is_kept : goal.decreases-is_kept
decreases-is_kept l = l.left
