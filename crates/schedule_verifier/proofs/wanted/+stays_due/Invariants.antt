use Rattle.schedule_verifier.proofs.wanted.+stays_due.Given as goal

abbrev pub decreases-stays_due : goal.decreases-stays_due
decreases-stays_due l = l.left
