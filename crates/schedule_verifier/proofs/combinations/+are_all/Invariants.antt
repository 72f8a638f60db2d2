use Rattle.schedule_verifier.proofs.combinations.+are_all.Given as goal

abbrev pub decreases-are_all : goal.decreases-are_all
decreases-are_all l = l.left
