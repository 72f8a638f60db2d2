use Rattle.schedule_compiler.proofs.decisions.Decisions.+over.Given as goal

abbrev pub decreases-over : goal.decreases-over
decreases-over l = l.left
