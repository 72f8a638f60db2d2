use Rattle.schedule_compiler.proofs.search.+add_ways.Given as goal

abbrev pub decreases-add_ways : goal.decreases-add_ways
decreases-add_ways l = l.left
