use Rattle.schedule_compiler.proofs.decisions.Decisions.+contacts.Given as goal

abbrev pub decreases-contacts : goal.decreases-contacts
decreases-contacts l = l.left
