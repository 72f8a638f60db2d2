use Rattle.script_config.proofs.Words.{◌≡◌, length, named_by_entries}
use Rattle.script_config.proofs.ensembles.eid_of_entries.Given as goal

abbrev pub invariant-loop-entry : goal.invariant-loop-entry
invariant-loop-entry l = named_by_entries l.entries l.eid ≡ named_by_entries l.initial.entries l.initial.eid

abbrev pub decreases-loop-entry : goal.decreases-loop-entry
decreases-loop-entry l = length l.entries
