use Rattle.script_config.proofs.Words.{◌≡◌, length, named_by_figs}
use Rattle.script_config.proofs.ensembles.eid_of_figs.Given as goal

abbrev pub invariant-loop-fig : goal.invariant-loop-fig
invariant-loop-fig l = named_by_figs l.figs l.eid ≡ named_by_figs l.initial.figs l.initial.eid

abbrev pub decreases-loop-fig : goal.decreases-loop-fig
decreases-loop-fig l = length l.figs
