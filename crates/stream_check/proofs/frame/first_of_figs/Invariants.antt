use Rattle.stream_check.proofs.Words.{◌≡◌, first_in_figs, length}
use Rattle.stream_check.proofs.frame.first_of_figs.Given as goal

abbrev pub invariant-loop-fig : goal.invariant-loop-fig
invariant-loop-fig l = first_in_figs l.figs ≡ first_in_figs l.initial.figs

abbrev pub decreases-loop-fig : goal.decreases-loop-fig
decreases-loop-fig l = length l.figs
