use Rattle.fig_merge.proofs.Words.{◌+◌, ◌≡◌, data_of, length}
use Rattle.fig_merge.proofs.merger.data_len.Given as goal

abbrev pub invariant-loop-fig : goal.invariant-loop-fig
invariant-loop-fig l = l.len + length (data_of l.figs) ≡ length (data_of l.initial.figs)

abbrev pub decreases-loop-fig : goal.decreases-loop-fig
decreases-loop-fig l = length l.figs
