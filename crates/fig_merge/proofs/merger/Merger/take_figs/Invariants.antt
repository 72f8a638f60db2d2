use Rattle.fig_merge.proofs.Words.{◌≡◌, AllByRecursion, IsSendable, length, taken_of, with_figs}
use Rattle.fig_merge.proofs.merger.Merger.take_figs.Given as goal

abbrev pub invariant-loop-fig : goal.invariant-loop-fig
invariant-loop-fig l = record {
  so_far : with_figs (taken_of l.figs) l.self ≡ with_figs (taken_of l.initial.figs) l.initial.self;
  sendable : AllByRecursion IsSendable l.figs;
}

abbrev pub decreases-loop-fig : goal.decreases-loop-fig
decreases-loop-fig l = length l.figs
