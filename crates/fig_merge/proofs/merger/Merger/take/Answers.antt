use Rattle.fig_merge.proofs.Passing.{sendable}
use Rattle.fig_merge.proofs.merger.Merger.take.Goals as goal

pub take_figs-requires : goal.take_figs-requires
take_figs-requires c = sendable c.args.fib.now c.in-Ok.figs c.in-Ok.ensures.figs
