use Rattle.fig_merge.proofs.Ledger.{the_longest_waiting_goes}
use Rattle.fig_merge.proofs.laws.order.Goals as goal

pub returns : goal.returns
returns c = the_longest_waiting_goes
