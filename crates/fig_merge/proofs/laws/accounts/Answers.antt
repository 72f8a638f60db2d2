use Rattle.fig_merge.proofs.Ledger.{all_are_accounted}
use Rattle.fig_merge.proofs.laws.accounts.Goals as goal

pub returns : goal.returns
returns c = all_are_accounted
