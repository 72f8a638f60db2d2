use Rattle.fig_merge.proofs.Carried.{all_are_carried}
use Rattle.fig_merge.proofs.laws.carried.Goals as goal

pub returns : goal.returns
returns c = all_are_carried
