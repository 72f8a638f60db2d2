use Rattle.plan_live.proofs.OneFile.{lines_list_in_turn}
use Rattle.plan_live.proofs.laws.one_file.Goals as goal

pub returns : goal.returns
returns c = lines_list_in_turn
