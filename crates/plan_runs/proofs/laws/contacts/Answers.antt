use Rattle.plan_runs.proofs.LastLevels.{last_levels_count}
use Rattle.plan_runs.proofs.laws.contacts.Goals as goal

pub returns : goal.returns
returns c = last_levels_count
