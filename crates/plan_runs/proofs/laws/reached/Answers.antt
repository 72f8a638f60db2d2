use Rattle.plan_runs.proofs.Reached.{starts_are_reached, reached_is_kept}
use Rattle.plan_runs.proofs.laws.reached.Goals as goal

pub returns-clause-start : goal.returns-clause-start
returns-clause-start c = starts_are_reached

pub returns-clause-kept : goal.returns-clause-kept
returns-clause-kept c = reached_is_kept
