use Rattle.plan_runs.proofs.Swaps.{swaps_are_on_steps, swaps_change_the_current, commits_are_kept}
use Rattle.plan_runs.proofs.Uncommitted.{swaps_are_committed}
use Rattle.plan_runs.proofs.laws.swaps.Goals as goal

pub returns-clause-on_steps : goal.returns-clause-on_steps
returns-clause-on_steps c = swaps_are_on_steps

pub returns-clause-current : goal.returns-clause-current
returns-clause-current c = swaps_change_the_current

pub returns-clause-commits : goal.returns-clause-commits
returns-clause-commits c = commits_are_kept c.commits.ensures.in_time c.commits.ensures.at_count

pub returns-clause-committed : goal.returns-clause-committed
returns-clause-committed c = swaps_are_committed
