use Rattle.schedule_runs.proofs.Runs.{schedules_are_kept}
use Rattle.schedule_runs.proofs.laws.kept.Goals as goal

pub returns : goal.returns
returns c = schedules_are_kept c.commits.ensures.in_time
