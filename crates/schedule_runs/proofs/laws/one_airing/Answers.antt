use Rattle.schedule_runs.proofs.Playing.{schedules_come_to_one}
use Rattle.schedule_runs.proofs.laws.one_airing.Goals as goal

pub returns : goal.returns
returns c = schedules_come_to_one
