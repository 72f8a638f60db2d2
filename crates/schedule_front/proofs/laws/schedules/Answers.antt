use Rattle.schedule_front.proofs.ReadingSchedules.{schedules_alike}
use Rattle.schedule_front.proofs.laws.schedules.Goals as goal

pub returns : goal.returns
returns c = schedules_alike
