use Rattle.schedule_front.proofs.ReadingSchedules.{schedules_are_read}
use Rattle.schedule_front.proofs.laws.readings.Goals as goal

pub returns : goal.returns
returns c = schedules_are_read
