use Rattle.schedule_front.proofs.ReadingSchedules.{one_schedule}
use Rattle.schedule_front.proofs.laws.texts_of_schedules.Goals as goal

pub returns : goal.returns
returns c = one_schedule
