use Rattle.schedule_front.proofs.Words.{rules}
use Rattle.schedule_front.specs.Readers.{schedule_at}
use Rattle.schedule_front.proofs.ReadingSchedules.{schedule_given}
use Rattle.schedule_front.proofs.parser.schedule.Goals as goal

pub new-requires : goal.new-requires
unfolding schedule_at
new-requires c = (schedule_given c.args.reader.now _ (search rules)).0
