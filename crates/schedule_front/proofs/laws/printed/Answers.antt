use Rattle.schedule_front.proofs.PrintedAgain.{printed_are_read}
use Rattle.schedule_front.proofs.laws.printed.Goals as goal

pub returns : goal.returns
returns c = printed_are_read
