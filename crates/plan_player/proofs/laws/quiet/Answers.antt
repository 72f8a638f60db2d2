use Rattle.plan_player.proofs.Quiet.{quiet_frames_are_copied}
use Rattle.plan_player.proofs.laws.quiet.Goals as goal

pub returns : goal.returns
returns c = quiet_frames_are_copied
