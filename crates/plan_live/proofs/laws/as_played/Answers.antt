use Rattle.plan_live.proofs.OneFile.{live_is_playback}
use Rattle.plan_live.proofs.laws.as_played.Goals as goal

pub returns : goal.returns
returns c = live_is_playback c.lines.ensures
