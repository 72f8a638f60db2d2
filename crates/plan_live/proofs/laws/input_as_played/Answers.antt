use Rattle.plan_live.proofs.OneFile.{input_is_playback}
use Rattle.plan_live.proofs.laws.input_as_played.Goals as goal

pub returns : goal.returns
returns c = input_is_playback c.lines.ensures c.one_list.ensures
