use Rattle.takeover_laws.proofs.Moving.{plans_play_on}
use Rattle.takeover_laws.proofs.laws.plays_on.Goals as goal

pub returns : goal.returns
returns c = plans_play_on
