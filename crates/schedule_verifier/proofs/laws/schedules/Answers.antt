use Rattle.schedule_verifier.proofs.Played.{certified_codes_play}
use Rattle.schedule_verifier.proofs.laws.schedules.Goals as goal

pub returns : goal.returns
returns c = certified_codes_play c.one_airing.ensures
