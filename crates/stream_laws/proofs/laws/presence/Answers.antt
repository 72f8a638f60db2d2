use Rattle.stream_laws.proofs.Staying.{current_stays, current_is_sent}
use Rattle.stream_laws.proofs.laws.presence.Goals as goal

pub returns-clause-stays : goal.returns-clause-stays
returns-clause-stays c = current_stays

pub returns-clause-sent : goal.returns-clause-sent
returns-clause-sent c = current_is_sent
