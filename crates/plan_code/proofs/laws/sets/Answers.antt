use Rattle.plan_code.proofs.Bits.{counters_change_alone, contacts_change_alone}
use Rattle.plan_code.proofs.laws.sets.Goals as goal

pub returns-clause-counters : goal.returns-clause-counters
returns-clause-counters c = counters_change_alone

pub returns-clause-contacts : goal.returns-clause-contacts
returns-clause-contacts c = contacts_change_alone
