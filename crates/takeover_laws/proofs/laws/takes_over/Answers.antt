use Rattle.takeover_laws.proofs.Arriving.{plans_take_over_in_time}
use Rattle.takeover_laws.proofs.Handing.{plans_take_over}
use Rattle.takeover_laws.proofs.laws.takes_over.Goals as goal

pub returns-clause-hands_over : goal.returns-clause-hands_over
returns-clause-hands_over c = plans_take_over c.transforming.ensures.between

pub returns-clause-in_time : goal.returns-clause-in_time
returns-clause-in_time c = plans_take_over_in_time c.transforming.ensures.between
