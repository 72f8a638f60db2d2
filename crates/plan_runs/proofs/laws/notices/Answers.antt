use Rattle.plan_runs.proofs.Announcing.{swaps_are_announced, heard_is_known}
use Rattle.plan_runs.proofs.Counted.{swaps_come_as_announced}
use Rattle.plan_runs.proofs.Right.{page_laws}
use Rattle.plan_runs.proofs.laws.notices.Goals as goal

pub returns-clause-announced : goal.returns-clause-announced
returns-clause-announced c = swaps_are_announced page_laws

pub returns-clause-counted : goal.returns-clause-counted
returns-clause-counted c = swaps_come_as_announced page_laws

pub returns-clause-heard : goal.returns-clause-heard
returns-clause-heard c = heard_is_known
