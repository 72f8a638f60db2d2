use Rattle.plan_debug.proofs.Flagged.{announcements_are_flagged}
use Rattle.plan_debug.proofs.laws.announcements.Goals as goal

pub returns : goal.returns
returns c = announcements_are_flagged c.headers.ensures c.reached.ensures.kept
