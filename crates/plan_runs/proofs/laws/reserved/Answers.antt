use Rattle.plan_runs.proofs.Words.{pages_keep_reserve}
use Rattle.plan_runs.proofs.Right.{page_laws}
use Rattle.plan_runs.proofs.Headline.{reserves_are_kept}
use Rattle.plan_runs.proofs.laws.reserved.Goals as goal

pub returns : goal.returns
returns c = reserves_are_kept pages_keep_reserve page_laws
