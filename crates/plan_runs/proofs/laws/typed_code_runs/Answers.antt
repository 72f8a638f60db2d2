use Rattle.plan_runs.proofs.TypedRuns.{typed_code_runs}
use Rattle.plan_runs.proofs.laws.typed_code_runs.Goals as goal

pub returns : goal.returns
returns c = typed_code_runs
