use Rattle.plan_map.proofs.KnownRows.{rows_are_commits}
use Rattle.plan_map.proofs.laws.rows.Goals as goal

pub returns : goal.returns
returns c = rows_are_commits
