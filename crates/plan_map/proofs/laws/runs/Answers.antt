use Rattle.plan_map.proofs.Executed.{runs_begin, commits_are_rows}
use Rattle.plan_map.proofs.SentRows.{frames_send_rows}
use Rattle.plan_map.proofs.laws.runs.Goals as goal

pub returns-clause-begins : goal.returns-clause-begins
returns-clause-begins c = runs_begin

pub returns-clause-commits : goal.returns-clause-commits
returns-clause-commits c = commits_are_rows

pub returns-clause-sends : goal.returns-clause-sends
returns-clause-sends c = frames_send_rows c.typed_code_runs.ensures
