use Rattle.cli_streams.proofs.ByCalls.{by_calls, merged_are_filled, merged_alike}
use Rattle.cli_streams.proofs.laws.merging.Goals as goal

pub returns-clause-calls : goal.returns-clause-calls
returns-clause-calls c = by_calls

pub returns-clause-frames : goal.returns-clause-frames
returns-clause-frames c = merged_are_filled c.filled.ensures.read

pub returns-clause-findings : goal.returns-clause-findings
returns-clause-findings c = merged_alike c.filled.ensures.read c.checked.ensures.findings
