use Rattle.stream_check.proofs.NotedOnce.{are_reported_once, none_is_left_out}
use Rattle.stream_check.proofs.laws.contradictions.Goals as goal

pub returns-clause-once : goal.returns-clause-once
returns-clause-once c = are_reported_once

pub returns-clause-every : goal.returns-clause-every
returns-clause-every c = none_is_left_out
