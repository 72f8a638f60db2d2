use Rattle.stream_laws.proofs.Delivered.{runs_are_cleared, runs_are_heard_out}
use Rattle.stream_laws.proofs.laws.bytes.Goals as goal

pub returns-clause-pieces : goal.returns-clause-pieces
returns-clause-pieces c = runs_are_cleared c.one_list.ensures c.ensemble.ensures c.headline.ensures
    c.no_false_alarm.ensures

pub returns-clause-whole : goal.returns-clause-whole
returns-clause-whole c = runs_are_heard_out c.one_list.ensures c.ensemble.ensures c.headline.ensures c.frames.ensures
